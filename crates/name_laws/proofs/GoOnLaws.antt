-- What a server keeps, and what a request needs, behind the entries of others.
use Rattle.std.proofs.Common.{◌≡◌, ◌+◌, true, List, None, Some, sym, ap, subst, ◌∙◌}
use Rattle.std.specs.Option.{is_some}
use Rattle.sprite_paths.specs.Path.{clean_path}
use Rattle.process_machine.specs.Runs.{at_next_call}
use Rattle.packet_bodies.specs.declared.NameRequest.{NameRequest}
use Rattle.unix_calls.specs.declared.Description.{Description}
use Rattle.unix_calls.specs.declared.state.Process.{Process}
use Rattle.unix_calls.specs.State.{Unix, lives, process_at}
use Rattle.unix_calls.specs.Answers.{program_at}
use Rattle.unix_calls.proofs.ProcessLaws.{found_pid}
use Rattle.unix_frames.specs.Frames.{KeepsOther}
use Rattle.unix_frames.proofs.FrameLaws.{entries_leave}
use Rattle.server_kernel.specs.declared.Server.{Server}
use Rattle.server_kernel.specs.Directory.{domain_at}
use Rattle.server_kernel.specs.Names.{name_call}
use Rattle.home_laws.specs.Calls.{IsNextCall}
use Rattle.tree_laws.specs.Trees.{Parts}
use Rattle.name_laws.specs.GoOn.{FitsGoOn, ServersGoOn}
use Rattle.name_laws.specs.Served.{AreKept, Fits, NewFits}
use Rattle.name_laws.proofs.GoLaws.{one_as}

pub servers_go_on : ServersGoOn
servers_go_on ties c u v e trees s entry no_names serves =
    let leaves = entries_leave c entry.journal u v e entry.few entry.was entry.is in
    record {
      one = one_as ties u v trees (leaves.names no_names) leaves.roots serves.one;
      roots = serves.roots ∙ sym leaves.roots;
      kept = subst (λ (rs : List Parts). AreKept rs trees s.domains) (sym leaves.roots) serves.kept;
    }

-- a process with no more than a kill or a wait of another one
next_same : (c : Description) (s : Server) (r : NameRequest) (u v : Unix) (p q : Process) → q ≡ record p { killed = q.killed; waited = q.waited } → process_at v.processes r.pid ≡ Some q
    → lives p ≡ true → p.asking ≡ None → r.number ≡ p.calls + 1 → IsNextCall c p (name_call r) → clean_path p.cwd r.text ≡ Some r.path → NewFits r.op p.cwd r → is_some (domain_at r.path s) ≡ true → Fits c v s r
next_same c s r u v p q whole there living idle numbered next path new here =
    let image = ap (λ (x : Process). x.image) whole in
    let cwd = ap (λ (x : Process). x.cwd) whole in
    record {
      calls = record {
        may = record {
          process = q;
          there = there;
          living = ap (λ (x : Process). lives x) whole ∙ living;
          idle = ap (λ (x : Process). x.asking) whole ∙ idle;
          numbered = numbered ∙ ap (λ (x : Process). x.calls + 1) (sym whole);
        };
        next = record {
          program = next.program;
          image = next.image;
          program_is = ap (λ m. program_at c.programs m) (ap (λ (x : Process). x.image.number) whole) ∙ next.program_is;
          comes = ap (λ (x : Process). at_next_call next.program x.image) whole ∙ next.comes;
          call_is = next.call_is;
        };
      };
      path = ap (λ (x : Process). clean_path x.cwd r.text) whole ∙ path;
      new = subst (λ (d : Parts). NewFits r.op d r) (sym cwd) new;
      here = here;
    }

pub fits_go_on : FitsGoOn
fits_go_on c u v e s r entry other fits =
    let may = fits.calls.may in
    let leaves = entries_leave c entry.journal u v e entry.few entry.was entry.is in
    let pid : may.process.pid ≡ r.pid = found_pid u.processes r.pid may.process may.there in
    let keeps : KeepsOther e v may.process = leaves.others may.process (ap (process_at u.processes) pid ∙ may.there) (λ same. other (sym pid ∙ same)) in
    next_same c s r u v may.process keeps.after keeps.whole (ap (process_at v.processes) (sym pid) ∙ keeps.there) may.living may.idle may.numbered fits.calls.next fits.path fits.new fits.here
