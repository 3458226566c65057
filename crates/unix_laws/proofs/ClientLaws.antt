-- Each process's home is a client.
use Rattle.std.proofs.Common.{◌≡◌, ◌≤◌, ◌+◌, ℕ, Bool, true, ◌&&◌, List, [], ◌∷◌, length, Option, Some, None, sym, ap, ◌∙◌, arith}
use Rattle.std.specs.Prelude.{◌==◌, nat_lt, ◌^◌}
use Rattle.std.specs.List.{AllByRecursion, list_all}
use Rattle.std.proofs.lemmas.List.Sums.{count_by-le-length}
use Rattle.std.proofs.lemmas.Bool.{and_parts}
use Rattle.sprite_ids.specs.Pid.{home_of}
use Rattle.process_machine.specs.declared.program.Program.{Program}
use Rattle.process_machine.specs.Fresh.{fresh_machine}
use Rattle.unix_calls.specs.declared.Description.{Description}
use Rattle.unix_calls.specs.declared.Entry.{Entry}
use Rattle.unix_calls.specs.declared.ProgramLine.{ProgramLine}
use Rattle.unix_calls.specs.declared.StartLine.{StartLine}
use Rattle.unix_calls.specs.declared.state.Process.{Process}
use Rattle.unix_calls.specs.declared.state.Stream.{Stream}
use Rattle.unix_calls.specs.State.{Unix, births, next_pid, put_process}
use Rattle.unix_calls.specs.Answers.{program_at}
use Rattle.unix_calls.specs.Boot.{new_process, started, started_by}
use Rattle.unix_calls.specs.Lawful.{holds, is_client_at, is_start, numbered}
use Rattle.unix_calls.specs.After.{after}
use Rattle.unix_calls.proofs.ProcessLaws.{each_put, found_each, found_pid}
use Rattle.unix_calls.proofs.HistoryLaws.{kept}
use Rattle.unix_calls.proofs.LawfulLaws.{lawful_begins_within}
use Rattle.unix_frames.proofs.OrderLaws.{length_put, next_home}
use Rattle.unix_laws.specs.Clients.{ProcessesAreOfClients}
use Rattle.unix_frames.proofs.EntryLaws.{opened}
use Rattle.unix_laws.proofs.SpreadLaws.{Doubles, Frees, Keeps, Opens, Own, Spreads, Stops, enters_each}

abbrev IsOfClient : Description → Process → Type 0
IsOfClient c p = is_client_at c.kernels (home_of p.pid) ≡ true

own_pid : (streams now : List Stream) (entries : ℕ) (p r : Process) → Own streams now entries p r → r.pid ≡ p.pid
own_pid streams now entries p r (Keeps pid parent end same) = pid
own_pid streams now entries p r (Frees fd leads) = leads.alike.pid
own_pid streams now entries p r (Doubles fd free stream found leads) = leads.alike.pid
own_pid streams now entries p r (Opens fd there leads) = leads.alike.pid
own_pid streams now entries p r (Stops pid parent none dead) = pid

clients : (c : Description) (streams now : List Stream) (entries pid : ℕ) → Spreads (IsOfClient c) (IsOfClient c) streams now entries pid
clients c streams now entries pid =
    record {
      image = λ p m h. h;
      own = λ p r mine alive h own. ap (λ n. is_client_at c.kernels (home_of n)) (own_pid streams now entries p r own) ∙ h;
      marked = λ p killed waited h. h;
      born = λ p child h home parent fresh. ap (is_client_at c.kernels) home ∙ h;
    }

clients_after : (c : Description) (u v : Unix) (e : Entry) → after c u e ≡ Some v → AllByRecursion (IsOfClient c) u.processes → AllByRecursion (IsOfClient c) v.processes
clients_after c u v e is h =
    let o = opened c u v e is in
    Rattle.std.proofs.Common.subst (λ (x : Unix). AllByRecursion (IsOfClient c) x.processes) (sym o.whole) (enters_each (IsOfClient c) (IsOfClient c) c u o.later e o.enters (clients c u.streams o.later.streams u.entries e.pid) h)

-- the start lines one after another
started_clients : (c : Description) (ps : List Process) (lines : List StartLine) → length ps + length lines ≤ 200 → list_all (is_start c) lines ≡ true → AllByRecursion (IsOfClient c) ps → AllByRecursion (IsOfClient c) (started c.programs ps lines)
started_clients c ps [] few fit h = h
started_clients c ps (line ∷ lines) few fit h = by (program_at c.programs line.program) (λ qs. started_clients c qs lines)
  where
    first : is_start c line ≡ true
    first = (and_parts (is_start c line) (list_all (is_start c) lines) fit).0

    has_program : Bool
    has_program = holds (λ (line : ProgramLine). true) (numbered c.programs line.program)

    host : is_client_at c.kernels line.host ≡ true
    host = (and_parts (is_client_at c.kernels line.host) has_program (and_parts (is_client_at c.kernels line.host && has_program) (nat_lt line.arg (2 ^ 63)) first).0).0

    count : births ps line.host ≤ length ps
    count = count_by-le-length (λ (p : Process). home_of p.pid == line.host) ps

    home : home_of (next_pid ps line.host) ≡ line.host
    home = next_home line.host (births ps line.host) (omega (arith, few, count))

    by : (found : Option Program) → ((qs : List Process) → length qs + length lines ≤ 200 → list_all (is_start c) lines ≡ true → AllByRecursion (IsOfClient c) qs → AllByRecursion (IsOfClient c) (started c.programs qs lines)) → AllByRecursion (IsOfClient c) (started c.programs (started_by line ps found) lines)
    by None rest = rest ps (omega (arith, few)) (and_parts (is_start c line) (list_all (is_start c) lines) fit).1 h
    by (Some program) rest =
        let new = new_process (next_pid ps line.host) (fresh_machine program line.arg) in
        rest (put_process new ps) (omega (arith, few, length_put new ps)) (and_parts (is_start c line) (list_all (is_start c) lines) fit).1
        (each_put (IsOfClient c) new ps (ap (is_client_at c.kernels) home ∙ host) h)

pub processes_are_of_clients : ProcessesAreOfClients
processes_are_of_clients c journal u pid p lawful is there =
    let few = (lawful_begins_within c lawful).starts in
    let all : AllByRecursion (IsOfClient c) u.processes =
    kept c (λ (w : Unix). AllByRecursion (IsOfClient c) w.processes) (clients_after c) journal u (started_clients c [] c.starts (omega (arith, few)) lawful.starts tt) is in
    ap (λ n. is_client_at c.kernels (home_of n)) (sym (found_pid u.processes pid p there)) ∙ found_each (IsOfClient c) u.processes pid p all there
