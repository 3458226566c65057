-- What the rounds need is so when the cluster begins, and between two calls.
use Rattle.std.proofs.Common.{arith, ◌≡◌, ℕ, ◌+◌, ◌≤◌, ◌==◌, Bool, true, false, List, [], ◌∷◌, Option, Some, None, option_map, refl, subst}
use Rattle.std.proofs.lemmas.Bool.{eqb-true}
use Rattle.std.specs.BTreeMap.{is_at}
use Rattle.std.specs.List.{list_any}
use Rattle.std.specs.Map.{set_value}
use Rattle.std.specs.Ordering.{nat_cmp}
use Rattle.sprite_ids.specs.Lists.{EachOnce, one_if, total}
use Rattle.sprite_ids.proofs.OnceLaws.{or_false}
use Rattle.process_machine.specs.Machine.{Machine}
use Rattle.kernel_steps.specs.Rows.{is_under}
use Rattle.unix_calls.specs.declared.Description.{Description}
use Rattle.client_file_tables.specs.Rows.{same_pid}
use Rattle.client_homes.specs.declared.client.ClientProcs.{ClientProcs}
use Rattle.client_homes.specs.declared.process.Proc.{Proc}
use Rattle.client_homes.specs.Procs.{proc_at, with_proc}
use Rattle.client_procs.specs.Boot.{boots}
use Rattle.client_procs.specs.Readers.{with_image}
use Rattle.client_facts.specs.FileFacts.{same_process}
use Rattle.client_facts.proofs.BootLaws.{procs_begin_with_facts}
use Rattle.client_rounds.specs.Rounds.{MayTurn, due_to, here, leaves, of_process}
use Rattle.client_rounds.proofs.Totals.{total_set}

none_counted : {V : Type 0} (q : ℕ) (rows : List (ℕ × V)) → list_any (is_under same_pid q) rows ≡ false → total (of_process q) rows ≡ 0
none_counted q [] h = refl
none_counted {V} q ((key, value) ∷ rows) h =
    let parts = or_false (key == q) (list_any (is_under same_pid q) rows) h in
    none_by (key == q) (total (of_process q) rows) parts.0 (none_counted q rows parts.1)
  where
    none_by : (b : Bool) (n : ℕ) → b ≡ false → n ≡ 0 → one_if b + n ≡ 0
    none_by true n e h = absurd (cc)
    none_by false n e h = omega arith

once_by : {V : Type 0} (q key : ℕ) (rows : List (ℕ × V)) (b : Bool) → (key == q) ≡ b → list_any (is_under same_pid key) rows ≡ false → total (of_process q) rows ≤ 1 → one_if b + total (of_process q) rows ≤ 1
once_by {V} q key rows true e none h = (let zero_so = none_counted q rows (subst (λ (k : ℕ). list_any (is_under same_pid k) rows ≡ false) (eqb-true key q e) none) in omega arith)
once_by {V} q key rows false e none h = omega arith

once_counted : {V : Type 0} (q : ℕ) (rows : List (ℕ × V)) → EachOnce same_process rows → total (of_process q) rows ≤ 1
once_counted q [] h = omega arith
once_counted {V} q ((key, value) ∷ rows) h = once_by q key rows (key == q) refl h.0 (once_counted q rows h.1)

pub begins_so : (d : Description) (kernel : ℕ) → MayTurn (boots d kernel)
begins_so d kernel = record {
  due = λ q. omega arith;
  moves = λ q. omega arith;
  apart = λ q. (let once = once_counted q (boots d kernel).procs (procs_begin_with_facts d kernel).once in omega arith);
  ways = tt;
  turns = tt;
  queues = tt;
  short = refl;
}

set_kept : (p : ℕ → Bool) (proc : Proc) (s : ClientProcs) → MayTurn s → MayTurn (record s { procs = set_value p s.procs proc })
set_kept p proc s may = record {
  due = λ q. (let same : total (of_process q) (set_value p s.procs proc) ≡ total (of_process q) s.procs = total_set (λ (key : ℕ). one_if (key == q)) p s.procs proc in let so : due_to q s ≤ here q s = may.due q in omega arith);
  moves = may.moves;
  apart = λ q. (let same : total (of_process q) (set_value p s.procs proc) ≡ total (of_process q) s.procs = total_set (λ (key : ℕ). one_if (key == q)) p s.procs proc in let so : here q s + leaves q s ≤ 1 = may.apart q in omega arith);
  ways = may.ways;
  turns = may.turns;
  queues = may.queues;
  short = may.short;
}

image_by : (o : Option Proc) (s : ClientProcs) (pid : ℕ) (image : Machine) → MayTurn s → MayTurn (with_proc pid (option_map {T = Proc} (λ proc. record proc { image = image }) o) s)
image_by None s pid image may = may
image_by (Some proc) s pid image may = set_kept (is_at (nat_cmp pid)) (record proc { image = image }) s may

pub images_keep_this : (s : ClientProcs) (pid : ℕ) (image : Machine) → MayTurn s → MayTurn (with_image pid image s)
images_keep_this s pid image may = image_by (proc_at pid s) s pid image may
