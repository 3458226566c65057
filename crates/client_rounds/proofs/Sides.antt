-- What the rounds' law sees of a client's kernel, and bounds of it.
use Rattle.std.proofs.Common.{arith, ◌≡◌, ℕ, ◌+◌, ◌*◌, ◌≤◌, true, List, length, Option}
use Rattle.std.specs.List.{AllByRecursion, list_all}
use Rattle.sprite_ids.specs.declared.StreamNo.{StreamNo}
use Rattle.sprite_ids.specs.declared.TxNo.{TxNo}
use Rattle.sprite_ids.specs.Lists.{EachOnce, one_if, total}
use Rattle.process_machine.specs.declared.Reply.{Reply}
use Rattle.migrate_freeze.specs.declared.frozen.MoveStep.{MoveStep}
use Rattle.migrate_freeze.specs.declared.frozen.MoveStep.TheVariants as steps
use Rattle.unix_calls.specs.declared.About.{About}
use Rattle.client_file_tables.specs.declared.moves.Report.{Report}
use Rattle.client_file_tables.specs.declared.pending.Pending.{Pending}
use Rattle.client_file_tables.specs.Rows.{is_pid}
use Rattle.client_homes.specs.declared.client.ClientProcs.{ClientProcs}
use Rattle.client_homes.specs.declared.client.Leaving.{Leaving}
use Rattle.client_homes.specs.declared.client.Parked.{Parked}
use Rattle.client_homes.specs.declared.process.Proc.{Proc}
use Rattle.client_facts.specs.FileFacts.{same_wait}
use Rattle.client_facts.specs.GoingOn.{has_few_fds}
use Rattle.client_facts.specs.HomeFacts.{is_own}
use Rattle.client_rounds.specs.Rounds.{IsUnderWay, ask_of, end_of, is_own_ask, move_of, moved_of, of_process, room_in, wait_of, work_of}
use Rattle.client_rounds.proofs.RunLaws.{answer_of, one}

pub record Side : Type 0 where
  pub pending : List (ℕ × Pending)
  pub replies : List (ℕ × Reply)
  pub results : List Report
  pub ready : List ℕ
  pub fillers : List ℕ
  pub lock_waits : List (StreamNo × ℕ)
  pub waits : List (ℕ × Parked)
  pub asked : List (About × Option TxNo)
  pub procs : List (ℕ × Proc)
  pub leaving : List (ℕ × Leaving)

abbrev pub side_of : ClientProcs → Side
side_of s = record {
  pending = s.files.pending;
  replies = s.files.out.replies;
  results = s.files.results;
  ready = s.files.ready;
  fillers = s.files.fillers;
  lock_waits = s.files.lock_waits;
  waits = s.waits;
  asked = s.asked;
  procs = s.procs;
  leaving = s.leaving;
}

abbrev pub due_at : ℕ → Side → ℕ
due_at q v = total (work_of q) v.pending + total (of_process q) v.replies + total (end_of q) v.results + total (wait_of q) v.waits + total (ask_of q) v.asked

abbrev pub moves_at : ℕ → Side → ℕ
moves_at q v = total (move_of q) v.pending + total (moved_of q) v.results

abbrev pub here_at : ℕ → Side → ℕ
here_at q v = total (of_process q) v.procs

abbrev pub leaves_at : ℕ → Side → ℕ
leaves_at q v = total (of_process q) v.leaving

-- how many moves a process that leaves has room for
abbrev pub room_of : MoveStep → ℕ
room_of (steps.Moving moving) = room_in moving.freeze.moved
room_of (steps.Sent sent) = 0

abbrev pub left_of : ℕ × Leaving → ℕ
left_of row = room_of row.1.step

abbrev pub own_wait : ℕ × Parked → ℕ
own_wait row = one_if (is_own row)

abbrev pub own_ask : About × Option TxNo → ℕ
own_ask row = one_if (is_own_ask row)

abbrev pub each : ℕ × Proc → ℕ
each row = 1

-- what the rounds may cost that are left, but for what is ready
abbrev pub price : Side → ℕ
price v = 2 * total answer_of v.pending + 2 * total one v.replies + 2 * total own_wait v.waits + 2 * total own_ask v.asked + 17 * total each v.procs + total left_of v.leaving

-- of the reports nothing is asked
abbrev pub Any : List Report → Type 0
Any told = Unit {0}

-- with so much in hand it stands within these bounds: something due to the process, the process as one that leaves, a move of it, and so
-- much of the price; and of the reports is so what is asked
pub record Stands (q W : ℕ) (Q : List Report → Type 0) (d l m w : ℕ) (v : Side) : Type 0 where
  pub due : due_at q v + d ≤ here_at q v
  pub moves : moves_at q v + m ≤ leaves_at q v + l
  pub apart : here_at q v + leaves_at q v + l ≤ 1
  pub weight : price v + length v.ready + w ≤ W
  pub ways : AllByRecursion (λ (row : ℕ × Leaving). IsUnderWay row.1.step) v.leaving
  pub turns : EachOnce is_pid v.fillers
  pub queues : EachOnce same_wait v.lock_waits
  pub short : list_all has_few_fds v.pending ≡ true
  pub held : Q v.results

pub stands_less : (q W : ℕ) (Q : List Report → Type 0) (d l m w e n x : ℕ) (v : Side) → e ≤ d → n ≤ m → x ≤ w → Stands q W Q d l m w v → Stands q W Q e l n x v
stands_less q W Q d l m w e n x v f g h p =
    let due_so = p.due in
    let moves_so = p.moves in
    let weight_so = p.weight in
    record { due = omega arith; moves = omega arith; apart = p.apart; weight = omega arith; ways = p.ways; turns = p.turns; queues = p.queues; short = p.short; held = p.held }
