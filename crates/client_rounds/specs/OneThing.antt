-- A client's kernel, where each process waits for one thing at most.
use Rattle.std.specs.Prelude.{◌≡◌, ℕ, ◌+◌, ◌≤◌, ◌==◌, Bool, true, false, if◌then◌else◌, []}
use Rattle.std.specs.List.{AllByRecursion}
use Rattle.sprite_ids.specs.Lists.{one_if, total}
use Rattle.sprite_ids.specs.declared.TxNo.{TxNo}
use Rattle.kernel_steps.specs.declared.Input.{Input}
use Rattle.process_machine.specs.Machine.{Machine}
use Rattle.unix_calls.specs.declared.Description.{Description}
use Rattle.client_homes.specs.declared.client.ClientProcs.{ClientProcs}
use Rattle.client_homes.specs.declared.client.Leaving.{Leaving}
use Rattle.client_homes.specs.declared.client.Unfinished.{Unfinished}
use Rattle.client_homes.specs.declared.client.Unfinished.TheVariants as unfinished
use Rattle.client_homes.specs.declared.process.Proc.{Proc}
use Rattle.client_homes.specs.declared.process.ProcState.{ProcState}
use Rattle.client_homes.specs.declared.process.ProcState.TheVariants as states
use Rattle.client_procs.specs.Boot.{boots}
use Rattle.client_procs.specs.Readers.{with_image}
use Rattle.client_procs.specs.Steps.{begins_step, client_step, takes}
use Rattle.client_procs.specs.Turning.{goes_on, is_quiet}
use Rattle.client_facts.specs.FileFacts.{QueuesAreOnce, TurnsAreOnce}
use Rattle.client_facts.specs.GoingOn.{ClosesAreShort}
use Rattle.client_facts.specs.ProcFacts.{gets_from, is_moving_in}
use Rattle.client_walks.specs.Hands.{brought}
use Rattle.client_walks.specs.PlacesOnce.{InHand, PlacesAreOnce}
use Rattle.client_rounds.specs.Rounds.{IsUnderWay, MayTurn, due_to, here, leaves, moves_of, of_process}

-- whether a process in that state waits for something other than an ask of its device
abbrev pub is_busy : ProcState → Bool
is_busy states.Ready = false
is_busy (states.Getting device max) = false
is_busy _ = true

abbrev pub busy_of : ℕ → ℕ × Proc → ℕ
busy_of pid row = if is_busy row.1.state then of_process pid row else 0

-- a remote call whose answer the process waits for
abbrev pub waits_for : ℕ → Unfinished → ℕ
waits_for pid (unfinished.PageOut other) = 0
waits_for pid (unfinished.PageIn other) = one_if (other == pid)
waits_for pid (unfinished.Home other) = one_if (other == pid)
waits_for pid (unfinished.Ask other) = one_if (other == pid)
waits_for pid (unfinished.Death other) = one_if (other == pid)
waits_for pid (unfinished.Place other) = one_if (other == pid)
waits_for pid (unfinished.Killed other) = 0
waits_for pid (unfinished.Transfer other) = 0

abbrev pub call_of : ℕ → TxNo × Unfinished → ℕ
call_of pid row = waits_for pid row.1

-- a master that waits for an ask of the device, and a process inside that `pd_get`
abbrev pub getter_of : ℕ → ℕ → ℕ × ℕ → ℕ
getter_of device pid row = if row.0 == device then one_if (row.1 == pid) else 0

abbrev pub getting_of : ℕ → ℕ → ℕ × Proc → ℕ
getting_of device pid row = if gets_from device row.1.state then of_process pid row else 0

-- a process that leaves and whose streams move still
abbrev pub moving_of : ℕ → ℕ × Leaving → ℕ
moving_of pid row = if is_moving_in row.1.step then of_process pid row else 0

-- one thing at most is on its way to each process, and it is in a state in which it waits for one; masters that wait for asks are inside
-- `pd_get`; one stream at a time moves, of a process that leaves; no process is here and leaves, or is so twice
pub record OneThingEach (s : ClientProcs) : Type 0 where
  pub owed : (pid : ℕ) → due_to pid s + total (call_of pid) s.unfinished ≤ total (busy_of pid) s.procs
  pub getters : (device pid : ℕ) → total (getter_of device pid) s.getters ≤ total (getting_of device pid) s.procs
  pub moves : (pid : ℕ) → moves_of pid s ≤ total (moving_of pid) s.leaving
  pub apart : (pid : ℕ) → here pid s + leaves pid s ≤ 1
  pub ways : AllByRecursion (λ (row : ℕ × Leaving). IsUnderWay row.1.step) s.leaving
  pub turns : TurnsAreOnce s.files
  pub queues : QueuesAreOnce s.files
  pub short : ClosesAreShort s.files
  pub told : s.files.results ≡ []

-- then the rounds of the kernel are enough
abbrev pub OneThingIsEnough : Type 0
OneThingIsEnough = (s : ClientProcs) → OneThingEach s → MayTurn s

-- so it is when the cluster begins
abbrev pub BeginsWithOneThing : Type 0
BeginsWithOneThing = (d : Description) (kernel : ℕ) → OneThingEach (boots d kernel)

-- each step keeps it, where the child that an answered `fork` brings is new here
abbrev pub StepsKeepOneThing : Type 0
StepsKeepOneThing = (s : ClientProcs) (input : Input) (next : TxNo) (step : ℕ) → InHand (brought input s) s → PlacesAreOnce s → OneThingEach s → OneThingEach (client_step s input next step).0

-- and its rounds are enough
abbrev pub StepsAreEnough : Type 0
StepsAreEnough = (s : ClientProcs) (input : Input) (next : TxNo) (step : ℕ) → InHand (brought input s) s → PlacesAreOnce s → OneThingEach s → is_quiet (goes_on (takes input (begins_step next step s))) ≡ true

-- and what a process does between two calls keeps it
abbrev pub ImagesKeepOneThing : Type 0
ImagesKeepOneThing = (s : ClientProcs) (pid : ℕ) (image : Machine) → OneThingEach s → OneThingEach (with_image pid image s)
