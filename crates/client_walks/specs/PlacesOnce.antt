-- Each process stands in at most one place of a client's kernel.
use Rattle.std.specs.Prelude.{◌≡◌, ℕ, ◌+◌, ◌*◌, ◌≤◌, List, length}
use Rattle.std.specs.List.{AllByRecursion}
use Rattle.sprite_ids.specs.declared.TxNo.{TxNo}
use Rattle.sprite_ids.specs.Pid.{home_of}
use Rattle.process_machine.specs.Machine.{Machine}
use Rattle.home_table.specs.Home.{Table}
use Rattle.kernel_steps.specs.declared.Input.{Input}
use Rattle.unix_calls.specs.declared.Description.{Description}
use Rattle.client_homes.specs.declared.client.ClientProcs.{ClientProcs}
use Rattle.client_procs.specs.Boot.{boots}
use Rattle.client_procs.specs.Readers.{with_image}
use Rattle.client_procs.specs.Steps.{client_step}
use Rattle.client_facts.specs.Places.{IsNew}
use Rattle.client_facts.specs.ProcFacts.{LeavingAreOnce, NoneIsHereAndLeaves, ProcessesAreOnce}
use Rattle.client_walks.specs.Hands.{Held, Nothing, Coming, Holding, brought}

-- a process of that home was born there: its number is at most that of the last birth
abbrev pub IsBornAt : Table → ℕ → Type 0
IsBornAt table pid = home_of pid ≡ table.home → pid ≤ 1000 * table.home + length table.births

-- so are the processes of such rows
abbrev pub AreBornAt : {V : Type 0} → Table → List (ℕ × V) → Type 0
AreBornAt {V} table rows = AllByRecursion (λ (row : ℕ × V). IsBornAt table row.0) rows

-- each process is here once or leaves once, and not both; and those of this home were born
pub record PlacesAreOnce (s : ClientProcs) : Type 0 where
  pub once : ProcessesAreOnce s
  pub leaving_once : LeavingAreOnce s
  pub apart : NoneIsHereAndLeaves s
  pub born : AreBornAt s.home s.procs
  pub leaving_born : AreBornAt s.home s.leaving

-- a process in hand was born, where it is of this home; and one that stands nowhere is neither here nor leaves
abbrev pub InHand : Held → ClientProcs → Type 0
InHand Nothing s = Unit {0}
InHand (Coming pid) s = IsBornAt s.home pid
InHand (Holding pid) s = IsNew pid s × IsBornAt s.home pid

-- whatever comes, a step keeps it, where the process that it brings was born, and the child of an answered `fork` is new here
abbrev pub StepKeepsPlaces : Type 0
StepKeepsPlaces = (s : ClientProcs) (input : Input) (next : TxNo) (step : ℕ) → InHand (brought input s) s → PlacesAreOnce s → PlacesAreOnce (client_step s input next step).0

-- so it is when the cluster begins
abbrev pub BeginsWithPlaces : Type 0
BeginsWithPlaces = (c : Description) (kernel : ℕ) → PlacesAreOnce (boots c kernel)

-- and what a process does between two calls keeps it
abbrev pub ImageKeepsPlaces : Type 0
ImageKeepsPlaces = (s : ClientProcs) (pid : ℕ) (image : Machine) → PlacesAreOnce s → PlacesAreOnce (with_image pid image s)
