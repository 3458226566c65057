-- A client's kernel, from its beginning on, as the home of its processes.
use Rattle.std.specs.Prelude.{◌≡◌, ◌≤◌, ℕ, List, [], ◌∷◌, length}
use Rattle.sprite_ids.specs.declared.TxNo.{TxNo}
use Rattle.process_machine.specs.Machine.{Machine}
use Rattle.packet_bodies.specs.declared.Request.{Request}
use Rattle.packet_bodies.specs.declared.Request.TheVariants as requests
use Rattle.kernel_steps.specs.declared.Input.{Input}
use Rattle.kernel_steps.specs.declared.Input.TheVariants as inputs
use Rattle.unix_calls.specs.declared.Description.{Description}
use Rattle.home_laws.specs.Start.{first_table}
use Rattle.client_homes.specs.declared.client.ClientProcs.{ClientProcs}
use Rattle.client_homes.specs.Issuing.{home_for}
use Rattle.client_procs.specs.Boot.{boots}
use Rattle.client_procs.specs.Readers.{with_image}
use Rattle.client_procs.specs.Steps.{client_step}
use Rattle.home_acts.specs.Deeds.{AreRight, Deed, IsHome, Seen, seen, table_behind}

-- the table with which a client's kernel begins, where at most 200 processes start
abbrev pub BootsWithFirst : Type 0
BootsWithFirst = (c : Description) (kernel : ℕ) → length c.starts ≤ 200 → (boots c kernel).home ≡ first_table c kernel

-- what of a kernel tells of its home between two steps
abbrev pub resting : ClientProcs → Seen
resting s = record (seen s) { events = [] }

-- from the one to the other the home did some deeds, each right in its turn, and is the home still
pub record Served (c : Description) (v w : Seen) : Type 0 where
  pub home : IsHome c w
  pub kernel : w.kernel ≡ v.kernel
  pub deeds : List Deed
  pub table : w.home ≡ table_behind v.home deeds
  pub right : AreRight c v.home deeds

-- a request for a call comes to the home where it is done
abbrev pub IsAsked : Request → ClientProcs → Type 0
IsAsked (requests.Home request) s = home_for request ≡ s.kernel
IsAsked _ s = Unit {0}

abbrev pub ComesHome : Input → ClientProcs → Type 0
ComesHome (inputs.Request tx source body) s = IsAsked body s
ComesHome _ s = Unit {0}

-- each step of the kernel, whatever comes
abbrev pub StepsAreDeeds : Type 0
StepsAreDeeds = (c : Description) (s : ClientProcs) (input : Input) (next : TxNo) (step : ℕ) → IsHome c (resting s) → ComesHome input s → Served c (resting s) (resting (client_step s input next step).0)

-- ---- whole runs of a kernel

-- something comes, or a process did instructions
pub data Turn : Type 0 where
  Takes : Input → TxNo → ℕ → Turn
  Runs : ℕ → Machine → Turn

abbrev pub turned : Turn → ClientProcs → ClientProcs
turned (Takes input next step) s = (client_step s input next step).0
turned (Runs pid image) s = with_image pid image s

abbrev pub turned_all : List Turn → ClientProcs → ClientProcs
turned_all [] s = s
turned_all (turn ∷ turns) s = turned_all turns (turned turn s)

abbrev pub TurnComes : Turn → ClientProcs → Type 0
TurnComes (Takes input next step) s = ComesHome input s
TurnComes (Runs pid image) s = Unit {0}

abbrev pub AllCome : List Turn → ClientProcs → Type 0
AllCome [] s = Unit {0}
AllCome (turn ∷ turns) s = TurnComes turn s × AllCome turns (turned turn s)

-- its table is the first one behind some deeds
pub record RanSo (c : Description) (kernel : ℕ) (s : ClientProcs) : Type 0 where
  pub home : IsHome c (resting s)
  pub deeds : List Deed
  pub table : s.home ≡ table_behind (first_table c kernel) deeds
  pub right : AreRight c (first_table c kernel) deeds

abbrev pub RunsAreDeeds : Type 0
RunsAreDeeds = (c : Description) (kernel : ℕ) (turns : List Turn) → length c.starts ≤ 200 → 1 ≤ kernel → AllCome turns (boots c kernel) → RanSo c kernel (turned_all turns (boots c kernel))
