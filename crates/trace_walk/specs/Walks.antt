-- A walk along a trace, while one Unix kernel makes its entries.
use Rattle.std.specs.Prelude.{◌≡◌, ◌≤◌, ℕ, ◌+◌, List, [], ◌∷◌, length, Option, Some, None}
use Rattle.unix_calls.specs.declared.description.Description.{Description}
use Rattle.unix_calls.specs.declared.entry.Entry.{Entry}
use Rattle.unix_calls.specs.declared.event.Event.{Event}
use Rattle.unix_calls.specs.declared.event.Event.TheVariants as event
use Rattle.unix_calls.specs.declared.event.Rec.{Rec}
use Rattle.unix_calls.specs.declared.state.Process.{Process}
use Rattle.unix_calls.specs.State.{Unix}
use Rattle.unix_calls.specs.Boot.{boot_of}
use Rattle.unix_calls.specs.After.{after, state_from, state_of}
use Rattle.unix_world.specs.declared.World.{World}
use Rattle.unix_world.specs.Among.{Ascending}
use Rattle.unix_world.specs.Worlds.{unix_of}
use Rattle.one_kernel.specs.declared.Applied.TheVariants as applied
use Rattle.one_kernel.specs.Applied.{Applies}
use Rattle.one_kernel.specs.declared.Verdict.TheVariants as verdict
use Rattle.one_kernel.specs.Verdicts.{verdict_from, verdict_of, way_of}
use Rattle.call_journal.specs.Journal.{journal_of}
use Rattle.call_journal.specs.Past.{Past, no_past}
use Rattle.trace_walk.specs.declared.walking.End.{End}
use Rattle.trace_walk.specs.declared.walking.Taken.{Taken}
use Rattle.trace_walk.specs.declared.walking.Taken.TheVariants as taken
use Rattle.trace_walk.specs.declared.walking.Walked.{Walked}
use Rattle.trace_walk.specs.declared.walking.Walked.TheVariants as walked

-- how many instructions the processes do up to the calls of some entries behind a state
abbrev pub cost_from : Description → Option Unix → List Entry → ℕ
cost_from c u [] = 0
cost_from c None (e ∷ es) = 0
cost_from c (Some u) (e ∷ es) = way_of c u e + cost_from c (after c u e) es

-- up to the calls of a history's entries
abbrev pub cost_of : Description → List Entry → ℕ
cost_of c journal = cost_from c (Some (boot_of c)) journal

-- an entry at a kernel
abbrev pub entering : ℕ → Entry → Rec
entering kernel entry = record { kernel = kernel; event = event.Enter entry }

-- one kernel makes an entry, and its process did so many instructions up to its call
pub record Makes (c : Description) (world : World) (ps : List Process) (entry : Entry) (way : ℕ) (later : World) (qs : List Process) : Type 0 where
  pub way_is : way_of c (unix_of c world ps) entry ≡ way
  pub after_is : after c (unix_of c world ps) entry ≡ Some (unix_of c later qs)
  pub ascends : Ascending qs

-- ---- what is told

-- at the start it tells of no records
abbrev pub Begins : Description → List Rec → (World → List Process → Past → List Rec → Type 0) → Type 0
Begins c trace Tells = (world : World) (ps : List Process) → unix_of c world ps ≡ boot_of c → Ascending ps → Tells world ps (no_past c) trace

-- the journal of a trace leads there: to that state, whose processes did so much, and behind so many entries
pub record LeadsTo (c : Description) (trace : List Rec) (end : End) : Type 0 where
  pub leads : state_of c (journal_of trace) ≡ Some (unix_of c end.world end.processes)
  pub ascends : Ascending end.processes
  pub cost_is : end.cost ≡ cost_of c (journal_of trace)
  pub place_is : end.place ≡ length (journal_of trace) + 1

-- and this is told there
pub record Ends (c : Description) (trace : List Rec) (Tells : World → List Process → Past → List Rec → Type 0) (end : End) : Type 0 where
  pub past : Past
  pub leads_to : LeadsTo c trace end
  pub tells : Tells end.world end.processes past []

-- the verdict on the journal of a trace; where it is legal, what is told behind it
abbrev pub WalksTo : Description → ℕ → List Rec → (World → List Process → Past → List Rec → Type 0) → Walked → Type 0
WalksTo c most trace Tells (walked.Legal end) = (verdict_of c most (journal_of trace) ≡ verdict.Legal) × Ends c trace Tells end
WalksTo c most trace Tells (walked.NotLegal n) = verdict_of c most (journal_of trace) ≡ verdict.NotLegal n
WalksTo c most trace Tells (walked.Steps n) = verdict_of c most (journal_of trace) ≡ verdict.Steps n

-- ---- one record

-- what became of an entry, and what is kept behind it
abbrev pub TakesEntry : {W : Type 0} → (World → ℕ → ℕ → Entry → W → W → Type 0) → Description → ℕ → Entry → World → List Process → W → Taken → World → List Process → W → Type 0
TakesEntry heeds c left e world ps old taken.On later qs new = ⊥
TakesEntry heeds c left e world ps old (taken.Entered way) later qs new =
    Applies c left (way_of c (unix_of c world ps) e) (after c (unix_of c world ps) e) (applied.Made way) later qs
    × heeds later world.entries way e old new
TakesEntry heeds c left e world ps old taken.NotMade later qs new =
    Applies c left (way_of c (unix_of c world ps) e) (after c (unix_of c world ps) e) applied.NotMade later qs
TakesEntry heeds c left e world ps old taken.Far later qs new =
    Applies c left (way_of c (unix_of c world ps) e) (after c (unix_of c world ps) e) applied.Far later qs

-- no entry leaves the state as it is
pub record TakesOther {W : Type 0} (world : World) (ps : List Process) (old : W) (is : Taken) (later : World) (qs : List Process) (new : W) : Type 0 where
  pub on : is ≡ taken.On
  pub world_stays : later ≡ world
  pub processes_stay : qs ≡ ps
  pub watch_stays : new ≡ old

abbrev pub Takes : {W : Type 0} → (World → ℕ → ℕ → Entry → W → W → Type 0) → Description → ℕ → Event → World → List Process → W → Taken → World → List Process → W → Type 0
Takes heeds c left (event.Enter e) world ps old is later qs new = TakesEntry heeds c left e world ps old is later qs new
Takes heeds c left e world ps old is later qs new = TakesOther world ps old is later qs new

-- ---- the loop

-- a place before the rest of a trace, at that number of the next entry and after so many instructions
pub record Walking (c : Description) (most : ℕ) (trace : List Rec) (Tells : World → List Process → Past → List Rec → Type 0) (rest : List Rec) (place cost : ℕ) (world : World) (ps : List Process) : Type 0 where
  pub past : Past
  pub unix : past.unix ≡ Some (unix_of c world ps)
  pub ascends : Ascending ps
  pub tells : Tells world ps past rest
  pub leads : state_from c (Some (unix_of c world ps)) (journal_of rest) ≡ state_of c (journal_of trace)
  pub costs : cost + cost_from c (Some (unix_of c world ps)) (journal_of rest) ≡ cost_of c (journal_of trace)
  pub verdict : verdict_from c most place cost (unix_of c world ps) (journal_of rest) ≡ verdict_of c most (journal_of trace)
  pub within : cost ≤ most
  pub counts : place + length (journal_of rest) ≡ length (journal_of trace) + 1
