-- What a trace's entries do to files is told record by record.
use Rattle.std.specs.Prelude.{◌≡◌, ℕ, false, List, [], ◌∷◌, ◌++◌, Option}
use Rattle.unix_calls.specs.declared.description.Description.{Description}
use Rattle.unix_calls.specs.declared.entry.Entry.{Entry}
use Rattle.unix_calls.specs.declared.event.Event.{Event}
use Rattle.unix_calls.specs.declared.event.Event.TheVariants as event
use Rattle.unix_calls.specs.declared.event.Rec.{Rec}
use Rattle.unix_calls.specs.declared.state.Process.{Process}
use Rattle.unix_calls.specs.declared.state.Stream.{Stream}
use Rattle.unix_world.specs.declared.World.{World}
use Rattle.call_journal.specs.Past.{Past, no_past}
use Rattle.trace_tables.specs.Told as told
use Rattle.trace_places.specs.Places.{MovesOn, TellsPlaces}
use Rattle.sharing_rules.specs.declared.entry_facts.EntryFacts.{EntryFacts}
use Rattle.sharing_rules.specs.declared.entry_facts.LocalUse.{LocalUse}
use Rattle.sharing_rules.specs.declared.following.Following.{Following}
use Rattle.sharing_rules.specs.Facts.{facts_from, facts_of, local_in, truncates_in}

-- of no records
pub record IsFresh (c : Description) (following : Following) : Type 0 where
  pub telling : told.IsFresh following.telling
  pub places : TellsPlaces following.places.entries (no_past c).processes
  pub facts : following.facts.items ≡ []

-- a record that is no entry does nothing more to files than what it uses
abbrev pub KeepsFacts : Event → Option LocalUse → List EntryFacts → List EntryFacts → Type 0
KeepsFacts (event.Enter entry) local old new = new ≡ old
KeepsFacts e local old new = new ≡ old ++ record { local = local; truncates = false } ∷ []

-- of each record it is kept what it uses, in the state before it
pub record SeesFacts (c : Description) (world : World) (ps : List Process) (rec : Rec) (old new : Following) : Type 0 where
  pub telling : told.SeesRecord c world ps rec.event old.telling new.telling
  pub local : new.local ≡ local_in old.places.entries world ps rec.kernel rec.event new.telling.last
  pub facts : KeepsFacts rec.event new.local old.facts.items new.facts.items
  pub places : MovesOn rec.kernel rec.event old.places.entries new.places.entries

-- of an entry whether it truncates, in the state behind it
pub record HeedsFacts (streams : List Stream) (place : ℕ) (entry : Entry) (old new : Following) : Type 0 where
  pub telling : told.HeedsEntry streams place old.telling new.telling
  pub facts : new.facts.items ≡ old.facts.items ++ record { local = old.local; truncates = truncates_in (event.Enter entry) streams place } ∷ []
  pub places : new.places ≡ old.places

-- a place before the rest of a trace, with what is told so far
pub record Follows (c : Description) (trace rest : List Rec) (world : World) (ps : List Process) (past : Past) (following : Following) : Type 0 where
  pub telling : told.Going c trace rest world ps past following.telling
  pub homes : TellsPlaces following.places.entries past.processes
  pub all : following.facts.items ++ facts_from c past rest ≡ facts_of c trace
