-- The marks of a trace's records, from one to the next.
use Rattle.std.specs.Prelude.{◌≡◌, ℕ, List, [], ◌∷◌, ◌++◌, None}
use Rattle.unix_calls.specs.declared.description.Description.{Description}
use Rattle.unix_calls.specs.declared.event.Event.{Event}
use Rattle.unix_calls.specs.declared.event.Event.TheVariants as event
use Rattle.unix_calls.specs.declared.event.Rec.{Rec}
use Rattle.unix_calls.specs.declared.state.Process.{Process}
use Rattle.unix_calls.specs.declared.state.Stream.{Stream}
use Rattle.unix_calls.specs.State.{stream_at}
use Rattle.unix_world.specs.declared.World.{World}
use Rattle.call_journal.specs.Past.{Past}
use Rattle.write_rules.specs.declared.marking.Marking.{Marking}
use Rattle.write_rules.specs.Marks.{marks_from, marks_of}
use Rattle.write_rules.specs.Syncs.{KeepsEvent, MakesEntry, TellsSyncs, is_file_stream, mark_in}

-- of no records
pub record IsFresh (marking : Marking) : Type 0 where
  pub made : marking.syncs.made.entries ≡ []
  pub opened : marking.syncs.opened ≡ None
  pub pending : marking.syncs.pending.items ≡ []
  pub marks : marking.marks.items ≡ []

-- a record that is no entry is marked by what is kept, in the state before it
pub record MarksOther (kernel : ℕ) (e : Event) (world : World) (ps : List Process) (old new : Marking) : Type 0 where
  pub marks : new.marks.items ≡ old.marks.items ++ mark_in old.syncs world ps kernel e ∷ []
  pub keeps : KeepsEvent kernel e old.syncs new.syncs

abbrev pub SeesMark : ℕ → Event → World → List Process → Marking → Marking → Type 0
SeesMark kernel (event.Enter entry) world ps old new = new ≡ old
SeesMark kernel e world ps old new = MarksOther kernel e world ps old new

-- an entry by what it made, in the state behind it
pub record HeedsMark (streams : List Stream) (place : ℕ) (old new : Marking) : Type 0 where
  pub marks : new.marks.items ≡ old.marks.items ++ is_file_stream (stream_at streams place) ∷ []
  pub makes : MakesEntry streams place old.syncs new.syncs

-- a place before the rest of a trace, with the marks so far
pub record Going (c : Description) (trace rest : List Rec) (world : World) (ps : List Process) (past : Past) (marking : Marking) : Type 0 where
  pub tells : TellsSyncs c world ps marking.syncs past
  pub all : marking.marks.items ++ marks_from c past rest ≡ marks_of c trace
