-- What is kept of the bursts of a trace's processes, before its first record and behind its last one.
use Rattle.std.specs.Prelude.{◌≡◌, true, List, []}
use Rattle.unix_calls.specs.declared.description.Description.{Description}
use Rattle.unix_calls.specs.declared.event.Rec.{Rec}
use Rattle.unix_calls.specs.declared.state.Process.{Process}
use Rattle.unix_world.specs.declared.World.{World}
use Rattle.unix_world.specs.Among.{Ascending}
use Rattle.call_journal.specs.Past.{Past}
use Rattle.trace_bursts.specs.declared.counting.Counts.{Counts}
use Rattle.trace_bursts.specs.Counting.{CountsAt}

-- of no records
pub record IsFresh (counts : Counts) : Type 0 where
  pub kept : counts.kept ≡ true
  pub doings : counts.doings.entries ≡ []

-- of the records before the rest of a trace
abbrev pub CountsBefore : Description → List Rec → List Rec → World → List Process → Past → Counts → Type 0
CountsBefore c trace rest world ps past counts = CountsAt counts.kept c trace rest world ps past counts.doings.entries

-- of all records of a trace, which leads to these processes
pub record CountsAll (c : Description) (trace : List Rec) (ps : List Process) (counts : Counts) : Type 0 where
  pub ascends : Ascending ps
  pub world : World
  pub past : Past
  pub tells : CountsBefore c trace [] world ps past counts
