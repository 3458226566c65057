-- What an operation on a file's data does when it looks at everything anew.
use Rattle.std.specs.Prelude.{ℕ, Bool, if◌then◌else◌, Option, Some, None}
use Rattle.sprite_ids.specs.declared.BlockNo.{BlockNo}
use Rattle.sprite_ids.specs.declared.Errno.TheVariants.{TooBig}
use Rattle.process_machine.specs.declared.Reply.TheVariants.{Error}
use Rattle.stream_table.specs.declared.Stream.{Stream}
use Rattle.client_file_tables.specs.declared.ClientFiles.{ClientFiles}
use Rattle.client_file_tables.specs.declared.DataCall.{DataCall}
use Rattle.client_file_tables.specs.declared.DataState.TheVariants.{WaitLock}
use Rattle.client_file_tables.specs.declared.Extent.{Extent}
use Rattle.client_file_tables.specs.Says.{plain_value}
use Rattle.client_file_tables.specs.Locks.{gets_lock, locks}
use Rattle.client_file_tables.specs.Streams.{stream_at, moves_offset}
use Rattle.client_data.specs.declared.plan.Plan.{Plan}
use Rattle.client_data.specs.declared.plan.Plan.TheVariants.{Seek, Refuse, Ask, Tell, Use}
use Rattle.client_data.specs.Plans.{plan_of}
use Rattle.client_data.specs.Finishes.{keeps_data, ends_here}
use Rattle.client_data.specs.ServerOps.{asks_server}
use Rattle.client_data.specs.Cached.{missing_of, does_cached}
use Rattle.client_data.specs.Filling.{fills_first}

-- the range is read or written in the cache, once no block is missing
abbrev pub uses_by : Option BlockNo → ℕ → DataCall → Extent → ClientFiles → ClientFiles
uses_by (Some block) pid call extent s = fills_first pid call extent s
uses_by None pid call extent s = does_cached pid call extent s

abbrev pub uses_cached : ℕ → DataCall → Extent → ClientFiles → ClientFiles
uses_cached pid call extent s = uses_by (missing_of call extent s) pid call extent s

-- the stream's offset moves, which is kept here; no file's view shows it
abbrev pub seeks_here : ℕ → DataCall → ℕ → ClientFiles → ClientFiles
seeks_here pid call to s = ends_here pid call (plain_value to) (moves_offset call.stream to s)

-- what was planned is done
abbrev pub does : Plan → ℕ → DataCall → Bool → ClientFiles → ClientFiles
does (Seek to) pid call append s = seeks_here pid call to s
does Refuse pid call append s = ends_here pid call (Error TooBig) s
does (Ask offset) pid call append s = asks_server pid call offset append s
does (Tell size) pid call append s = ends_here pid call (plain_value size) s
does (Use extent) pid call append s = uses_cached pid call extent s

abbrev pub looks_at : ℕ → DataCall → Stream → ClientFiles → ClientFiles
looks_at pid call stream s = does (plan_of call stream s) pid call stream.append s

abbrev pub looks_by : Option Stream → ℕ → DataCall → ClientFiles → ClientFiles
looks_by (Some stream) pid call s = looks_at pid call stream s
looks_by None pid call s = keeps_data pid call WaitLock s

-- with the stream's lock
abbrev pub looks_locked : ℕ → DataCall → ClientFiles → ClientFiles
looks_locked pid call s = looks_by (stream_at call.stream s) pid call s

-- it looks at everything anew, once it has the stream's lock: a Reading, Writing or Append, or the look of one that waited
abbrev pub looks : ℕ → DataCall → ClientFiles → ClientFiles
looks pid call s =
    if gets_lock pid call.stream s then looks_locked pid call (locks pid call.stream s) else keeps_data pid call WaitLock (locks pid call.stream s)
