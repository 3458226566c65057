-- How an operation on a file's data waits, and how it ends.
use Rattle.std.specs.Prelude.{ℕ}
use Rattle.sprite_ids.specs.declared.StreamNo.{StreamNo}
use Rattle.process_machine.specs.declared.Reply.{Reply}
use Rattle.client_file_tables.specs.declared.ClientFiles.{ClientFiles}
use Rattle.client_file_tables.specs.declared.DataCall.{DataCall}
use Rattle.client_file_tables.specs.declared.DataState.{DataState}
use Rattle.client_file_tables.specs.declared.Pending.TheVariants as operations
use Rattle.client_file_tables.specs.Calls.{data_call}
use Rattle.client_file_tables.specs.Says.{replies, answers_here, about_of}
use Rattle.client_file_tables.specs.Steps.{keeps}
use Rattle.client_file_tables.specs.Locks.{unlocks}
use Rattle.client_file_tables.specs.Fillers.{leaves_filling}

-- the operation waits for that
abbrev pub keeps_data : ℕ → DataCall → DataState → ClientFiles → ClientFiles
keeps_data pid call state s = keeps pid (operations.Data (record call { state = state })) s

-- the operation needs no blocks and no lock any more
abbrev pub finishes : ℕ → StreamNo → ClientFiles → ClientFiles
finishes pid stream s = unlocks stream (leaves_filling pid s)

-- the call takes effect here and has its reply in this step
abbrev pub ends_here : ℕ → DataCall → Reply → ClientFiles → ClientFiles
ends_here pid call reply s = finishes pid call.stream (answers_here (about_of pid call.number) (data_call call) reply s)

-- the call took effect at the server and has its reply in this step
abbrev pub ends_there : ℕ → DataCall → Reply → ClientFiles → ClientFiles
ends_there pid call reply s = finishes pid call.stream (replies pid reply s)
