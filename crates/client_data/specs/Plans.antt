-- What an operation on a file's data is to do.
use Rattle.std.specs.Prelude.{ℕ, ◌+◌, ◌-◌, min, nat_lt, Bool, if◌then◌else◌, length, Some, None}
use Rattle.sprite_ids.specs.declared.FileId.{FileId}
use Rattle.stream_table.specs.declared.Place.{Place}
use Rattle.stream_table.specs.declared.Place.TheVariants.{Local, Shared}
use Rattle.stream_table.specs.declared.Stream.{Stream}
use Rattle.client_file_tables.specs.declared.ClientFiles.{ClientFiles}
use Rattle.client_file_tables.specs.declared.DataCall.{DataCall}
use Rattle.client_file_tables.specs.declared.DataKind.{DataKind}
use Rattle.client_file_tables.specs.declared.DataKind.TheVariants as kinds
use Rattle.client_file_tables.specs.Blocks.{state_in, is_cached}
use Rattle.client_data.specs.declared.plan.Plan.{Plan}
use Rattle.client_data.specs.declared.plan.Plan.TheVariants.{Seek, Refuse, Ask, Tell, Use}

-- the file's size, where it is cached
abbrev pub plan_size : FileId → ℕ → ClientFiles → Plan
plan_size file offset s = if is_cached file s then Tell (state_in file s).size else Ask (Some offset)

-- a read up to the file's end, of at most so many bytes
abbrev pub plan_read : FileId → ℕ → ℕ → ClientFiles → Plan
plan_read file offset many s =
    if is_cached file s then Use (record { from = offset; length = min many ((state_in file s).size - offset) }) else Ask (Some offset)

-- a write of so many bytes there
abbrev pub plan_write : FileId → ℕ → ℕ → ClientFiles → Plan
plan_write file offset many s =
    if nat_lt s.limit (offset + many) then Refuse
    else if is_cached file s then Use (record { from = offset; length = many })
    else Ask (Some offset)

-- a write of so many bytes from the file's end on
abbrev pub plan_put : FileId → ℕ → ℕ → ClientFiles → Plan
plan_put file start many s = if nat_lt s.limit (start + many) then Refuse else Use (record { from = start; length = many })

abbrev pub plan_append : FileId → ℕ → ℕ → ClientFiles → Plan
plan_append file offset many s = if is_cached file s then plan_put file (state_in file s).size many s else Ask (Some offset)

-- what an operation of that kind is to do, by a stream whose offset is kept here
abbrev pub plan_here : DataKind → FileId → ℕ → Bool → ClientFiles → Plan
plan_here (kinds.Seek to) file offset append s = Seek to
plan_here kinds.Size file offset append s = plan_size file offset s
plan_here (kinds.Read many) file offset append s = plan_read file offset many s
plan_here (kinds.Write bytes) file offset append s = if append then plan_append file offset (length bytes) s else plan_write file offset (length bytes) s

-- by a stream whose offset is there
abbrev pub plan_at : Place → DataCall → Bool → ClientFiles → Plan
plan_at (Local offset) call append s = plan_here call.kind call.file offset append s
plan_at Shared call append s = Ask None

-- what the operation is to do: what is done with a Shared stream, or a file that isn't cached, is done at the server
abbrev pub plan_of : DataCall → Stream → ClientFiles → Plan
plan_of call stream s = plan_at stream.place call stream.append s
