-- Answers to operations on a file's data.
use Rattle.std.specs.Prelude.{ℕ, ◌+◌, Bool, if◌then◌else◌, Option, Some, None}
use Rattle.sprite_ids.specs.declared.FileId.{FileId}
use Rattle.sprite_ids.specs.declared.BlockNo.{BlockNo}
use Rattle.sprite_ids.specs.declared.StreamNo.{StreamNo}
use Rattle.process_machine.specs.declared.Reply.TheVariants.{Value, Error}
use Rattle.packet_bodies.specs.declared.ReplyBody.{ReplyBody}
use Rattle.packet_bodies.specs.declared.ReplyBody.TheVariants as answers
use Rattle.packet_bodies.specs.declared.ValueReply.{ValueReply}
use Rattle.stream_table.specs.declared.Place.{Place}
use Rattle.stream_table.specs.declared.Place.TheVariants.{Local, Shared}
use Rattle.stream_table.specs.declared.Stream.{Stream}
use Rattle.client_file_tables.specs.declared.ClientFiles.{ClientFiles}
use Rattle.client_file_tables.specs.declared.DataCall.{DataCall}
use Rattle.client_file_tables.specs.declared.DataKind.{DataKind}
use Rattle.client_file_tables.specs.declared.DataKind.TheVariants as kinds
use Rattle.client_file_tables.specs.declared.DataState.{DataState}
use Rattle.client_file_tables.specs.declared.DataState.TheVariants.{Fetching, AtServer}
use Rattle.client_file_tables.specs.declared.Pending.TheVariants as operations
use Rattle.client_file_tables.specs.Steps.{keeps}
use Rattle.client_file_tables.specs.Streams.{stream_at, moves_offset}
use Rattle.client_file_tables.specs.Blocks.{fills}
use Rattle.client_data.specs.Grants.{takes_grant}
use Rattle.client_data.specs.Finishes.{ends_there}
use Rattle.client_data.specs.Looks.{looks}

-- the stream's offset moves on by so many bytes
abbrev pub moves_on : StreamNo → ℕ → ℕ → ClientFiles → ClientFiles
moves_on stream offset many s = moves_offset stream (offset + many) s

-- a read or write moves it on by the bytes that it moved, an append to its end
abbrev pub moves_here : DataKind → StreamNo → ℕ → Bool → ValueReply → ClientFiles → ClientFiles
moves_here (kinds.Read many) stream offset append value s = moves_on stream offset value.first s
moves_here (kinds.Write bytes) stream offset append value s =
    if append then moves_offset stream value.second s else moves_on stream offset value.first s
moves_here (kinds.Seek to) stream offset append value s = s
moves_here kinds.Size stream offset append value s = s

-- an offset that is kept here
abbrev pub moves_from : Place → DataCall → Bool → ValueReply → ClientFiles → ClientFiles
moves_from (Local offset) call append value s = moves_here call.kind call.stream offset append value s
moves_from Shared call append value s = s

abbrev pub moves_at : Stream → DataCall → ValueReply → ClientFiles → ClientFiles
moves_at stream call value s = moves_from stream.place call stream.append value s

abbrev pub moves_in : Option Stream → DataCall → ValueReply → ClientFiles → ClientFiles
moves_in (Some stream) call value s = moves_at stream call value s
moves_in None call value s = s

abbrev pub moves_by : DataCall → ValueReply → ClientFiles → ClientFiles
moves_by call value s = moves_in (stream_at call.stream s) call value s

-- the server did it
abbrev pub served_value : ℕ → DataCall → ValueReply → ClientFiles → ClientFiles
served_value pid call value s = ends_there pid call (Value value.first 0 value.bytes) (moves_by call value s)

-- the answer to an operation that is done at the server: the Delivering of an Op
abbrev pub served : ℕ → DataCall → ReplyBody → ClientFiles → ClientFiles
served pid call (answers.Again grant) s = looks pid call (takes_grant grant s)
served pid call (answers.Refused errno) s = ends_there pid call (Error errno) s
served pid call (answers.Value value) s = served_value pid call value s
served pid call _ s = keeps pid (operations.Data call) s

-- the block is put in where its stamp is still the file's
abbrev pub takes_block : FileId → BlockNo → ReplyBody → ClientFiles → ClientFiles
takes_block file block (answers.Block stamp bytes) s = fills file stamp block bytes s
takes_block file block (answers.Again grant) s = takes_grant grant s
takes_block file block _ s = s

-- the answer to a fetch: the Delivering of a Fetch, and then a look
abbrev pub fetched : ℕ → DataCall → BlockNo → ReplyBody → ClientFiles → ClientFiles
fetched pid call block body s = looks pid call (takes_block call.file block body s)

-- what the operation waited for; one that waits for no answer goes on waiting
abbrev pub answered_in : DataState → ℕ → DataCall → ReplyBody → ClientFiles → ClientFiles
answered_in (Fetching tx block) pid call body s = fetched pid call block body s
answered_in (AtServer tx) pid call body s = served pid call body s
answered_in _ pid call body s = keeps pid (operations.Data call) s

abbrev pub data_answered : ℕ → DataCall → ReplyBody → ClientFiles → ClientFiles
data_answered pid call body s = answered_in call.state pid call body s
