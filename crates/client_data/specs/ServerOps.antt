-- Operations that are done at the server.
use Rattle.std.specs.Prelude.{ℕ, Bool, if◌then◌else◌, List, [], Option, Some, None}
use Rattle.sprite_ids.specs.declared.Tries.TheVariants.{Always}
use Rattle.packet_bodies.specs.declared.FileOp.{FileOp}
use Rattle.packet_bodies.specs.declared.FileOp.TheVariants as ops
use Rattle.packet_bodies.specs.declared.OpRequest.{OpRequest}
use Rattle.packet_bodies.specs.declared.Request.TheVariants as requests
use Rattle.unix_calls.specs.declared.SendKind.TheVariants as sendings
use Rattle.kernel_steps.specs.declared.Sending.{Sending}
use Rattle.client_file_tables.specs.declared.ClientFiles.{ClientFiles}
use Rattle.client_file_tables.specs.declared.DataCall.{DataCall}
use Rattle.client_file_tables.specs.declared.DataKind.{DataKind}
use Rattle.client_file_tables.specs.declared.DataKind.TheVariants as kinds
use Rattle.client_file_tables.specs.declared.DataState.TheVariants.{AtServer}
use Rattle.client_file_tables.specs.Says.{about_of, sends_for, to_one}
use Rattle.client_file_tables.specs.Fillers.{leaves_filling}
use Rattle.client_file_tables.specs.Blocks.{state_in}
use Rattle.client_data.specs.Finishes.{keeps_data}

-- what is done at the server
abbrev pub op_at : DataKind → Bool → FileOp
op_at (kinds.Read many) append = ops.Read
op_at (kinds.Write bytes) append = if append then ops.Append else ops.Write
op_at (kinds.Seek to) append = ops.Seek
op_at kinds.Size append = ops.Size

-- where: at the stream's offset, of a seek its target, and nowhere for an append or a size
abbrev pub offset_at : DataKind → Option ℕ → Bool → Option ℕ
offset_at (kinds.Read many) offset append = offset
offset_at (kinds.Write bytes) offset append = if append then None else offset
offset_at (kinds.Seek to) offset append = Some to
offset_at kinds.Size offset append = None

-- how many bytes a read asks for
abbrev pub length_of : DataKind → ℕ
length_of (kinds.Read many) = many
length_of _ = 0

-- the bytes of a write
abbrev pub bytes_of : DataKind → List ℕ
bytes_of (kinds.Write bytes) = bytes
bytes_of _ = []

-- the request
abbrev pub op_request : ℕ → DataCall → Option ℕ → Bool → ClientFiles → OpRequest
op_request pid call offset append s = record {
  pid = pid;
  number = call.number;
  file = call.file;
  stamp = (state_in call.file s).stamp;
  stream = call.stream;
  op = op_at call.kind append;
  offset = offset_at call.kind offset append;
  length = length_of call.kind;
  bytes = bytes_of call.kind;
  fd = call.fd;
}

abbrev pub op_sending : ℕ → DataCall → Option ℕ → Bool → ClientFiles → Sending
op_sending pid call offset append s =
    to_one call.file.server Always (Some (about_of pid call.number)) (requests.Op (op_request pid call offset append s))

abbrev pub sends_op : ℕ → DataCall → Option ℕ → Bool → ClientFiles → ClientFiles
sends_op pid call offset append s = sends_for pid (op_sending pid call offset append s) (sendings.Op call.file) s

abbrev pub waits_there : ℕ → DataCall → Option ℕ → Bool → ClientFiles → ClientFiles
waits_there pid call offset append s = keeps_data pid call (AtServer s.out.next) (sends_op pid call offset append s)

-- the operation is done at the server: a Reading, Writing or Append that is sent, or the look of one that waited
abbrev pub asks_server : ℕ → DataCall → Option ℕ → Bool → ClientFiles → ClientFiles
asks_server pid call offset append s = waits_there pid call offset append (leaves_filling pid s)
