-- Operations on a file at its server.
use Rattle.std.specs.Prelude.{ℕ, ◌+◌, nat_lt, Bool, if◌then◌else◌, List, [], length}
use Rattle.sprite_ids.specs.declared.TxNo.{TxNo}
use Rattle.sprite_ids.specs.declared.FileId.{FileId}
use Rattle.sprite_ids.specs.declared.StreamNo.{StreamNo}
use Rattle.sprite_ids.specs.declared.Errno.TheVariants.{TooBig}
use Rattle.process_machine.specs.declared.Call.{Call}
use Rattle.process_machine.specs.declared.Call.TheVariants as calls
use Rattle.process_machine.specs.declared.Reply.TheVariants.{Value}
use Rattle.packet_bodies.specs.declared.FileOp.{FileOp}
use Rattle.packet_bodies.specs.declared.FileOp.TheVariants as ops
use Rattle.packet_bodies.specs.declared.OpRequest.{OpRequest}
use Rattle.packet_bodies.specs.declared.ReplyBody.TheVariants as replies
use Rattle.shadow_streams.specs.Shadows as shadows
use Rattle.server_kernel.specs.declared.asked.Caller.{Caller}
use Rattle.server_kernel.specs.declared.server.Server.{Server}
use Rattle.server_kernel.specs.Says.{answers, enters, value, gives, refuses}
use Rattle.server_kernel.specs.Files.{size_in, bytes_in, start_in, written_to}

-- the process that a request goes for
abbrev pub op_caller : TxNo → OpRequest → Caller
op_caller tx r = record { tx = tx; pid = r.pid; number = r.number }

-- the call of a write or an append
abbrev pub write_call : OpRequest → Call
write_call r = calls.Write r.fd r.bytes

-- the stream's offset moves, where it is shared
abbrev pub moves_offset : StreamNo → ℕ → Server → Server
moves_offset stream offset s = record s { shadows = shadows.set_offset s.shadows stream offset }

-- a write would pass the limit of a file's size
abbrev pub refuses_write : TxNo → OpRequest → Server → Server
refuses_write tx r s = refuses (op_caller tx r) (write_call r) TooBig s

-- a read of these bytes, which begin there: the Delivering of a Reading
abbrev pub read_gives : TxNo → OpRequest → ℕ → List ℕ → Server → Server
read_gives tx r start bytes s =
    gives (op_caller tx r) (calls.Read r.fd r.length) (record { first = length bytes; second = 0; bytes = bytes })
    (moves_offset r.stream (start + length bytes) s)

abbrev pub reads_from : TxNo → OpRequest → FileId → ℕ → Server → Server
reads_from tx r file start s = read_gives tx r start (bytes_in file start r.length s) s

abbrev pub reads : TxNo → OpRequest → FileId → Server → Server
reads tx r file s = reads_from tx r file (start_in r.stream r.offset s) s

-- a write there: the Delivering of a Writing
abbrev pub writes_within : TxNo → OpRequest → FileId → ℕ → Server → Server
writes_within tx r file start s =
    gives (op_caller tx r) (write_call r) (value (length r.bytes) 0) (moves_offset r.stream (start + length r.bytes) (written_to file start r.bytes s))

abbrev pub writes_from : TxNo → OpRequest → FileId → ℕ → Server → Server
writes_from tx r file start s = if nat_lt s.store.limit (start + length r.bytes) then refuses_write tx r s else writes_within tx r file start s

abbrev pub writes : TxNo → OpRequest → FileId → Server → Server
writes tx r file s = writes_from tx r file (start_in r.stream r.offset s) s

-- an append there: the Delivering of an Append. The client is told where the stream's offset goes, and the process isn't
abbrev pub appends_within : TxNo → OpRequest → FileId → ℕ → Server → Server
appends_within tx r file start s =
    answers tx (replies.Value (value (length r.bytes) (start + length r.bytes)))
    (enters (op_caller tx r) (write_call r) (Value (length r.bytes) 0 [])
    (moves_offset r.stream (start + length r.bytes) (written_to file start r.bytes s)))

abbrev pub appends_from : TxNo → OpRequest → FileId → ℕ → Server → Server
appends_from tx r file start s = if nat_lt s.store.limit (start + length r.bytes) then refuses_write tx r s else appends_within tx r file start s

abbrev pub appends : TxNo → OpRequest → FileId → Server → Server
appends tx r file s = appends_from tx r file (size_in file s) s

-- the file's size: the Delivering of a Reading of nothing
abbrev pub sizes : TxNo → OpRequest → FileId → Server → Server
sizes tx r file s = gives (op_caller tx r) (calls.Size r.fd) (value (size_in file s) 0) s

-- a shared stream's offset moves: the Delivering of a Reading of nothing
abbrev pub seeks_to : TxNo → OpRequest → ℕ → Server → Server
seeks_to tx r offset s = gives (op_caller tx r) (calls.Seek r.fd offset) (value offset 0) (moves_offset r.stream offset s)

abbrev pub seeks : TxNo → OpRequest → Server → Server
seeks tx r s = seeks_to tx r (start_in r.stream r.offset s) s

-- an operation
abbrev pub operates_by : FileOp → TxNo → OpRequest → FileId → Server → Server
operates_by ops.Read tx r file s = reads tx r file s
operates_by ops.Write tx r file s = writes tx r file s
operates_by ops.Append tx r file s = appends tx r file s
operates_by ops.Size tx r file s = sizes tx r file s
operates_by ops.Seek tx r file s = seeks tx r s

abbrev pub operates : TxNo → OpRequest → FileId → Server → Server
operates tx r file s = operates_by r.op tx r file s
