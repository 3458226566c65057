-- How name calls end.
use Rattle.std.specs.Prelude.{ℕ, Bool, true, false, if◌then◌else◌, Option, Some, None}
use Rattle.sprite_ids.specs.declared.TxNo.{TxNo}
use Rattle.sprite_ids.specs.declared.StreamNo.{StreamNo}
use Rattle.sprite_ids.specs.declared.DeviceId.{DeviceId}
use Rattle.sprite_ids.specs.declared.Object.{Object}
use Rattle.sprite_ids.specs.declared.Object.TheVariants as objects
use Rattle.sprite_ids.specs.declared.Mode.TheVariants as modes
use Rattle.sprite_ids.specs.declared.Errno.{Errno}
use Rattle.sprite_ids.specs.declared.Errno.TheVariants as errno
use Rattle.process_machine.specs.declared.Reply.{Reply}
use Rattle.process_machine.specs.declared.Reply.TheVariants.{Value, Error}
use Rattle.packet_bodies.specs.declared.NameOp.{NameOp}
use Rattle.packet_bodies.specs.declared.NameOp.TheVariants as ops
use Rattle.packet_bodies.specs.declared.Target.{Target}
use Rattle.packet_bodies.specs.declared.Target.TheVariants as targets
use Rattle.packet_bodies.specs.declared.OpenedReply.{OpenedReply}
use Rattle.packet_bodies.specs.declared.ValueReply.{ValueReply}
use Rattle.stream_table.specs.declared.Place.TheVariants.{Local}
use Rattle.stream_table.specs.declared.Stream.{Stream}
use Rattle.unix_calls.specs.declared.Flags.{Flags}
use Rattle.unix_calls.specs.Opening.{flags_of}
use Rattle.client_file_tables.specs.declared.ClientFiles.{ClientFiles}
use Rattle.client_file_tables.specs.declared.NameCall.{NameCall}
use Rattle.client_file_tables.specs.declared.NameKind.{NameKind}
use Rattle.client_file_tables.specs.declared.NameKind.TheVariants as kinds
use Rattle.client_file_tables.specs.declared.NameState.{NameState}
use Rattle.client_file_tables.specs.declared.NameState.TheVariants.{Broadcasting, Echoing, Asking}
use Rattle.client_file_tables.specs.declared.Pending.{Pending}
use Rattle.client_file_tables.specs.declared.Pending.TheVariants.{Name}
use Rattle.client_file_tables.specs.Rows.{same_call, first_of, less_of, first_call, less_call}
use Rattle.client_file_tables.specs.Says.{about_of, answers_here, plain_value, replies}
use Rattle.client_file_tables.specs.Steps.{keeps}
use Rattle.client_file_tables.specs.Streams.{adds_stream, added_fd, sets_cwd}
use Rattle.client_file_tables.specs.declared.NameWork.{NameWork}
use Rattle.client_names.specs.Paths.{Parts}

-- whether a name call waits for that remote call
abbrev pub is_for : TxNo → NameState → Bool
is_for tx (Broadcasting own prefix) = same_call own tx
is_for tx (Echoing own server) = same_call own tx
is_for tx (Asking own) = same_call own tx

-- whether a looked-up operation takes the end of that remote call: a name call that of the very one for which it waits, any other each
abbrev pub takes_end : TxNo → Option Pending → Bool
takes_end tx (Some (Name call)) = is_for tx call.state
takes_end tx _ = true

-- the call is Unreachable, which is entered here
abbrev pub unreaches : ℕ → NameCall → ClientFiles → ClientFiles
unreaches pid call s = answers_here (about_of pid call.work.number) call.work.call (Error errno.Unreachable) s

-- only a name call is given up; what else a process waits for stays
abbrev pub gives_up_by : ℕ → Option Pending → ClientFiles → ClientFiles
gives_up_by pid (Some (Name call)) s = unreaches pid call s
gives_up_by pid (Some operation) s = keeps pid operation s
gives_up_by pid None s = s

abbrev pub gives_up_on : TxNo → ℕ → ClientFiles → ClientFiles
gives_up_on tx pid s = if takes_end tx (first_of pid s.pending) then gives_up_by pid (first_of pid s.pending) (record s { pending = less_of pid s.pending }) else s

abbrev pub gives_up_first : Option ℕ → TxNo → ClientFiles → ClientFiles
gives_up_first (Some pid) tx s = gives_up_on tx pid s
gives_up_first None tx s = s

-- a broadcast or an echo is given up
abbrev pub gives_up : TxNo → ClientFiles → ClientFiles
gives_up tx s = gives_up_first (first_call tx s.txs) tx (record s { txs = less_call tx s.txs })

-- the server refused the call
abbrev pub ends_refused : ℕ → Errno → ClientFiles → ClientFiles
ends_refused pid why s = replies pid (Error why) s

-- the reply that a value is
abbrev pub reply_of : ValueReply → Reply
reply_of value = Value value.first value.second value.bytes

-- what a new stream leads to
abbrev pub object_of : Target → Object
object_of (targets.File file) = objects.File file
object_of (targets.Device device) = objects.Device device

-- the stream that an open with lawful flags makes: its offset is 0, and one grant came with it
abbrev pub opened_by : Option Flags → Target → Option Stream
opened_by (Some flags) target =
    Some (record { object = object_of target; mode = flags.mode; place = Local 0; grants = 1; append = flags.appends })
opened_by None target = None

abbrev pub opened_stream : ℕ → Target → Option Stream
opened_stream flags target = opened_by (flags_of flags) target

-- the stream of a new pseudo-device's master
abbrev pub master_stream : DeviceId → Stream
master_stream device = record { object = objects.Master device; mode = modes.Read; place = Local 0; grants = 1; append = false }

-- the process is told its new descriptor
abbrev pub gives_descriptor : ℕ → Option ℕ → ClientFiles → ClientFiles
gives_descriptor pid (Some fd) s = replies pid (plain_value fd) s
gives_descriptor pid None s = replies pid (Error errno.TooMany) s

-- the process has the new stream: where it is a file's, the client's part of its Delivering
abbrev pub installs : ℕ → StreamNo → Stream → ClientFiles → ClientFiles
installs pid number stream s = gives_descriptor pid (added_fd pid stream s) (adds_stream pid number stream s)

-- the server opened the path
abbrev pub installs_opened : ℕ → StreamNo → Option Stream → ClientFiles → ClientFiles
installs_opened pid number (Some stream) s = installs pid number stream s
installs_opened pid number None s = s

abbrev pub ends_opened_by : NameKind → ℕ → OpenedReply → ClientFiles → ClientFiles
ends_opened_by (kinds.Open flags stream fd) pid opened s = installs_opened pid stream (opened_stream flags opened.object) s
ends_opened_by _ pid opened s = s

abbrev pub ends_opened : ℕ → NameWork → OpenedReply → ClientFiles → ClientFiles
ends_opened pid work opened s = ends_opened_by work.kind pid opened s

-- the server gave a value; a chdir's path is the working directory from now on
abbrev pub gives_value : ℕ → NameOp → Parts → ValueReply → ClientFiles → ClientFiles
gives_value pid ops.Chdir path value s = replies pid (reply_of value) (sets_cwd pid path s)
gives_value pid other path value s = replies pid (reply_of value) s

-- of a make, the master has its stream
abbrev pub ends_value_by : NameKind → ℕ → Parts → ValueReply → ClientFiles → ClientFiles
ends_value_by (kinds.Open flags stream fd) pid path value s = s
ends_value_by (kinds.Make device stream fd) pid path value s = installs pid stream (master_stream device) s
ends_value_by (kinds.Name op second max) pid path value s = gives_value pid op path value s

abbrev pub ends_value : ℕ → NameWork → ValueReply → ClientFiles → ClientFiles
ends_value pid work value s = ends_value_by work.kind pid work.path value s
