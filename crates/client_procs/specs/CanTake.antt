-- Whether a client's kernel can take what comes: a process that it brings is new there, and a stream that it opens isn't open.
use Rattle.std.specs.Prelude.{ℕ, ◌==◌, Bool, true, ◌&&◌, ◌||◌, not, if◌then◌else◌, is_some, Option, Some, None}
use Rattle.sprite_ids.specs.Pid.{home_of}
use Rattle.sprite_ids.specs.declared.StreamNo.{StreamNo}
use Rattle.sprite_ids.specs.declared.TxNo.{TxNo}
use Rattle.process_machine.specs.declared.Reply.{Reply}
use Rattle.packet_bodies.specs.declared.HomeCall.{HomeCall}
use Rattle.packet_bodies.specs.declared.HomeCall.TheVariants as home_calls
use Rattle.packet_bodies.specs.declared.HomeRequest.{HomeRequest}
use Rattle.packet_bodies.specs.declared.ReplyBody.{ReplyBody}
use Rattle.home_table.specs.Home.{was_born}
use Rattle.stream_table.specs.Entries.{is_open}
use Rattle.kernel_steps.specs.Rows.{first_under}
use Rattle.kernel_steps.specs.declared.Input.{Input}
use Rattle.kernel_steps.specs.declared.Input.TheVariants as inputs
use Rattle.client_file_tables.specs.declared.ClientFiles.{ClientFiles}
use Rattle.client_file_tables.specs.declared.NameKind.{NameKind}
use Rattle.client_file_tables.specs.declared.NameKind.TheVariants as kinds
use Rattle.client_file_tables.specs.declared.Pending.{Pending}
use Rattle.client_file_tables.specs.declared.Pending.TheVariants.{Name}
use Rattle.client_file_tables.specs.Rows.{first_call, first_of}
use Rattle.client_file_tables.specs.Steps.{owns}
use Rattle.client_homes.specs.declared.ClientProcs.{ClientProcs}
use Rattle.client_homes.specs.declared.Unfinished.{Unfinished}
use Rattle.client_homes.specs.declared.Unfinished.TheVariants as unfinished
use Rattle.client_homes.specs.Homes.{is_native}
use Rattle.client_homes.specs.Issuing.{child_in, own_request}
use Rattle.client_homes.specs.Procs.{is_call}
use Rattle.client_homes.specs.Words.{reply_of}
use Rattle.client_procs.specs.Arriving.{brought, is_new}

-- whether a process may come: it is neither here nor on its way from here, and was born, where this is its home
abbrev pub may_come : ℕ → ClientProcs → Bool
may_come pid s = is_new pid s && (not (is_native pid s) || was_born s.home pid)

-- and whether one that is brought may, where there is one
abbrev pub may_be_brought : Option ℕ → ClientProcs → Bool
may_be_brought (Some pid) s = may_come pid s
may_be_brought None s = true

-- the child of a call of that reply
abbrev pub forked : HomeCall → Reply → Option ℕ
forked home_calls.Fork reply = child_in reply
forked _ reply = None

-- of a looked-up call
abbrev pub child_heard : Option HomeRequest → Reply → Option ℕ
child_heard (Some request) reply = forked request.call reply
child_heard None reply = None

-- the child that the answer to a remote call of a looked-up purpose brings: that of a home to a `fork`
abbrev pub child_by : Option Unfinished → ReplyBody → ClientProcs → Option ℕ
child_by (Some (unfinished.Home pid)) body s = child_heard (own_request pid s) (reply_of body)
child_by _ body s = None

-- the stream that a name call makes
abbrev pub made_by : NameKind → Option StreamNo
made_by (kinds.Open flags stream fd) = Some stream
made_by (kinds.Make device stream fd) = Some stream
made_by (kinds.Name op second max) = None

-- a looked-up operation
abbrev pub made_in : Option Pending → Option StreamNo
made_in (Some (Name call)) = made_by call.work.kind
made_in _ = None

-- the operation of a looked-up process
abbrev pub made_of : Option ℕ → ClientFiles → Option StreamNo
made_of (Some pid) s = made_in (first_of pid s.pending)
made_of None s = None

-- whether a stream isn't open, where there is one
abbrev pub is_unopened : Option StreamNo → ClientFiles → Bool
is_unopened (Some number) s = not (is_open s.streams.entries number)
is_unopened None s = true

-- whether the answer to a remote call may come
abbrev pub may_answer : TxNo → ReplyBody → ClientProcs → Bool
may_answer tx body s =
    if owns tx s.files then is_unopened (made_of (first_call tx s.files.txs) s.files) s.files
    else may_be_brought (child_by (first_under is_call tx s.unfinished) body s) s

-- whether what comes can be taken: a process that it brings may come, and the stream that a name call makes, which it answers, isn't open
abbrev pub can_take : Input → ClientProcs → Bool
can_take (inputs.Request tx source body) s = may_be_brought (brought body) s
can_take (inputs.Replied tx source body) s = may_answer tx body s
can_take _ s = true
