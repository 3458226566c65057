-- What a step of the server says.
use Rattle.std.specs.Prelude.{ℕ, List, [], Some}
use Rattle.sprite_ids.specs.declared.TxNo.{TxNo}
use Rattle.sprite_ids.specs.declared.Errno.{Errno}
use Rattle.process_machine.specs.declared.Call.{Call}
use Rattle.process_machine.specs.declared.Reply.{Reply}
use Rattle.process_machine.specs.declared.Reply.TheVariants.{Value, Error}
use Rattle.packet_bodies.specs.declared.ReplyBody.{ReplyBody}
use Rattle.packet_bodies.specs.declared.ReplyBody.TheVariants as replies
use Rattle.packet_bodies.specs.declared.ValueReply.{ValueReply}
use Rattle.unix_calls.specs.declared.Event.{Event}
use Rattle.unix_calls.specs.declared.Event.TheVariants.{Enter}
use Rattle.unix_calls.specs.declared.Part.TheVariants.{Whole}
use Rattle.kernel_steps.specs.Outs.{answered, noted}
use Rattle.server_kernel.specs.declared.asked.Caller.{Caller}
use Rattle.server_kernel.specs.declared.server.Server.{Server}

-- the remote call is answered
abbrev pub answers : TxNo → ReplyBody → Server → Server
answers tx body s = record s { out = answered tx body s.out }

-- what was done is noted
abbrev pub notes : Event → Server → Server
notes event s = record s { out = noted event s.out }

-- the call takes effect, with that reply
abbrev pub enters : Caller → Call → Reply → Server → Server
enters caller call reply s = notes (Enter (record { pid = caller.pid; number = caller.number; part = Whole; call = Some call; reply = Some reply })) s

-- a value without bytes
abbrev pub value : ℕ → ℕ → ValueReply
value first second = record { first = first; second = second; bytes = [] }

-- the call gives this value, and its request is answered with it
abbrev pub gives : Caller → Call → ValueReply → Server → Server
gives caller call given s = answers caller.tx (replies.Value given) (enters caller call (Value given.first given.second given.bytes) s)

-- the call is refused, and so is its request
abbrev pub refuses : Caller → Call → Errno → Server → Server
refuses caller call errno s = answers caller.tx (replies.Refused errno) (enters caller call (Error errno) s)
