-- A step of the server.
use Rattle.std.specs.Prelude.{ℕ}
use Rattle.sprite_ids.specs.declared.TxNo.{TxNo}
use Rattle.packet_bodies.specs.declared.ReplyBody.{ReplyBody}
use Rattle.packet_bodies.specs.declared.ReplyBody.TheVariants as replies
use Rattle.kernel_steps.specs.declared.Input.{Input}
use Rattle.kernel_steps.specs.declared.Input.TheVariants as inputs
use Rattle.kernel_steps.specs.declared.Out.{Out}
use Rattle.kernel_steps.specs.Outs.{started}
use Rattle.server_kernel.specs.declared.server.Server.{Server}
use Rattle.server_kernel.specs.Served.{serves}
use Rattle.server_kernel.specs.Waits.{flushes}

-- nothing is said so far, and the first remote call has that number
abbrev pub begins : TxNo → Server → Server
begins next s = record s { out = started next }

-- what was said is handed on
abbrev pub said : Server → Server
said s = begins (record { 0 = 0 }) s

-- an answer to a remote call of the server: one to a callback
abbrev pub takes_reply : TxNo → ReplyBody → Server → Server
takes_reply tx (replies.Flushed flushed) s = flushes tx flushed s
takes_reply tx _ s = s

-- a request, or an answer; no other input means anything to a server
abbrev pub takes : Input → Server → Server
takes (inputs.Request tx source body) s = serves (record { tx = tx; from = source; body = body }) s
takes (inputs.Replied tx source body) s = takes_reply tx body s
takes _ s = s

-- the server after a step, and what the step says
abbrev pub parted : Server → Server × Out
parted s = (said s, s.out)

abbrev pub server_step : Server → Input → TxNo → Server × Out
server_step s input next = parted (takes input (begins next s))
