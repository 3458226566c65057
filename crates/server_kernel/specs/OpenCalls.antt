-- The call that an open's request carries.
use Rattle.std.specs.Prelude.{ℕ, []}
use Rattle.sprite_ids.specs.declared.TxNo.{TxNo}
use Rattle.process_machine.specs.declared.Call.{Call}
use Rattle.process_machine.specs.declared.Call.TheVariants.{OpenFile}
use Rattle.process_machine.specs.declared.Reply.TheVariants.{Value}
use Rattle.packet_bodies.specs.declared.OpeningRequest.{OpeningRequest}
use Rattle.server_kernel.specs.declared.asked.Caller.{Caller}
use Rattle.server_kernel.specs.declared.server.Server.{Server}
use Rattle.server_kernel.specs.Says.{enters}

-- the call
abbrev pub open_call : OpeningRequest → Call
open_call r = OpenFile r.text r.flags

-- the process that it goes for
abbrev pub open_caller : TxNo → OpeningRequest → Caller
open_caller tx r = record { tx = tx; pid = r.pid; number = r.number }

-- the open takes effect: it gives the descriptor
abbrev pub gives_open : TxNo → OpeningRequest → Server → Server
gives_open tx r s = enters (open_caller tx r) (open_call r) (Value r.fd 0 []) s
