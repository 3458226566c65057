-- What a server's kernel tells: entries of whole calls, with a value or with an error of its own, what it does with its files, and which
-- kernels it calls back.
use Rattle.std.specs.Prelude.{◌≡◌, ℕ, Bool, true, false, ◌&&◌, [], ◌∷◌, Option, Some, None}
use Rattle.std.specs.List.{AllByRecursion}
use Rattle.sprite_ids.specs.declared.Errno.{Errno}
use Rattle.sprite_ids.specs.declared.Errno.TheVariants as errno
use Rattle.sprite_ids.specs.declared.Tries.TheVariants.{Always}
use Rattle.sprite_ids.specs.declared.TxNo.{TxNo}
use Rattle.process_machine.specs.declared.Reply.{Reply}
use Rattle.process_machine.specs.declared.Reply.TheVariants.{Value, Error}
use Rattle.packet_bodies.specs.declared.CallbackRequest.{CallbackRequest}
use Rattle.packet_bodies.specs.declared.Request.TheVariants.{Callback}
use Rattle.kernel_steps.specs.declared.Input.{Input}
use Rattle.kernel_steps.specs.declared.Sending.{Sending}
use Rattle.unix_calls.specs.declared.Event.{Event}
use Rattle.unix_calls.specs.declared.Event.TheVariants as events
use Rattle.unix_calls.specs.declared.Part.{Part}
use Rattle.unix_calls.specs.declared.Part.TheVariants.{Whole}
use Rattle.unix_calls.specs.declared.SendKind.{SendKind}
use Rattle.unix_calls.specs.declared.SendKind.TheVariants.{Other}
use Rattle.server_kernel.specs.declared.Server.{Server}
use Rattle.server_kernel.specs.Steps.{server_step}

-- whether it is an error with which a server refuses calls
abbrev pub is_refusal : Errno → Bool
is_refusal errno.NoEntry = true
is_refusal errno.Exists = true
is_refusal errno.NotDir = true
is_refusal errno.IsDir = true
is_refusal errno.NotEmpty = true
is_refusal errno.TooBig = true
is_refusal errno.TooMany = true
is_refusal errno.Invalid = true
is_refusal errno.XDev = true
is_refusal errno.Busy = true
is_refusal why = false

-- whether it is a reply that a server enters
abbrev pub is_served_reply : Option Reply → Bool
is_served_reply (Some (Value first second bytes)) = true
is_served_reply (Some (Error why)) = is_refusal why
is_served_reply None = false

-- a server enters calls in one part
abbrev pub is_served_part : Part → Bool
is_served_part Whole = true
is_served_part part = false

-- and its packets are callbacks
abbrev pub is_served_kind : SendKind → Bool
is_served_kind Other = true
is_served_kind kind = false

-- whether it is an event that a server tells
abbrev pub is_served : Event → Bool
is_served (events.Enter entry) = is_served_part entry.part && is_served_reply entry.reply
is_served (events.Send tx to about kind) = is_served_kind kind
is_served (events.Grant file to stamp mode) = true
is_served (events.Callback file to stamp kind) = true
is_served (events.Opened file stream kernel mode) = true
is_served (events.Closed file stream kernel mode) = true
is_served (events.Shared file stream) = true
is_served event = false

-- such are all events of a step of a server, whatever comes
abbrev pub ServersTellSo : Type 0
ServersTellSo = (s : Server) (input : Input) (next : TxNo) → AllByRecursion (λ (event : Event). is_served event ≡ true) (server_step s input next).1.events

-- a remote call is a callback to one kernel, and goes there as long as it takes
pub record CallsBack (sending : Sending) : Type 0 where
  pub request : CallbackRequest
  pub body : sending.body ≡ Callback request
  pub kernel : ℕ
  pub one : sending.to ≡ kernel ∷ []
  pub lasts : sending.tries ≡ Always

-- such are all that a step of a server sends, whatever comes
abbrev pub ServersCallBackSo : Type 0
ServersCallBackSo = (s : Server) (input : Input) (next : TxNo) → AllByRecursion CallsBack (server_step s input next).1.sends
