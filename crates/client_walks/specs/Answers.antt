-- What a client's answers don't do: they send no call on to another server.
use Rattle.std.specs.Prelude.{◌≡◌, ℕ, Bool, true, false, List}
use Rattle.std.specs.List.{AllByRecursion}
use Rattle.sprite_ids.specs.declared.TxNo.{TxNo}
use Rattle.packet_bodies.specs.declared.ReplyBody.{ReplyBody}
use Rattle.packet_bodies.specs.declared.ReplyBody.TheVariants.{Redirect}
use Rattle.kernel_steps.specs.declared.Input.{Input}
use Rattle.client_homes.specs.declared.client.ClientProcs.{ClientProcs}
use Rattle.client_procs.specs.Steps.{client_step}

-- whether an answer sends a name call on, into another domain
abbrev pub is_redirect : ReplyBody → Bool
is_redirect (Redirect path) = true
is_redirect body = false

-- none of these answers does
abbrev pub SendNoneOn : List (TxNo × ReplyBody) → Type 0
SendNoneOn answers = AllByRecursion (λ (answer : TxNo × ReplyBody). is_redirect answer.1 ≡ false) answers

-- nor does one of a step of a client, whatever comes
abbrev pub ClientsSendNoneOn : Type 0
ClientsSendNoneOn = (s : ClientProcs) (input : Input) (next : TxNo) (step : ℕ) → SendNoneOn (client_step s input next step).1.answers
