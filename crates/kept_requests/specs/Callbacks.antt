-- Which callbacks are out behind a step of a server: those that were, but for the one that is answered, and those that the step sends.
use Rattle.std.specs.Prelude.{◌≡◌, ℕ, ◌+◌, List, [], ◌∷◌, ◌++◌, length}
use Rattle.sprite_ids.specs.declared.CallKind.{CallKind}
use Rattle.sprite_ids.specs.declared.Tries.TheVariants.{Always}
use Rattle.sprite_ids.specs.declared.TxNo.{TxNo}
use Rattle.sprite_ids.specs.Lists.{less}
use Rattle.packet_bodies.specs.declared.ReplyBody.{ReplyBody}
use Rattle.packet_bodies.specs.declared.ReplyBody.TheVariants as replies
use Rattle.packet_bodies.specs.declared.Request.TheVariants.{Callback}
use Rattle.kernel_steps.specs.declared.Input.{Input}
use Rattle.kernel_steps.specs.declared.Input.TheVariants as inputs
use Rattle.kernel_steps.specs.declared.Out.{Out}
use Rattle.kernel_steps.specs.declared.Sending.{Sending}
use Rattle.kernel_steps.specs.Rows.{is_under}
use Rattle.server_kernel.specs.declared.CallOut.{CallOut}
use Rattle.server_kernel.specs.declared.Server.{Server}
use Rattle.server_kernel.specs.Steps.{server_step}
use Rattle.server_kernel.specs.Waits.{is_call}

-- the callbacks that are left once an answer to the call of that number has come: blocks that were flushed answer one
abbrev pub left_by : ReplyBody → TxNo → List (TxNo × CallOut) → List (TxNo × CallOut)
left_by (replies.Flushed flushed) tx rows = less (is_under is_call tx) rows
left_by reply tx rows = rows

-- and once an input has come
abbrev pub left_out : Input → List (TxNo × CallOut) → List (TxNo × CallOut)
left_out (inputs.Replied tx source body) rows = left_by body tx rows
left_out input rows = rows

-- a callback is that remote call: it has that number, goes to its one kernel as long as it takes, and is about its file
pub record IsSent (number : ℕ) (row : TxNo × CallOut) (sending : Sending) : Type 0 where
  pub numbered : row.0.0 ≡ number
  pub one : sending.to ≡ row.1.kernel ∷ []
  pub lasts : sending.tries ≡ Always
  pub stamp : ℕ
  pub kind : CallKind
  pub body : sending.body ≡ Callback (record { file = row.1.file; stamp = stamp; kind = kind })

-- these callbacks are these remote calls, one by one, numbered from there on
abbrev pub AreSent : ℕ → List (TxNo × CallOut) → List Sending → Type 0
AreSent number [] [] = Unit {0}
AreSent number (row ∷ rows) (sending ∷ sends) = IsSent number row sending × AreSent (number + 1) rows sends
AreSent number _ _ = ⊥

-- all that are out behind a step that begins with that number
pub record CallbacksAre (s : Server) (input : Input) (next : TxNo) (made : Server × Out) : Type 0 where
  pub new : List (TxNo × CallOut)
  pub rows : made.0.callbacks ≡ left_out input s.callbacks ++ new
  pub sent : AreSent next.0 new made.1.sends
  pub after : made.1.next.0 ≡ next.0 + length made.1.sends

-- such are they behind each step of a server, whatever comes
abbrev pub StepCallsBack : Type 0
StepCallsBack = (s : Server) (input : Input) (next : TxNo) → CallbacksAre s input next (server_step s input next)
