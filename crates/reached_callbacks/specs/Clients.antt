-- What a client answers to a callback.
use Rattle.std.specs.Prelude.{◌≡◌, ℕ, Some, slice_get}
use Rattle.sprite_ids.specs.declared.Flushed.{Flushed}
use Rattle.sprite_ids.specs.declared.TxNo.{TxNo}
use Rattle.block_cache.specs.Held.{flushed_of}
use Rattle.packet_bodies.specs.declared.CallbackRequest.{CallbackRequest}
use Rattle.packet_bodies.specs.declared.ReplyBody.TheVariants as replies
use Rattle.packet_bodies.specs.declared.Request.TheVariants.{Callback}
use Rattle.kernel_steps.specs.declared.Input.TheVariants as inputs
use Rattle.kernel_steps.specs.declared.Out.{Out}
use Rattle.client_homes.specs.declared.ClientProcs.{ClientProcs}
use Rattle.client_procs.specs.Steps.{client_step}

-- a step answers the call of that number with these flushed blocks
pub record Flushes (out : Out) (tx : TxNo) (flushed : Flushed) : Type 0 where
  pub at : ℕ
  pub there : slice_get out.answers at ≡ Some (tx, replies.Flushed flushed)

-- a client answers a callback in the step in which it comes, with the dirty blocks that it has of the file
abbrev pub CallbacksAreAnswered : Type 0
CallbacksAreAnswered = (s : ClientProcs) (tx : TxNo) (source : ℕ) (request : CallbackRequest) (next : TxNo) (step : ℕ)
    → Flushes (client_step s (inputs.Request tx source (Callback request)) next step).1 tx (flushed_of s.files.cache request.file)
