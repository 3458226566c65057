-- What a client's kernel owes an answer.
use Rattle.std.specs.Prelude.{◌≡◌, ◌⊎◌, ℕ, false}
use Rattle.sprite_ids.specs.declared.TxNo.{TxNo}
use Rattle.kernel_steps.specs.declared.Input.{Input}
use Rattle.kernel_steps.specs.declared.Input.TheVariants as inputs
use Rattle.packet_bodies.specs.declared.Request.{Request}
use Rattle.client_homes.specs.declared.client.ClientProcs.{ClientProcs}
use Rattle.client_procs.specs.Steps.{client_step}
use Rattle.client_requests.specs.Kept.{IsAnswered, IsKept}
use Rattle.client_requests.specs.Requests.{is_left}

-- a remote call that was kept before, or that comes with a request that isn't left alone
pub data IsOwed (tx : TxNo) (s : ClientProcs) (input : Input) : Type 0 where
  WasKept : IsKept tx s → IsOwed tx s input
  HasCome : (source : ℕ) (body : Request) → input ≡ inputs.Request tx source body → is_left body s ≡ false → IsOwed tx s input

-- it is answered in the step, or kept behind it
abbrev pub OwedAreAnsweredOrKept : Type 0
OwedAreAnsweredOrKept = (s : ClientProcs) (input : Input) (next : TxNo) (step : ℕ) (tx : TxNo) → IsOwed tx s input → IsAnswered tx (client_step s input next step).1 ⊎ IsKept tx (client_step s input next step).0
