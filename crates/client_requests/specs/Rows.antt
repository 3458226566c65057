-- Where the remote calls stand that a client's kernel keeps, or that a step of it answers.
use Rattle.std.specs.Prelude.{◌≡◌, ◌⊎◌, ℕ, Some, slice_get}
use Rattle.sprite_ids.specs.declared.TxNo.{TxNo}
use Rattle.kernel_steps.specs.declared.writer.Out.{Out}
use Rattle.packet_bodies.specs.declared.ReplyBody.{ReplyBody}
use Rattle.unix_calls.specs.declared.About.{About}
use Rattle.client_homes.specs.declared.client.ClientProcs.{ClientProcs}
use Rattle.client_requests.specs.Kept.{IsAnswered, IsKept}

-- among the answers of a step, the parked `wait`s, the asks
pub record AnswerIn (tx : TxNo) (out : Out) : Type 0 where
  pub at : ℕ
  pub reply : ReplyBody
  pub there : slice_get out.answers at ≡ Some (tx, reply)

pub record WaitIn (tx : TxNo) (s : ClientProcs) : Type 0 where
  pub at : ℕ
  pub pid : ℕ
  pub number : ℕ
  pub there : slice_get s.waits at ≡ Some (pid, record { number = number; tx = Some tx })

pub record AskIn (tx : TxNo) (s : ClientProcs) : Type 0 where
  pub at : ℕ
  pub about : About
  pub there : slice_get s.asked at ≡ Some (about, Some tx)

-- what is answered stands among the answers; and what is kept among the parked `wait`s or the asks
abbrev pub AnsweredIsThere : Type 0
AnsweredIsThere = (tx : TxNo) (out : Out) → IsAnswered tx out → AnswerIn tx out

abbrev pub KeptIsThere : Type 0
KeptIsThere = (tx : TxNo) (s : ClientProcs) → IsKept tx s → WaitIn tx s ⊎ AskIn tx s
