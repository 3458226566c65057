-- What crosses threads as a type of a function does so as the type that the function hands on.
use Rattle.std.proofs.Common.{ℕ}
use mir.Syntax.{Ty}
use denote.Exit.{Kept, yes}
use denote.RattleType.{RattleType}
use denote.Param.{param, copied, arg}
use denote.Param.Send.{IsSend, IsSync, param_send, given_send}

pub sent_again : (i : ℕ) (δ : Ty) (R : RattleType) → IsSend (param i R) → IsSend (param i (arg δ yes R))
sent_again i δ R s = param_send i (arg δ yes R) (given_send i δ R s)

-- a type that is copied leaves nothing behind
pub copied_again : (i : ℕ) (δ : Ty) (k : Kept) (R : RattleType) → IsSend (copied i R) → IsSend (copied i (arg δ k R))
copied_again i δ k R s = record { owned = s.owned; leaving = λ _ x w. tt }

pub shared_again : (i : ℕ) (δ : Ty) (k : Kept) (R : RattleType) → IsSync (param i R) → IsSync (param i (arg δ k R))
shared_again i δ k R s = record { shared = s.shared }
