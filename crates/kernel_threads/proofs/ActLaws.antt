-- What the calls of one turn do in a row.
use Rattle.std.proofs.Common.{ℕ, List, [], sym, ◌∙◌, append-nil}
use Rattle.turn_gate.proofs.TurnLaws.{grows_on}
use Rattle.kernel_threads.specs.Steps.{Stays, Adds, Acts}

module _ {V O I : Type 0} (origin : V → O) (log : V → List (ℕ × I)) (holds : V → Type 0) (kernel : ℕ) where
  pub acts_stays : (v w : V) → Stays origin log holds v w → Acts origin log holds kernel v w
  acts_stays v w s = record { origin_stays = s.origin_stays; grows = ([], s.log_stays ∙ sym (append-nil (log v)), tt); still_holds = s.still_holds }

  pub acts_adds : (v w : V) → Adds origin log holds kernel v w → Acts origin log holds kernel v w
  acts_adds v w a = record { origin_stays = a.origin_stays; grows = a.grows; still_holds = a.still_holds }

  pub acts_on : (u v w : V) → Acts origin log holds kernel u v → Acts origin log holds kernel v w → Acts origin log holds kernel u w
  acts_on u v w a b = record { origin_stays = b.origin_stays ∙ a.origin_stays; grows = grows_on kernel (log u) (log v) (log w) a.grows b.grows; still_holds = b.still_holds }
