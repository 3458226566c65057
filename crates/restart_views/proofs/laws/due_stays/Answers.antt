use Rattle.std.proofs.Common.{refl}
use Rattle.restart_views.specs.Restarts.{kept_at}
use Rattle.restart_views.proofs.DueLaws.{stop_due}
use Rattle.restart_views.proofs.ClaimLaws.{claim_due, claim_one}
use Rattle.restart_views.proofs.laws.due_stays.Goals as goal

pub returns : goal.returns
returns c = record {
  stop = λ s r a o. (stop_due s r a o).bytes;
  stop_one = λ s r a o. (stop_due s r a o).one;
  claim = λ s kernel l r o. claim_due s kernel (kept_at s.kept kernel) l refl r o;
  claim_one = λ s kernel o. claim_one s kernel (kept_at s.kept kernel) refl o;
}
