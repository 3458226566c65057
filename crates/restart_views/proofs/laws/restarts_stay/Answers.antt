use Rattle.std.proofs.Common.{refl}
use Rattle.restart_views.specs.Restarts.{kept_at}
use Rattle.restart_views.proofs.RestartLaws.{new_restarts, stop_keeps, claim_keeps, file_keeps, settled_keeps}
use Rattle.restart_views.proofs.StoodLaws.{restarts_coherent, restarts_stood, restarts_bytes, restarts_right}
use Rattle.restart_views.proofs.laws.restarts_stay.Goals as goal

pub returns : goal.returns
returns c = record {
  new = new_restarts;
  stop = stop_keeps;
  claim = λ s kernel l r. claim_keeps s kernel (kept_at s.kept kernel) l refl r;
  file = file_keeps;
  settle = settled_keeps;
  coherent = restarts_coherent;
  stood = restarts_stood;
  bytes = restarts_bytes;
  right = restarts_right;
}
