use Rattle.std.proofs.Common.{◌≡◌, drop}
use Rattle.cluster_file.specs.Names.{serves_again}
use Rattle.cluster_file.proofs.again.serves_again.Given as goal

-- whether one of the rest stands again tells it of all
abbrev pub invariant-loop-place : goal.invariant-loop-place
invariant-loop-place l = serves_again l.earlier (drop l.place l.paths) ≡ serves_again l.earlier l.paths
