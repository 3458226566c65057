use Rattle.std.proofs.Common.{◌≡◌, [], take, drop}
use Rattle.cluster_file.specs.Names.{first_again, kernel_again}
use Rattle.cluster_file.proofs.again.kernel_twice.Given as goal

-- the first of the rest that stands again, behind those so far, is that of all
abbrev pub invariant-loop-place : goal.invariant-loop-place
invariant-loop-place l = first_again kernel_again (take l.place l.rows) (drop l.place l.rows) ≡ first_again kernel_again [] l.rows
