use Rattle.std.proofs.Common.{◌≡◌, [], take, drop}
use Rattle.cluster_file.specs.Names.{first_again, program_again}
use Rattle.cluster_file.proofs.again.program_twice.Given as goal

-- the first of the rest that stands again, behind those so far, is that of all
abbrev pub invariant-loop-place : goal.invariant-loop-place
invariant-loop-place l = first_again program_again (take l.place l.rows) (drop l.place l.rows) ≡ first_again program_again [] l.rows
