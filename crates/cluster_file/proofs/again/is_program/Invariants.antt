use Rattle.std.proofs.Common.{◌≡◌, drop}
use Rattle.cluster_file.specs.Names.{is_program}
use Rattle.cluster_file.proofs.again.is_program.Given as goal

-- whether one of the rest has the name tells it of all
abbrev pub invariant-loop-row : goal.invariant-loop-row
invariant-loop-row l = is_program l.name (drop l.row-index l.rows) ≡ is_program l.name l.rows
