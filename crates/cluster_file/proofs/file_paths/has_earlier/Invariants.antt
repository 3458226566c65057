use Rattle.std.proofs.Common.{◌≡◌, drop}
use Rattle.cluster_file.specs.Paths.{has_earlier}
use Rattle.cluster_file.proofs.file_paths.has_earlier.Given as goal

-- whether one of the rest has the path tells it of all
abbrev pub invariant-loop-line : goal.invariant-loop-line
invariant-loop-line l = has_earlier (drop l.line-index l.earlier) l.path ≡ has_earlier l.earlier l.path
