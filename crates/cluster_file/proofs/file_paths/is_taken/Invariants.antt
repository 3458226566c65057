use Rattle.std.proofs.Common.{◌≡◌, drop}
use Rattle.cluster_file.specs.Paths.{is_taken}
use Rattle.cluster_file.proofs.file_paths.is_taken.Given as goal

-- whether one of the rest has a domain there tells it of all
abbrev pub invariant-loop-line : goal.invariant-loop-line
invariant-loop-line l = is_taken (drop l.line-index l.kernels) l.path ≡ is_taken l.kernels l.path
