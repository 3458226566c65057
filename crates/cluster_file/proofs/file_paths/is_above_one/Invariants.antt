use Rattle.std.proofs.Common.{◌≡◌, drop}
use Rattle.cluster_file.specs.Paths.{is_above_one}
use Rattle.cluster_file.proofs.file_paths.is_above_one.Given as goal

-- whether the path is above one of the rest tells it of all
abbrev pub invariant-loop-other : goal.invariant-loop-other
invariant-loop-other l = is_above_one (drop l.other-index l.others) l.path ≡ is_above_one l.others l.path
