use Rattle.std.proofs.Common.{◌≡◌, ◌++◌, drop}
use Rattle.cluster_file.specs.Paths.{file_paths}
use Rattle.cluster_file.proofs.file_paths.file_paths.Given as goal

-- the paths so far and those of the rest are all
abbrev pub invariant-loop-row : goal.invariant-loop-row
invariant-loop-row l = l.paths ++ file_paths (drop l.row-index l.rows) ≡ file_paths l.rows
