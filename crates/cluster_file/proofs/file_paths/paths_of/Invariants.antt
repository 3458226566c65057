use Rattle.std.proofs.Common.{◌≡◌, Some, drop}
use Rattle.cluster_file.specs.Paths.{paths_on, paths_of}
use Rattle.cluster_file.proofs.file_paths.paths_of.Given as goal

-- the paths of the rest, behind those so far, are those of all
abbrev pub invariant-loop-text : goal.invariant-loop-text
invariant-loop-text l = paths_on (Some l.paths) (drop l.text-index l.texts) ≡ paths_of l.texts
