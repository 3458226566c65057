use Rattle.std.proofs.Common.{◌≡◌}
use Rattle.cluster_file.specs.Paths.{repeated}
use Rattle.cluster_file.proofs.file_paths.repeated.Given as goal

-- the text stands there so many times as there were turns
abbrev pub invariant-loop-time : goal.invariant-loop-time
invariant-loop-time l = l.bytes ≡ repeated l.text l.time
