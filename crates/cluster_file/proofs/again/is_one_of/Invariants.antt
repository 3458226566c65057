use Rattle.std.proofs.Common.{◌≡◌, drop}
use Rattle.cluster_file.specs.Names.{is_one_of}
use Rattle.cluster_file.proofs.again.is_one_of.Given as goal

-- whether one of the rest is the text tells it of all
abbrev pub invariant-loop-other : goal.invariant-loop-other
invariant-loop-other l = is_one_of l.text (drop l.other-index l.texts) ≡ is_one_of l.text l.texts
