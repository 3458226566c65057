use Rattle.std.proofs.Common.{◌≡◌, drop}
use Rattle.cluster_file.specs.Faults.{is_known}
use Rattle.cluster_file.proofs.fault.is_known.Given as goal

-- whether the text is one of the rest tells it of all
abbrev pub invariant-loop-key : goal.invariant-loop-key
invariant-loop-key l = is_known (drop l.key-index l.keys) l.text ≡ is_known l.keys l.text
