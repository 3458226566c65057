use Rattle.std.proofs.Common.{◌≡◌, drop}
use Rattle.std.specs.List.{list_any}
use Rattle.kernel_rpc.specs.Machine.{is_punctual}
use Rattle.kernel_rpc.proofs.queries.has_punctual.Given as goal

-- none so far
abbrev pub invariant-loop-copy : goal.invariant-loop-copy
invariant-loop-copy l = list_any (is_punctual l.kernel) (drop l.copy-index l.copies) ≡ list_any (is_punctual l.kernel) l.copies
