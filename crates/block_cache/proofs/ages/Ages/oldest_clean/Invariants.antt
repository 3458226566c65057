use Rattle.std.proofs.Common.{◌≡◌, not}
use Rattle.std.specs.List.{find}
use Rattle.std.specs.Map.{values_of}
use Rattle.block_cache.specs.Blocks.{is_within}
use Rattle.block_cache.proofs.ages.Ages.oldest_clean.Given as goal

abbrev pub invariant-loop-key : goal.invariant-loop-key
invariant-loop-key l =
    find (λ key. not (is_within l.file l.first l.last key)) l.key-iterator ≡ find (λ key. not (is_within l.file l.first l.last key)) (values_of l.self.clean)
