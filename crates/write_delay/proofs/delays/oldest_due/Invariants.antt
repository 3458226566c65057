use Rattle.std.proofs.Common.{◌≡◌}
use Rattle.std.specs.Iterator.Adapters.{rev_source}
use Rattle.write_delay.specs.Delays.{oldest_due}
use Rattle.write_delay.proofs.delays.oldest_due.Given as goal

abbrev pub invariant-loop-block : goal.invariant-loop-block
invariant-loop-block l =
    (goal.iterator-loop-block).can_next l.block-iterator ×
    (goal.iterator-loop-block).is_finite l.block-iterator ×
    (oldest_due (rev_source l.block-iterator) l.step ≡ oldest_due l.blocks.entries l.step)
