use Rattle.std.proofs.Common.{◌≡◌, ◌+◌}
use Rattle.packet_worth.specs.declared.pairs.Pair.{Pair}
use Rattle.packet_worth.specs.Pairs.{pair_count, slot_count}
use Rattle.packet_worth.proofs.faults.add_each.Given as goal

-- the first slots are added
abbrev pub invariant-loop-place : goal.invariant-loop-place
invariant-loop-place l = (other : Pair) → pair_count l.packets.entries other ≡ pair_count l.fn.packets.entries other + slot_count l.slots.entries l.tx l.place other
