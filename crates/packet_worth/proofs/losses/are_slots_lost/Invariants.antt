use Rattle.std.proofs.Common.{◌≡◌}
use Rattle.packet_worth.specs.Losses.{slots_lost}
use Rattle.packet_worth.proofs.losses.are_slots_lost.Given as goal

-- whether a packet was lost between the kernels of the slots so far
abbrev pub invariant-loop-place : goal.invariant-loop-place
invariant-loop-place l = l.lost ≡ slots_lost l.slots.entries l.losses.entries l.tx l.sent l.place
