use Rattle.std.proofs.Common.{◌≡◌, ◌||◌}
use Rattle.echo_worth.specs.declared.keys.CallTo.{CallTo}
use Rattle.echo_worth.specs.Kept.{has_to, slots_have}
use Rattle.echo_worth.proofs.kept.give_up.Given as goal

-- the echoes of the slots so far are given up
abbrev pub invariant-loop-place : goal.invariant-loop-place
invariant-loop-place l = (to : CallTo) → has_to l.given_up.keys to ≡ (has_to l.fn.given_up.keys to || slots_have l.slots.entries l.at l.place to)
