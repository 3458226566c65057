use Rattle.std.proofs.Common.{◌≡◌}
use Rattle.kill_worth.specs.declared.keys.KnownAt.{KnownAt}
use Rattle.kill_worth.specs.Known.{has_known, meets_first, sent_slot}
use Rattle.kill_worth.proofs.known.meet_each.Given as goal

-- the first kills of which the request tells are known
abbrev pub invariant-loop-place : goal.invariant-loop-place
invariant-loop-place l = (at : KnownAt) → has_known l.known.keys at ≡ meets_first l.places.entries l.at.kernel (sent_slot l.sent.slots.entries l.at) l.place at (has_known l.fn.known.keys at)
