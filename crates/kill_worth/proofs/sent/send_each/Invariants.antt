use Rattle.std.proofs.Common.{◌≡◌, ℕ}
use Rattle.kill_worth.specs.declared.keys.RequestAt.{RequestAt}
use Rattle.kill_worth.specs.Known.{away_slot, is_sent, sends_first}
use Rattle.kill_worth.proofs.sent.send_each.Given as goal

-- the request tells of the first kills
abbrev pub invariant-loop-place : goal.invariant-loop-place
invariant-loop-place l = (other : RequestAt) (p : ℕ) → is_sent l.sent other p ≡ sends_first l.at (away_slot l.away.slots.entries l.kill) l.place other p (is_sent l.fn.sent other p)
