use Rattle.std.proofs.Common.{◌≡◌, ◌<◌, ◌+◌}
use Rattle.sharing_rules.specs.Cached.{are_held_in}
use Rattle.sharing_rules.proofs.cached_calls.are_held.Given as goal

-- those that are left are held exactly where all are
abbrev pub invariant-loop-left : goal.invariant-loop-left
invariant-loop-left l = record {
  same : are_held_in l.held.keys l.kernel l.file l.left l.block ≡ are_held_in l.held.keys l.kernel l.file l.count l.first;
  few : l.left + l.block < 18446744073709551616;
}

abbrev pub decreases-loop-left : goal.decreases-loop-left
decreases-loop-left l = l.left
