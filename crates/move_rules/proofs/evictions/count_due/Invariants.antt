use Rattle.std.proofs.Common.{◌≡◌, ◌+◌, ◌≤◌, drop, cond, fold}
use Rattle.move_rules.specs.Evictions.{due_in}
use Rattle.move_rules.proofs.evictions.count_due.Given as goal

-- those so far are counted
abbrev pub invariant-loop-line : goal.invariant-loop-line
invariant-loop-line l = record {
  counted : fold (λ n x. n + cond (due_in l.due.entries l.pid l.kernel x) 1 0) l.count (drop l.line-index l.lines) ≡ fold (λ n x. n + cond (due_in l.due.entries l.pid l.kernel x) 1 0) 0 l.lines;
  few : l.count ≤ l.line-index;
}
