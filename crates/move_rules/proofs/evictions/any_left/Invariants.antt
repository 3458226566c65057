use Rattle.std.proofs.Common.{◌≡◌, drop}
use Rattle.std.specs.List.{list_any}
use Rattle.move_rules.specs.Evictions.{is_left_in}
use Rattle.move_rules.proofs.evictions.any_left.Given as goal

-- none so far is left
abbrev pub invariant-loop-line : goal.invariant-loop-line
invariant-loop-line l = list_any (is_left_in l.due.entries l.stops l.pid l.kernel) (drop l.line-index l.lines) ≡ list_any (is_left_in l.due.entries l.stops l.pid l.kernel) l.lines
