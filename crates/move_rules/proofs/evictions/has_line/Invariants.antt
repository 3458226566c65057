use Rattle.std.proofs.Common.{◌≡◌, drop}
use Rattle.move_rules.specs.Evictions.{has_line}
use Rattle.move_rules.proofs.evictions.has_line.Given as goal

-- none so far is it
abbrev pub invariant-loop-line : goal.invariant-loop-line
invariant-loop-line l = has_line (drop l.line-index l.lines) l.host l.after ≡ has_line l.lines l.host l.after
