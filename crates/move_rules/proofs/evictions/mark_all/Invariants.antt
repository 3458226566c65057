use Rattle.std.proofs.Common.{◌≡◌}
use Rattle.std.specs.Map.{keys_of}
use Rattle.move_rules.specs.declared.evictions.DueAt.{DueAt}
use Rattle.move_rules.specs.Evictions.{due_at, leaves, mark_all, marked_stops}
use Rattle.move_rules.proofs.evictions.mark_all.Given as goal

-- those so far are marked
abbrev pub invariant-loop-pid : goal.invariant-loop-pid
invariant-loop-pid l = (at : DueAt) → mark_all (leaves l.places.entries l.births.entries l.movers.returned.keys l.marking.host) (marked_stops l.marking l.movers) l.marking.host l.marking.after l.pid-iterator at (due_at l.due.entries at) ≡ mark_all (leaves l.places.entries l.births.entries l.movers.returned.keys l.marking.host) (marked_stops l.marking l.movers) l.marking.host l.marking.after (keys_of l.places.entries) at (due_at l.fn.due.entries at)
