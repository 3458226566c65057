use Rattle.std.proofs.Common.{◌≡◌, ◌≤◌, ◌+◌, ◌++◌}
use Rattle.std.specs.Prelude.{vec_capacity, vec_len}
use Rattle.std.specs.Vec.Iter.{into_iter_items, into_iter_len}
use Rattle.call_journal.specs.Journal.{records_by}
use Rattle.call_journal.proofs.trace.put_all.Given as goal

-- the records so far and those of the rest, for which there is room
abbrev pub invariant-loop-event : goal.invariant-loop-event
invariant-loop-event l =
    (l.records.items ++ records_by l.kernel (into_iter_items l.event-iterator) ≡ l.fn.records.items ++ records_by l.kernel l.fn.told.items)
    × (vec_len l.records + into_iter_len l.event-iterator ≤ vec_capacity l.records)
