use Rattle.std.proofs.Common.{◌≡◌, drop}
use Rattle.stream_table.specs.Streams.{carried_of, closed_all}
use Rattle.stream_table.proofs.streams.Streams.take_all.Given as goal

abbrev pub invariant-loop-item : goal.invariant-loop-item
invariant-loop-item l = closed_all l.pid l.self (drop l.item-index l.item-items) ≡ closed_all l.pid l.fn.self (carried_of l.fn.self l.pid)
