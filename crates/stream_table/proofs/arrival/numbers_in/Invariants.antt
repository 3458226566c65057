use Rattle.std.proofs.Common.{◌≡◌, Some, drop, fold, slice_set}
use Rattle.stream_table.specs.Streams.{numbers_in}
use Rattle.stream_table.proofs.arrival.numbers_in.Given as goal

abbrev pub invariant-loop-item : goal.invariant-loop-item
invariant-loop-item l = fold (λ numbers item. slice_set numbers item.fd (Some item.number)) l.numbers (drop l.item-index l.carried) ≡ numbers_in l.carried
