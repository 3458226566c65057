use Rattle.std.proofs.Common.{◌≡◌, ◌++◌, drop}
use Rattle.stream_table.specs.Entries.{entries_in}
use Rattle.stream_table.specs.Streams.{carried_from}
use Rattle.stream_table.proofs.arrival.carried_from.Given as goal

abbrev pub invariant-loop-fd : goal.invariant-loop-fd
invariant-loop-fd l = l.carried.items ++ carried_from (entries_in l.entries.entries) l.fd (drop l.fd l.numbers) ≡ carried_from (entries_in l.entries.entries) 0 l.numbers
