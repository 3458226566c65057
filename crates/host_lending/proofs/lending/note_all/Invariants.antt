use Rattle.std.proofs.Common.{◌≡◌, ◌++◌, map, take, drop}
use Rattle.host_lending.specs.Tables.{noted}
use Rattle.host_lending.proofs.lending.note_all.Given as goal

abbrev pub invariant-loop-at : goal.invariant-loop-at
invariant-loop-at l = l.hosts.items ≡ map (noted l.event l.answer) (take l.at l.fn.hosts.items) ++ drop l.at l.fn.hosts.items
