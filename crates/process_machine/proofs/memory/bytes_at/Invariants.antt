use Rattle.std.proofs.Common.{◌≡◌, ◌≤◌, ◌-◌}
use Rattle.process_machine.specs.Memory.{bytes_at}
use Rattle.process_machine.proofs.memory.bytes_at.Given as goal

abbrev pub invariant-pieces : goal.invariant-pieces
invariant-pieces l = record {
  within : l.done ≤ l.count;
  so_far : l.bytes ≡ bytes_at l.pages l.address l.done;
}

abbrev pub decreases-pieces : goal.decreases-pieces
decreases-pieces l = l.count - l.done
