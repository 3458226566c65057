use Rattle.std.proofs.Common.{◌≡◌, ◌+◌, ◌-◌, ◌≤◌, length, drop}
use Rattle.process_machine.specs.Machine.{ArePages}
use Rattle.process_machine.specs.Memory.{with_bytes}
use Rattle.process_machine.proofs.memory.put_bytes.Given as goal

abbrev pub invariant-pieces : goal.invariant-pieces
invariant-pieces l = record {
  stay : ArePages l.pages;
  within : l.done ≤ length l.bytes;
  rest : with_bytes l.pages (l.address + l.done) (drop l.done l.bytes) ≡ with_bytes l.fn.pages l.address l.bytes;
}

abbrev pub decreases-pieces : goal.decreases-pieces
decreases-pieces l = length l.bytes - l.done
