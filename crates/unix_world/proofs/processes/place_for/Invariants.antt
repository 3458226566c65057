use Rattle.std.proofs.Common.{◌≡◌, ◌+◌, drop, nat_le}
use Rattle.std.specs.List.{position_or_len}
use Rattle.unix_calls.specs.declared.state.Process.{Process}
use Rattle.unix_world.proofs.processes.place_for.Given as goal

abbrev pub invariant-loop-at : goal.invariant-loop-at
invariant-loop-at l =
    l.at + position_or_len (λ (p : Process). nat_le l.pid p.pid) (drop l.at l.processes) ≡ position_or_len (λ (p : Process). nat_le l.pid p.pid) l.processes
