use Rattle.std.proofs.Common.{◌≡◌, ◌≤◌, drop, Some}
use Rattle.unix_calls.specs.After.{state_from, state_of}
use Rattle.unix_world.specs.Among.{Ascending}
use Rattle.unix_world.specs.Worlds.{unix_of}
use Rattle.one_kernel.specs.Verdicts.{verdict_from, verdict_of}
use Rattle.one_kernel.proofs.replaying.replay.Given as goal

abbrev pub invariant-loop-entry : goal.invariant-loop-entry
invariant-loop-entry l =
    (verdict_from l.c l.most l.place l.cost (unix_of l.c l.world l.processes) (drop l.entry-index l.entries) ≡ verdict_of l.c l.most l.entries)
    × (l.cost ≤ l.most)
    × Ascending l.processes
    × (state_from l.c (Some (unix_of l.c l.world l.processes)) (drop l.entry-index l.entries) ≡ state_of l.c l.entries)
