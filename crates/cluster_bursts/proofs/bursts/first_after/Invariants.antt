use Rattle.std.proofs.Common.{◌≡◌}
use Rattle.std.specs.List.{find}
use Rattle.std.specs.Map.{keys_of}
use Rattle.cluster_bursts.specs.Bursts.{is_next}
use Rattle.cluster_bursts.proofs.bursts.first_after.Given as goal

abbrev pub invariant-loop-pid : goal.invariant-loop-pid
invariant-loop-pid l = find (is_next l.kernel l.state l.last) l.pid-iterator ≡ find (is_next l.kernel l.state l.last) (keys_of l.procs.entries)
