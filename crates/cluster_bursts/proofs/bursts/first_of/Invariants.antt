use Rattle.std.proofs.Common.{◌≡◌}
use Rattle.std.specs.List.{find}
use Rattle.std.specs.Map.{keys_of}
use Rattle.cluster_bursts.specs.Bursts.{is_runnable}
use Rattle.cluster_bursts.proofs.bursts.first_of.Given as goal

abbrev pub invariant-loop-pid : goal.invariant-loop-pid
invariant-loop-pid l = find (is_runnable l.kernel l.state) l.pid-iterator ≡ find (is_runnable l.kernel l.state) (keys_of l.procs.entries)
