use Rattle.std.proofs.Common.{◌≡◌}
use Rattle.std.specs.List.{list_any}
use Rattle.std.specs.Map.{keys_of}
use Rattle.cluster_bursts.specs.Bursts.{is_runnable}
use Rattle.cluster_bursts.proofs.bursts.is_any_runnable.Given as goal

abbrev pub invariant-loop-pid : goal.invariant-loop-pid
invariant-loop-pid l = list_any (is_runnable l.kernel l.state) l.pid-iterator ≡ list_any (is_runnable l.kernel l.state) (keys_of l.procs.entries)
