use Rattle.std.proofs.Common.{◌≡◌}
use Rattle.toml.specs.View.{members_view}
use Rattle.cluster_file.specs.Faults.{unknown_key}
use Rattle.cluster_file.proofs.fault.unknown_key.Given as goal

-- the first unknown key of the rest is that of the whole
abbrev pub invariant-loop-key : goal.invariant-loop-key
invariant-loop-key l = unknown_key l.keys (members_view l.key-iterator) ≡ unknown_key l.keys (members_view l.table.entries)
