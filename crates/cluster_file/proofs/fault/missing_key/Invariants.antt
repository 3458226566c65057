use Rattle.std.proofs.Common.{◌≡◌, drop}
use Rattle.toml.specs.View.{table_view}
use Rattle.cluster_file.specs.Faults.{first_key, is_missing}
use Rattle.cluster_file.proofs.fault.missing_key.Given as goal

-- the first of the rest is the first of all
abbrev pub invariant-loop-key : goal.invariant-loop-key
invariant-loop-key l = first_key (is_missing (table_view l.table)) (drop l.key-index l.keys) ≡ first_key (is_missing (table_view l.table)) l.keys
