use Rattle.std.proofs.Common.{◌≡◌, Ok, drop}
use Rattle.cluster_file.specs.Refusals.{read_on}
use Rattle.cluster_file.specs.Names.{plan_entry, plan_entries}
use Rattle.cluster_file.proofs.hosts.plan_entries.Given as goal

-- the rest, read behind what was read so far, gives what all give
abbrev pub invariant-loop-row : goal.invariant-loop-row
invariant-loop-row l = read_on (plan_entry l.rows.kernels) (Ok l.entries) (drop l.row-index l.row-items) ≡ plan_entries l.rows
