use Rattle.std.proofs.Common.{◌≡◌, ◌++◌, drop}
use Rattle.client_file_tables.specs.Steps.{woken}
use Rattle.client_file_tables.proofs.steps.woken.Given as goal

abbrev pub invariant-loop-row : goal.invariant-loop-row
invariant-loop-row l = l.pids ++ woken l.tx (drop l.row-index l.rows) ≡ woken l.tx l.rows
