use Rattle.std.proofs.Common.{length}
use Rattle.report_print.proofs.summaries.+console_bytes.Given as goal

abbrev pub decreases-console_bytes : goal.decreases-console_bytes
decreases-console_bytes l = length l.processes.now
