use Rattle.std.proofs.Common.{sym, subst}
use Rattle.program_text.specs.Facts.{IsWithinLimits}
use Rattle.program_text.proofs.LimitLaws.{reading_within}
use Rattle.program_text.proofs.assembly.assemble.Goals as goal

pub returns-clause-limits : goal.returns-clause-limits
returns-clause-limits c =
    subst IsWithinLimits (sym c.in_ok-finish.ensures)
    (reading_within c.args.version c.as_bytes.result.now c.in_ok-reading.reading c.in_ok-reading.ensures.reading)
