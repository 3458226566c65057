use Rattle.std.proofs.Common.{◌+◌, ◌<◌, ◌^◌, length, arith}
use Rattle.unix_calls.proofs.DomainLaws.{line_reached}
use Rattle.unix_calls.proofs.domains.longest_place.Goals as goal

pub loop-line-preserved : goal.loop-line-preserved
loop-line-preserved c =
    line_reached _ c.args.lines.now c.loop-line.line-index c.line-item.result c.loop-line.best _ c.loop-line.place _
    c.loop-line-test.true
    c.line-item.is
    c.loop-line.invariant
    (rw (← c.as_slice.ensures) c.best_in-best.ensures)
    (λ (small : c.loop-line.place + length c.line-item.result.serves < 2 ^ 64). omega (arith, c.saturating_add-place.ensures, c.len.ensures, small))
