use Rattle.std.proofs.Common.{◌∙◌, arith, ap, ◌++◌}
use Rattle.frames_text.specs.Reports.{has, packet_line}
use Rattle.frames_text.proofs.LoopLaws.{line_more}
use Rattle.frames_text.proofs.reporting.report.Goals as goal

pub loop-parcel-preserved : goal.loop-parcel-preserved
loop-parcel-preserved c =
    let numbered = c.loop-parcel.invariant.numbered in
    record {
      lines = line_more (has c.args.given.now.keys) _ c.loop-parcel.lines.items c.put_line.new.out.items c.loop-parcel.id c.loop-parcel.parcel-index c.args.parcels.now c.parcel-item.result c.loop-parcel-test.true c.parcel-item.is (c.in_ok-put_line.ensures ∙ ap (λ b. c.loop-parcel.lines.items ++ packet_line c.loop-parcel.id b) c.is_given.ensures) c.loop-parcel.invariant.lines;
      numbered = omega (arith, numbered);
    }
