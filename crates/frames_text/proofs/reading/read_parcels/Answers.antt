use Rattle.std.proofs.Common.{arith}
use Rattle.frames_text.proofs.LoopLaws.{read_more}
use Rattle.frames_text.proofs.reading.read_parcels.Goals as goal

pub loop-rest-preserved : goal.loop-rest-preserved
loop-rest-preserved c =
    let more = read_more _ c.args.kernels c.loop-rest.number c.loop-rest.parcels.items c.push.new.self.items c.in_ok-parcel.field-0 c.in-Some.parcel c.first_line.result.0.now c.loop-rest.rest.now c.first_line.result.1.now c.in-Some.is c.in_ok-parcel.ensures.parcel c.in_ok-parcel.ensures.ends c.in_ok-parcel.ensures.few c.first_line.ensures.lines c.in_ok-push.ensures.items c.loop-rest.invariant.all c.loop-rest.invariant.parcels c.loop-rest.invariant.numbered in
    let shorter = c.first_line.ensures.shorter in
    let short = c.loop-rest.invariant.short in
    record { all = more.all; parcels = more.parcels; numbered = more.numbered; few = more.few; short = omega (arith, shorter, short) }
