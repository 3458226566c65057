use Rattle.std.proofs.Common.{◌<◌, length, arith}
use Rattle.wire_format.specs.Codec.{optional, text}
use Rattle.wire_format.proofs.ImageLaws.{put_more}
use Rattle.wire_format.proofs.image.put_pages.Goals as goal

pub loop-page-preserved : goal.loop-page-preserved
loop-page-preserved c =
    let within : c.loop-page.page < length c.args.image.now.pages = omega (arith, c.loop-page-test.true, c.loop-page.invariant.end) in
    record {
      put = put_more (optional text).spelled c.args.image.now.pages c.loop-page.page c.args.out.now.items c.loop-page.out.items c.put_page.new.out.items within c.loop-page.invariant.put c.in_ok-put_page.ensures;
      end = c.loop-page.invariant.end;
      within = omega (arith, within);
    }
