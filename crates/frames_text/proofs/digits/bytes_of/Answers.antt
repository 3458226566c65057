use Rattle.std.proofs.Common.{◌∙◌, sym}
use Rattle.frames_text.proofs.LoopLaws.{digit_more, put_short, put_small}
use Rattle.frames_text.proofs.digits.bytes_of.Goals as goal

pub loop-byte-preserved : goal.loop-byte-preserved
loop-byte-preserved c = record {
  all = digit_more _ c.args.line.now c.loop-byte.byte-index _ c.in-Some.digit c.loop-byte.high _ c.loop-byte.bytes.items c.put_digit.new.bytes.items c.loop-byte-test.true (sym c.in-Some.is ∙ c.digit_of.ensures.value) c.in_ok-high.ensures c.loop-byte.invariant.all;
  small = put_small c.loop-byte.high c.in-Some.digit c.loop-byte.bytes.items c.put_digit.new.bytes.items _ c.in-Some.ensures.small c.in_ok-high.ensures;
  short = put_short c.loop-byte.high c.in-Some.digit c.loop-byte.byte-index c.loop-byte.bytes.items c.put_digit.new.bytes.items _ c.loop-byte.invariant.short c.in_ok-high.ensures;
}
