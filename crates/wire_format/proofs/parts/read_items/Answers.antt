use Rattle.wire_format.specs.Codec.{items_read}
use Rattle.wire_format.proofs.ReadingLaws.{goes_on, is_done}
use Rattle.wire_format.proofs.parts.read_items.Goals as goal

pub loop-preserved : goal.loop-preserved
loop-preserved g c = rw c.in_ok-push.ensures.ok (goes_on g.T.Field.codec.read c.loop.items c.args.count c.loop.counter c.loop.from c.in_ok-item.item c.read_from.new.from (items_read g.T.Field.codec.read c.args.count c.args.from.now) c.loop-test.true c.in_ok-item.ensures c.loop.invariant)

pub returns : goal.returns
returns g c = is_done g.T.Field.codec.read c.loop.items c.args.count c.loop.counter c.loop.from (items_read g.T.Field.codec.read c.args.count c.args.from.now) c.loop-test.false c.loop.invariant
