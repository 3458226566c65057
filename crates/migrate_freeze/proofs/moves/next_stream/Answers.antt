use Rattle.std.proofs.Common.{ap, ◌+◌, ◌∙◌, Option, drop}
use Rattle.stream_table.specs.declared.Carried.{Carried}
use Rattle.migrate_freeze.specs.Moves.{next_from}
use Rattle.migrate_freeze.proofs.MoveLaws.{item_next}
use Rattle.migrate_freeze.proofs.moves.next_stream.Goals as goal

pub loop-item-preserved : goal.loop-item-preserved
loop-item-preserved c =
    ap (λ (least : Option Carried). next_from c.args.moved.now least (drop (c.loop-item.item-index + 1) c.args.streams.now)) c.better-least.ensures
    ∙ item_next c.args.moved.now c.loop-item.least c.args.streams.now c.loop-item.item-index c.item-item.result c.loop-item-test.true c.item-item.is
    ∙ c.loop-item.invariant
