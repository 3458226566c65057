use Rattle.std.proofs.Common.{rules, ◌*◌}
use Rattle.wire_fragments.proofs.CutLaws.{part_is}
use Rattle.wire_fragments.proofs.cutting.piece.Goals as goal

pub returns : goal.returns
returns c = part_is c.args.message.now (1488 * c.args.index) 1488 c.min-start.result c.min-end.result (search rules) (search rules)
