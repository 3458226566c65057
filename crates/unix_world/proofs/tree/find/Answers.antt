use Rattle.std.proofs.Common.{sym, ◌∙◌}
use Rattle.unix_world.specs.Paths.{MayPrecede}
use Rattle.unix_world.proofs.SeekLaws.{sought_none, sought_there}
use Rattle.unix_world.proofs.TreeLaws.{has_path, names_seek, precedes}
use Rattle.unix_world.proofs.tree.find.Goals as goal

pub returns-then-is_at : goal.returns-then-is_at
returns-then-is_at c =
    let path = c.args.path.now in
    sym (sought_there MayPrecede (precedes path) (has_path path) c.args.nodes.now c.place_of-at.result (names_seek path) c.place_of-at.ensures.count (sym c.is_at.ensures ∙ c.if-is_at.true))

pub returns-else-is_at : goal.returns-else-is_at
returns-else-is_at c =
    let path = c.args.path.now in
    sym (sought_none MayPrecede (precedes path) (has_path path) c.args.nodes.now c.place_of-at.result (names_seek path) c.requires c.place_of-at.ensures.count (sym c.is_at.ensures ∙ c.if-is_at.false))
