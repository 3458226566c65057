use Rattle.std.proofs.Common.{sym, subst}
use Rattle.unix_world.specs.Paths.{MayPrecede}
use Rattle.unix_world.specs.Places.{Ordered}
use Rattle.unix_world.proofs.TreeLaws.{without_ordered}
use Rattle.unix_world.proofs.tree.NameTree.remove.Goals as goal

pub invariant_of-self : goal.invariant_of-self
invariant_of-self c =
    subst (Ordered MayPrecede) (sym c.remove_name.ensures) (without_ordered c.args.path.now c.self.inside.names c.self.invariant)
