use Rattle.std.proofs.Common.{sym, subst}
use Rattle.std.specs.List.{AllByRecursion}
use Rattle.block_cache.specs.Reach.{IsUnder}
use Rattle.block_cache.proofs.ReachLaws.{under_end}
use Rattle.block_cache.proofs.cache.Cache.held.Goals as goal

pub held_blocks-requires-clause-under : goal.held_blocks-requires-clause-under
held_blocks-requires-clause-under c =
    let blocks = c.self.inside.blocks.entries in
    subst (λ end. AllByRecursion (IsUnder c.args.file end) blocks) (sym c.end.ensures) (under_end c.self.inside.reach c.args.file blocks c.self.invariant.3)
