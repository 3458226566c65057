use Rattle.std.proofs.Common.{sym, subst}
use Rattle.std.specs.List.{AllByRecursion}
use Rattle.block_cache.specs.Reach.{IsUnder}
use Rattle.block_cache.proofs.ReachLaws.{under_end}
use Rattle.block_cache.proofs.cache.Cache.dirty_blocks.Goals as goal

pub dirty_blocks-requires-clause-under : goal.dirty_blocks-requires-clause-under
dirty_blocks-requires-clause-under c =
    let blocks = c.self.inside.blocks.entries in
    subst (λ end. AllByRecursion (IsUnder c.args.file end) blocks) (sym c.end.ensures) (under_end c.self.inside.reach c.args.file blocks c.self.invariant.3)
