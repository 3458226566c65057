use Rattle.std.proofs.Common.{◌<◌, arith}
use Rattle.block_cache.proofs.SoundLaws.{sound_next}
use Rattle.std.specs.Map.{remove_entry}
use Rattle.block_cache.specs.declared.key.BlockKey.{BlockKey}
use Rattle.block_cache.specs.declared.block.Block.{Block}
use Rattle.block_cache.specs.Reach.{end_of}
use Rattle.block_cache.specs.Blocks.{is_at}
use Rattle.block_cache.specs.Held.{IsKept}
use Rattle.block_cache.proofs.EachLaws.{each_removed, removed_length}
use Rattle.block_cache.proofs.cache.Cache.drop_clean.Goals as goal

pub invariant_of-self : goal.invariant_of-self
invariant_of-self c =
    let old = c.self.inside.blocks in
    let files = c.self.inside.files in
    let size = c.self.inside.size in
    let last = c.self.inside.last in
    let sound = c.self.invariant.2 in
    let test = is_at c.in_ok-key.key.file c.in_ok-key.key.block.0 in
    let kept = each_removed test (IsKept files last) old.entries sound.kept in
    let count = removed_length test old.entries in
    let under = each_removed test (λ (entry : BlockKey × Block). entry.0.block.0 < end_of c.self.inside.reach entry.0.file) old.entries c.self.invariant.3 in
    sound_next size files old c.pop.new.self (remove_entry test old.entries) last c.self.inside.reach c.self.invariant.0 c.pop.ensures c.self.invariant.1 (omega (arith, sound.fits, count)) kept under
