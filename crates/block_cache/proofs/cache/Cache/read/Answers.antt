use Rattle.std.proofs.Common.{◌<◌, arith}
use Rattle.block_cache.proofs.SoundLaws.{sound_next}
use Rattle.block_cache.specs.declared.key.BlockKey.{BlockKey}
use Rattle.block_cache.specs.Reach.{end_of}
use Rattle.block_cache.proofs.ReachLaws.{keys_used}
use Rattle.block_cache.specs.Blocks.{used}
use Rattle.block_cache.proofs.KeptLaws.{kept_used, used_count}
use Rattle.block_cache.proofs.cache.Cache.read.Goals as goal

pub invariant_of-self : goal.invariant_of-self
invariant_of-self c =
    let old = c.self.inside.blocks in
    let files = c.self.inside.files in
    let size = c.self.inside.size in
    let last = c.self.inside.last in
    let sound = c.self.invariant.2 in
    let span = c.of-span.result in
    let kept = kept_used files last old.entries c.args.file span.first span.count sound.kept in
    let count = used_count old.entries c.args.file span.first span.count in
    let under = keys_used (λ (key : BlockKey). key.block.0 < end_of c.self.inside.reach key.file) old.entries c.args.file span.first span.count c.self.invariant.3 in
    sound_next size files old c.use_all.new.blocks (used old.entries c.args.file span.first span.count) last c.self.inside.reach c.self.invariant.0 c.use_all.ensures c.self.invariant.1 (omega (arith, sound.fits, count)) kept under
