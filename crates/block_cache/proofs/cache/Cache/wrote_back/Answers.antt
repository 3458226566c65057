use Rattle.std.proofs.Common.{◌<◌, arith}
use Rattle.block_cache.specs.Blocks.{cleaned}
use Rattle.block_cache.proofs.KeptLaws.{kept_cleaned, cleaned_count}
use Rattle.block_cache.specs.declared.key.BlockKey.{BlockKey}
use Rattle.block_cache.specs.Reach.{end_of}
use Rattle.block_cache.proofs.ReachLaws.{keys_cleaned}
use Rattle.block_cache.proofs.SoundLaws.{sound_next}
use Rattle.block_cache.proofs.cache.Cache.wrote_back.Goals as goal

pub invariant_of-self : goal.invariant_of-self
invariant_of-self c =
    let old = c.self.inside.blocks in
    let files = c.self.inside.files in
    let kept = kept_cleaned files c.self.inside.last old.entries c.args.file c.args.block.0 c.self.invariant.2.kept in
    let count = cleaned_count old.entries c.args.file c.args.block.0 in
    let under = keys_cleaned (λ (key : BlockKey). key.block.0 < end_of c.self.inside.reach key.file) old.entries c.args.file c.args.block.0 c.self.invariant.3 in
    sound_next c.self.inside.size files old c.clean.new.self (cleaned old.entries c.args.file c.args.block.0) c.self.inside.last c.self.inside.reach c.self.invariant.0 c.clean.ensures c.self.invariant.1 (omega (arith, c.self.invariant.2.fits, count)) kept under
