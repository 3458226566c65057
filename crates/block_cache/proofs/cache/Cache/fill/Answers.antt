use Rattle.std.proofs.Common.{rules, ◌≡◌, ◌+◌, ◌<◌, ◌∷◌, length, true, sym, subst, arith}
use Rattle.block_cache.specs.Reach.{AreUnder, raised}
use Rattle.block_cache.proofs.ReachLaws.{under_raised, new_under}
use Rattle.block_cache.specs.declared.key.BlockKey.{BlockKey}
use Rattle.block_cache.specs.declared.block.Block.{Block}
use Rattle.block_cache.specs.Files.{known}
use Rattle.block_cache.specs.Held.{IsKept, clean_block}
use Rattle.block_cache.proofs.KeptLaws.{AreKept, padded_whole}
use Rattle.block_cache.proofs.SoundLaws.{sound_next}
use Rattle.block_cache.proofs.cache.Cache.fill.Goals as goal

pub invariant_of-self-in_err-put : goal.invariant_of-self-in_err-put
invariant_of-self-in_err-put c =
    let blocks = c.self.inside.blocks in
    let under = under_raised c.self.inside.reach c.args.file (c.args.block.0 + 1) blocks.entries c.self.invariant.3 in
    let there = subst (λ ends. AreUnder ends blocks.entries) (sym c.in_ok-raise.ensures.ok) under in
    sound_next c.self.inside.size c.self.inside.files blocks c.put.new.self blocks.entries c.self.inside.last c.raise.new.self c.self.invariant.0 c.in_err-put.ensures.err c.self.invariant.1 c.self.invariant.2.fits c.self.invariant.2.kept there

pub invariant_of-self-2 : goal.invariant_of-self-2
invariant_of-self-2 c =
    let blocks = c.self.inside.blocks in
    let files = c.self.inside.files in
    let last = c.self.inside.last in
    let file = c.args.file in
    let key : BlockKey = record { file = file; block = c.args.block } in
    let new : BlockKey × Block = (key, clean_block c.args.bytes.now) in
    let on : (known files file).on ≡ true = search rules in
    let kept : IsKept files last new = record { reached = c.requires.reached; whole = padded_whole c.args.bytes.now c.requires.bytes; cached = on; given = tt } in
    let room : length blocks.entries < c.self.inside.size = search rules in
    let before = under_raised c.self.inside.reach file (c.args.block.0 + 1) blocks.entries c.self.invariant.3 in
    let both : AreUnder (raised c.self.inside.reach file (c.args.block.0 + 1)) (new ∷ blocks.entries) = (new_under c.self.inside.reach file c.args.block.0, before) in
    let under = subst (λ ends. AreUnder ends (new ∷ blocks.entries)) (sym c.in_ok-raise.ensures.ok) both in
    let all : AreKept files last (new ∷ blocks.entries) = (kept, c.self.invariant.2.kept) in
    sound_next c.self.inside.size files blocks c.put.new.self (new ∷ blocks.entries) last c.raise.new.self c.self.invariant.0 c.in_ok-put.ensures.ok c.self.invariant.1 (omega (arith, room)) all under
