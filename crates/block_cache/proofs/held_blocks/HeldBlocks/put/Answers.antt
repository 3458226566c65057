use Rattle.std.proofs.Common.{◌<◌, length, refl, sym, ap, subst, ◌∙◌}
use Rattle.lru.specs.LruCache.{LruCache}
use Rattle.block_cache.specs.declared.key.BlockKey.{BlockKey}
use Rattle.block_cache.specs.declared.kept.Kept.{Kept}
use Rattle.block_cache.specs.Blocks.{is_at, is_held}
use Rattle.block_cache.specs.Held.{clean_block}
use Rattle.block_cache.specs.Ages.{Order, plain, AreTold}
use Rattle.block_cache.proofs.PlainLaws.{held_plain, length_plain}
use Rattle.block_cache.proofs.ToldLaws.{put_told}
use Rattle.block_cache.proofs.held_blocks.HeldBlocks.put.Goals as goal

pub put-requires-clause-absent : goal.put-requires-clause-absent
put-requires-clause-absent c =
    let key = c.args.key in
    sym (held_plain (is_at key.file key.block.0) c.self.inside.order.entries) ∙ ap (λ (o : Order). is_held o.entries key.file key.block.0) c.self.view_is ∙ c.requires.absent

pub put-requires-clause-room : goal.put-requires-clause-room
put-requires-clause-room c =
    let order = c.self.inside.order in
    let room = subst (λ (o : Order). length o.entries < o.cap) (sym c.self.view_is) c.requires.room in
    subst (λ n. n < order.cap) (length_plain order.entries) room

pub invariant_of-self-2 : goal.invariant_of-self-2
invariant_of-self-2 c =
    let rows = c.self.inside.order.entries in
    let key = c.args.key in
    let new : Kept = record { block = clean_block c.args.bytes.now; age = c.next.result } in
    let told = put_told c.self.inside.ages c.use_anew.new.self rows key new c.self.invariant c.next.ensures refl c.use_anew.ensures in
    subst (λ (o : LruCache BlockKey Kept). AreTold c.use_anew.new.self o.entries) (sym c.in_ok-put.ensures.ok) told
