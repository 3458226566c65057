use Rattle.std.proofs.Common.{sym, ap, subst, ◌∙◌}
use Rattle.std.specs.Map.{lookup}
use Rattle.lru.specs.LruCache.{LruCache, lru_cache}
use Rattle.block_cache.specs.declared.key.BlockKey.{BlockKey}
use Rattle.block_cache.specs.declared.kept.Kept.{Kept}
use Rattle.block_cache.specs.Blocks.{Blocks, is_at, block_at, written_there}
use Rattle.block_cache.specs.Ages.{Order, plain, AreTold, soiled_there}
use Rattle.block_cache.proofs.PlainLaws.{soiled_plain}
use Rattle.block_cache.proofs.ToldLaws.{none_of, write_told}
use Rattle.block_cache.proofs.held_blocks.HeldBlocks.write_one.Goals as goal

pub returns-in-Some : goal.returns-in-Some
returns-in-Some c =
    let order = c.self.inside.order in
    let key = c.args.key.now in
    let file = key.file in
    let number = key.block.0 in
    let from = c.args.from in
    let bytes = c.args.bytes.now in
    ap (λ (o : LruCache BlockKey Kept). lru_cache (plain o.entries) o.cap) c.write_one.ensures.rows
    ∙ ap (λ (blocks : Blocks). lru_cache blocks order.cap) (soiled_plain file number order.entries from bytes c.args.number c.next-age.result)
    ∙ ap (λ (o : Order). lru_cache (written_there o.entries file number from bytes c.args.number (block_at o.entries file number)) o.cap) c.self.view_is

pub returns-in_default : goal.returns-in_default
returns-in_default c =
    let order = c.self.inside.order in
    let key = c.args.key.now in
    let file = key.file in
    let number = key.block.0 in
    let from = c.args.from in
    let bytes = c.args.bytes.now in
    ap (λ (o : LruCache BlockKey Kept). lru_cache (plain o.entries) o.cap) c.write_one.ensures.rows
    ∙ ap (λ (blocks : Blocks). lru_cache blocks order.cap) (soiled_plain file number order.entries from bytes c.args.number c.next-age.result)
    ∙ ap (λ (o : Order). lru_cache (written_there o.entries file number from bytes c.args.number (block_at o.entries file number)) o.cap) c.self.view_is

pub invariant_of-self : goal.invariant_of-self
invariant_of-self c =
    let rows = c.self.inside.order.entries in
    let key = c.args.key.now in
    let found = sym c.in-Some.is ∙ c.write_one.ensures.before in
    let told = write_told c.self.inside.ages c.renew.new.self rows key c.in-Some.last c.args.from c.args.bytes.now c.args.number c.next-age.result c.self.invariant found c.next-age.ensures c.renew.ensures in
    subst (λ (o : LruCache BlockKey Kept). AreTold c.renew.new.self o.entries) (sym c.write_one.ensures.rows) told

pub invariant_of-self-in_default : goal.invariant_of-self-in_default
invariant_of-self-in_default c =
    let order = c.self.inside.order in
    let key = c.args.key.now in
    let test = is_at key.file key.block.0 in
    let none = none_of (lookup test order.entries) (sym c.in_default.is ∙ c.write_one.ensures.before) in
    let same = c.write_one.ensures.rows ∙ ap (λ o. lru_cache (soiled_there test order.entries key.block.0 c.args.from c.args.bytes.now c.args.number c.next-age.result o) order.cap) none in
    subst (λ (o : LruCache BlockKey Kept). AreTold c.self.inside.ages o.entries) (sym same) c.self.invariant
