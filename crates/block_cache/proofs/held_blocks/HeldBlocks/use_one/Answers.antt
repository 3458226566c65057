use Rattle.std.proofs.Common.{sym, ap, subst, ◌∙◌}
use Rattle.std.specs.Map.{lookup}
use Rattle.lru.specs.LruCache.{LruCache, lru_cache, promoted}
use Rattle.block_cache.specs.declared.key.BlockKey.{BlockKey}
use Rattle.block_cache.specs.declared.kept.Kept.{Kept}
use Rattle.block_cache.specs.Blocks.{Blocks, is_at}
use Rattle.block_cache.specs.Ages.{Order, plain, AreTold, used_there}
use Rattle.block_cache.proofs.PlainLaws.{used_plain}
use Rattle.block_cache.proofs.ToldLaws.{none_of, use_told}
use Rattle.block_cache.proofs.held_blocks.HeldBlocks.use_one.Goals as goal

pub returns-in-Some : goal.returns-in-Some
returns-in-Some c =
    let order = c.self.inside.order in
    let key = c.args.key.now in
    let test = is_at key.file key.block.0 in
    ap (λ (o : LruCache BlockKey Kept). lru_cache (plain o.entries) o.cap) c.use_one.ensures.rows
    ∙ ap (λ (blocks : Blocks). lru_cache blocks order.cap) (used_plain test order.entries c.next.result)
    ∙ ap (λ (o : Order). lru_cache (promoted test o.entries) o.cap) c.self.view_is

pub returns-in_default : goal.returns-in_default
returns-in_default c =
    let order = c.self.inside.order in
    let key = c.args.key.now in
    let test = is_at key.file key.block.0 in
    ap (λ (o : LruCache BlockKey Kept). lru_cache (plain o.entries) o.cap) c.use_one.ensures.rows
    ∙ ap (λ (blocks : Blocks). lru_cache blocks order.cap) (used_plain test order.entries c.next.result)
    ∙ ap (λ (o : Order). lru_cache (promoted test o.entries) o.cap) c.self.view_is

pub invariant_of-self : goal.invariant_of-self
invariant_of-self c =
    let rows = c.self.inside.order.entries in
    let key = c.args.key.now in
    let found = sym c.in-Some.is ∙ c.use_one.ensures.before in
    let told = use_told c.self.inside.ages c.renew.new.self rows key c.in-Some.last c.next.result c.self.invariant found c.next.ensures c.renew.ensures in
    subst (λ (o : LruCache BlockKey Kept). AreTold c.renew.new.self o.entries) (sym c.use_one.ensures.rows) told

pub invariant_of-self-in_default : goal.invariant_of-self-in_default
invariant_of-self-in_default c =
    let order = c.self.inside.order in
    let key = c.args.key.now in
    let test = is_at key.file key.block.0 in
    let none = none_of (lookup test order.entries) (sym c.in_default.is ∙ c.use_one.ensures.before) in
    let same = c.use_one.ensures.rows ∙ ap (λ o. lru_cache (used_there test order.entries c.next.result o) order.cap) none in
    subst (λ (o : LruCache BlockKey Kept). AreTold c.self.inside.ages o.entries) (sym same) c.self.invariant
