use Rattle.std.proofs.Common.{sym, ap, subst, ◌∙◌}
use Rattle.std.specs.Map.{lookup, remove_entry}
use Rattle.lru.specs.LruCache.{LruCache, lru_cache}
use Rattle.block_cache.specs.declared.key.BlockKey.{BlockKey}
use Rattle.block_cache.specs.declared.kept.Kept.{Kept}
use Rattle.block_cache.specs.Blocks.{Blocks, is_at}
use Rattle.block_cache.specs.Ages.{Lists, Rows, Order, plain, AreTold}
use Rattle.block_cache.proofs.PlainLaws.{removed_plain, removed_none}
use Rattle.block_cache.proofs.ToldLaws.{none_of, pop_told}
use Rattle.block_cache.proofs.held_blocks.HeldBlocks.pop.Goals as goal

pub returns-in-Some : goal.returns-in-Some
returns-in-Some c =
    let order = c.self.inside.order in
    let key = c.args.key.now in
    let test = is_at key.file key.block.0 in
    ap (λ (o : LruCache BlockKey Kept). lru_cache (plain o.entries) o.cap) c.pop.ensures.rows
    ∙ ap (λ (blocks : Blocks). lru_cache blocks order.cap) (sym (removed_plain test order.entries))
    ∙ ap (λ (o : Order). lru_cache (remove_entry test o.entries) o.cap) c.self.view_is

pub returns-in_default : goal.returns-in_default
returns-in_default c =
    let order = c.self.inside.order in
    let key = c.args.key.now in
    let test = is_at key.file key.block.0 in
    ap (λ (o : LruCache BlockKey Kept). lru_cache (plain o.entries) o.cap) c.pop.ensures.rows
    ∙ ap (λ (blocks : Blocks). lru_cache blocks order.cap) (sym (removed_plain test order.entries))
    ∙ ap (λ (o : Order). lru_cache (remove_entry test o.entries) o.cap) c.self.view_is

pub invariant_of-self : goal.invariant_of-self
invariant_of-self c =
    let rows = c.self.inside.order.entries in
    let key = c.args.key.now in
    let test = is_at key.file key.block.0 in
    let found = sym c.in-Some.is ∙ c.pop.ensures.before in
    let told = pop_told c.self.inside.ages rows key c.in-Some.last c.self.invariant found in
    let there = subst (λ (a : Lists). AreTold a (remove_entry test rows)) (sym c.forget.ensures) told in
    subst (λ (o : LruCache BlockKey Kept). AreTold c.forget.new.self o.entries) (sym c.pop.ensures.rows) there

pub invariant_of-self-in_default : goal.invariant_of-self-in_default
invariant_of-self-in_default c =
    let order = c.self.inside.order in
    let key = c.args.key.now in
    let test = is_at key.file key.block.0 in
    let none = none_of (lookup test order.entries) (sym c.in_default.is ∙ c.pop.ensures.before) in
    let same = c.pop.ensures.rows ∙ ap (λ (rows : Rows). lru_cache rows order.cap) (removed_none test order.entries none) in
    subst (λ (o : LruCache BlockKey Kept). AreTold c.self.inside.ages o.entries) (sym same) c.self.invariant
