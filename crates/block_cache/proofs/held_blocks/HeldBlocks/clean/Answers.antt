use Rattle.std.proofs.Common.{None, sym, ap, subst, ◌∙◌}
use Rattle.std.specs.Map.{lookup}
use Rattle.lru.specs.LruCache.{LruCache, lru_cache}
use Rattle.block_cache.specs.declared.key.BlockKey.{BlockKey}
use Rattle.block_cache.specs.declared.kept.Kept.{Kept}
use Rattle.block_cache.specs.Blocks.{Blocks, is_at, cleaned}
use Rattle.block_cache.specs.Ages.{Order, plain, AreTold, forgotten, noted_by}
use Rattle.block_cache.proofs.PlainLaws.{cleaned_plain, none_cleaned}
use Rattle.block_cache.proofs.ToldLaws.{none_of, clean_told, still_clean}
use Rattle.block_cache.proofs.held_blocks.HeldBlocks.clean.Goals as goal

pub returns-in_default : goal.returns-in_default
returns-in_default c =
    let order = c.self.inside.order in
    let file = c.args.file.now in
    let number = c.args.block.0 in
    let none = none_of (lookup (is_at file number) order.entries) (sym c.in_default.is ∙ c.last_use.ensures) in
    sym c.self.view_is ∙ ap (λ (blocks : Blocks). lru_cache blocks order.cap) (sym (none_cleaned file number order.entries none)) ∙ ap (λ (o : Order). lru_cache (cleaned o.entries file number) o.cap) c.self.view_is

pub returns-then-is_some : goal.returns-then-is_some
returns-then-is_some c =
    let order = c.self.inside.order in
    let file = c.args.file.now in
    let number = c.args.block.0 in
    ap (λ (o : LruCache BlockKey Kept). lru_cache (plain o.entries) o.cap) c.clean.ensures
    ∙ ap (λ (blocks : Blocks). lru_cache blocks order.cap) (cleaned_plain file number order.entries)
    ∙ ap (λ (o : Order). lru_cache (cleaned o.entries file number) o.cap) c.self.view_is

pub returns-else-is_some : goal.returns-else-is_some
returns-else-is_some c =
    let order = c.self.inside.order in
    let file = c.args.file.now in
    let number = c.args.block.0 in
    let found = sym c.in-Some.is ∙ c.last_use.ensures in
    sym c.self.view_is ∙ ap (λ (blocks : Blocks). lru_cache blocks order.cap) (sym (still_clean file number order.entries c.in-Some.last found (sym c.is_some.ensures ∙ c.if-is_some.false))) ∙ ap (λ (o : Order). lru_cache (cleaned o.entries file number) o.cap) c.self.view_is

pub invariant_of-self : goal.invariant_of-self
invariant_of-self c =
    let rows = c.self.inside.order.entries in
    let key : BlockKey = record { file = c.args.file.now; block = c.args.block } in
    let found = sym c.in-Some.is ∙ c.last_use.ensures in
    let told = clean_told c.self.inside.ages c.clean-then-is_some.new.self rows key c.in-Some.last c.self.invariant found (sym c.is_some.ensures ∙ c.if-is_some.true) (λ kept. c.clean-then-is_some.ensures kept ∙ ap (λ (k : BlockKey). noted_by (forgotten c.self.inside.ages c.in-Some.last) k c.in-Some.last.age None) c.of.ensures) in
    subst (λ (o : LruCache BlockKey Kept). AreTold c.clean-then-is_some.new.self o.entries) (sym c.clean.ensures) told
