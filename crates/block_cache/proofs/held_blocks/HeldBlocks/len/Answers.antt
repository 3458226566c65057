use Rattle.std.proofs.Common.{◌≤◌, List, length, sym, ap, subst, ◌∙◌}
use Rattle.std.specs.List.{IsDistinct}
use Rattle.lru.specs.LruCache.{IsValid}
use Rattle.block_cache.specs.declared.key.BlockKey.{BlockKey}
use Rattle.block_cache.specs.Blocks.{is_key}
use Rattle.block_cache.specs.Ages.{Order}
use Rattle.block_cache.proofs.PlainLaws.{keys_plain, length_plain}
use Rattle.block_cache.proofs.held_blocks.HeldBlocks.len.Goals as goal

pub returns-clause-len : goal.returns-clause-len
returns-clause-len c = c.len.ensures.len ∙ sym (length_plain c.self.inside.order.entries) ∙ ap (λ (o : Order). length o.entries) c.self.view_is

pub returns-clause-valid : goal.returns-clause-valid
returns-clause-valid c =
    let order = c.self.inside.order in
    let valid = c.len.ensures.valid in
    let distinct = subst (λ (keys : List BlockKey). IsDistinct is_key keys) (sym (keys_plain order.entries)) valid.0 in
    let fits = subst (λ n. n ≤ order.cap) (sym (length_plain order.entries)) valid.1 in
    subst (λ (o : Order). IsValid is_key o) c.self.view_is (distinct, fits, valid.2)
