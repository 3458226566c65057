use Rattle.std.proofs.Common.{List, ℕ, ◌∷◌, None, ap, ◌∙◌}
use Rattle.lru.specs.LruCache.{lru_cache}
use Rattle.block_cache.specs.declared.kept.Kept.{Kept}
use Rattle.block_cache.specs.Ages.{Rows}
use Rattle.block_cache.specs.Blocks.{is_key}
use Rattle.block_cache.proofs.HeldLaws.{put_new}
use Rattle.block_cache.proofs.order.put.Goals as goal

pub returns-clause-ok : goal.returns-clause-ok
returns-clause-ok c =
    let old = c.args.blocks.now in
    let kept : List ℕ → Kept = λ bytes. record { block = record { bytes = bytes; dirty = None }; age = c.args.age } in
    c.in_ok-put.ensures.entries
    ∙ ap (λ (rows : Rows). lru_cache rows old.cap) (put_new is_key old c.args.key (kept c.in_ok-bytes.bytes) c.requires.absent c.requires.room ∙ ap (λ bytes. (c.args.key, kept bytes) ∷ old.entries) c.in_ok-bytes.ensures)
