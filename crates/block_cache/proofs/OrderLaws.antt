-- The order of use: its oldest entry that a test finds.
use Rattle.std.proofs.Common.{◌≡◌, Bool, true, false, cond, [], ◌∷◌, ◌++◌, Option, Some, None, sym, ap, ◌∙◌}
use Rattle.std.specs.Option.{option_or}
use Rattle.block_cache.specs.declared.key.BlockKey.{BlockKey}
use Rattle.block_cache.specs.declared.block.Block.{Block}
use Rattle.block_cache.specs.declared.kept.Kept.{Kept}
use Rattle.block_cache.specs.Blocks.{Blocks, oldest}
use Rattle.block_cache.specs.Ages.{Rows, plain_of, plain}
use Rattle.block_cache.proofs.PlainLaws.{plain_append}

module _ (test : BlockKey × Block → Bool) where
  or_some : (o : Option (BlockKey × Block)) (e : BlockKey × Block) (p : Option (BlockKey × Block)) → o ≡ Some e → option_or o p ≡ Some e
  or_some o e p h = ap (λ x. option_or x p) h

  -- an entry at the end that the test finds is the oldest
  pub oldest_last : (blocks : Blocks) (e : BlockKey × Block) → test e ≡ true → oldest test (blocks ++ e ∷ []) ≡ Some e
  oldest_last [] e h = ap (λ b. cond b (Some e) None) h
  oldest_last (first ∷ rest) e h = or_some (oldest test (rest ++ e ∷ [])) e (cond (test first) (Some first) None) (oldest_last rest e h)

  -- one that it doesn't find changes nothing
  pub oldest_before : (blocks : Blocks) (e : BlockKey × Block) → test e ≡ false → oldest test (blocks ++ e ∷ []) ≡ oldest test blocks
  oldest_before [] e h = ap (λ b. cond b (Some e) None) h
  oldest_before (first ∷ rest) e h = ap (λ o. option_or o (cond (test first) (Some first) None)) (oldest_before rest e h)

  -- the walk stops at the block that it looks for
  pub stops_at : (all left rest : Rows) (e : BlockKey × Kept) → oldest test (plain left) ≡ oldest test (plain all) → left ≡ rest ++ e ∷ [] → test (plain_of e) ≡ true → oldest test (plain all) ≡ Some (plain_of e)
  stops_at all left rest e same is h = sym same ∙ ap (λ (rows : Rows). oldest test (plain rows)) is ∙ ap (oldest test) (plain_append rest (e ∷ [])) ∙ oldest_last (plain rest) (plain_of e) h

  -- and goes on past every other
  pub goes_past : (all left rest : Rows) (e : BlockKey × Kept) → oldest test (plain left) ≡ oldest test (plain all) → left ≡ rest ++ e ∷ [] → test (plain_of e) ≡ false → oldest test (plain rest) ≡ oldest test (plain all)
  goes_past all left rest e same is h =
      sym (oldest_before (plain rest) (plain_of e) h) ∙ sym (ap (oldest test) (plain_append rest (e ∷ []))) ∙ sym (ap (λ (rows : Rows). oldest test (plain rows)) is) ∙ same
