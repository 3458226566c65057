-- How often kernels move blocks is told record by record.
use Rattle.std.proofs.Common.{◌≡◌, ◌∙◌, ℕ, ◌+◌, ◌==◌, Bool, true, false, cond, ◌&&◌, List, [], ◌∷◌, ◌++◌, refl, sym, ap, ap₂, arith}
use Rattle.std.specs.List.{list_all}
use Rattle.std.proofs.lemmas.Bool.{eqb-true}
use Rattle.sprite_ids.specs.Lists.{one_if}
use Rattle.unix_calls.specs.declared.event.Event.{Event}
use Rattle.unix_calls.specs.declared.event.Rec.{Rec}
use Rattle.call_journal.specs.Matching.{is_at, is_any_fetch}
use Rattle.call_journal.specs.WorthCaches.{is_any_filled, is_any_dirtied, is_motive, is_moderate}
use Rattle.cache_worth.specs.declared.counts.Counts.{Counts}
use Rattle.trace_rules.specs.Lists.{count_more}
use Rattle.cache_worth.specs.Counts.{counts_at, one_more, CountsOn, is_few, are_few_in, TellsCounts}
use Rattle.cache_worth.specs.Parts.{blocks_move_moderately}

-- what an event adds to the counts of a kernel
abbrev plus : Bool → Event → Counts → Counts
plus b e n = record {
  fetched = n.fetched + one_if (b && is_any_fetch e);
  filled = n.filled + one_if (b && is_any_filled e);
  dirtied = n.dirtied + one_if (b && is_any_dirtied e);
  motives = n.motives + one_if (b && is_motive e);
}

no_more : (n : ℕ) → n ≡ n + 0
no_more n = omega arith

abbrev these : ℕ → ℕ → ℕ → ℕ → Counts
these a b c d = record { fetched = a; filled = b; dirtied = c; motives = d }

made : (a b c d w x y z : ℕ) → a ≡ w → b ≡ x → c ≡ y → d ≡ z → these a b c d ≡ these w x y z
made a b c d w x y z p q r s = ap₂ (λ m n. these m n c d) p q ∙ ap₂ (λ m n. these w x m n) r s

plus_is : (before : List (ℕ × Counts)) (from kernel : ℕ) (e : Event) (b : Bool) → (from == kernel) ≡ b → cond b (one_more e (counts_at before from)) (counts_at before kernel) ≡ plus b e (counts_at before kernel)
plus_is before from kernel e true is = ap (λ k. one_more e (counts_at before k)) (eqb-true from kernel is)
plus_is before from kernel e false is =
    let n = counts_at before kernel in
    made _ _ _ _ _ _ _ _ (no_more n.fetched) (no_more n.filled) (no_more n.dirtied) (no_more n.motives)

-- one record more
pub counts_told_on : (rec : Rec) (before after : List (ℕ × Counts)) (records : List Rec) → TellsCounts before records → CountsOn rec before after → TellsCounts after (records ++ rec ∷ [])
counts_told_on rec before after records told more kernel =
    more kernel
    ∙ plus_is before rec.kernel kernel rec.event (rec.kernel == kernel) refl
    ∙ ap (plus (rec.kernel == kernel) rec.event) (told kernel)
    ∙ sym (made _ _ _ _ _ _ _ _ (count_more (is_at kernel is_any_fetch) records rec) (count_more (is_at kernel is_any_filled) records rec) (count_more (is_at kernel is_any_dirtied) records rec) (count_more (is_at kernel is_motive) records rec))

all_same : (p q : Rec → Bool) (xs : List Rec) → ((rec : Rec) → p rec ≡ q rec) → list_all p xs ≡ list_all q xs
all_same p q [] same = refl
all_same p q (x ∷ xs) same = ap₂ (λ a b. a && b) (same x) (all_same p q xs same)

-- whether blocks move moderately is told by the counts
pub moderate_told : (counts : List (ℕ × Counts)) (trace : List Rec) → TellsCounts counts trace → are_few_in counts trace ≡ blocks_move_moderately trace
moderate_told counts trace told = all_same (λ rec. is_few (counts_at counts rec.kernel)) (is_moderate trace) trace (λ rec. ap is_few (told rec.kernel))
