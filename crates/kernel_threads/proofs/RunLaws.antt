-- Runs of some kernels in a row.
use Rattle.std.proofs.Common.{◌≡◌, ℕ, ◌<◌, ◌≤◌, Bool, true, false, List, [], ◌++◌, sym, refl, ap, ap₂, ◌∙◌, subst, arith, append_assoc, append-nil, ⊎_elim}
use Rattle.sprite_ids.specs.declared.Finish.{Finish}
use Rattle.turn_gate.proofs.SmallLaws.{items_append, items_else}
use Rattle.kernel_threads.specs.Steps.{Stays, Adds, Closes, Acts, Ran}

module _ {V O I : Type 0} (origin : V → O) (log : V → List (ℕ × I)) (holds : V → Type 0) (kernels : ℕ) where
  pub ran_begins : (v : V) → holds v → Ran origin log holds kernels v v
  ran_begins v h = record { origin_stays = refl; grows = ([], sym (append-nil (log v)), λ n out. refl); still_holds = h }

  pub ran_on : (u v w : V) → Ran origin log holds kernels u v → Ran origin log holds kernels v w → Ran origin log holds kernels u w
  ran_on u v w a b = record {
    origin_stays = b.origin_stays ∙ a.origin_stays;
    grows = (
      a.grows.0 ++ b.grows.0,
      b.grows.1 ∙ (ap (λ l. l ++ b.grows.0) a.grows.1 ∙ append_assoc (log u) a.grows.0 b.grows.0),
      λ n out. items_append n a.grows.0 b.grows.0 ∙ ap₂ (λ x y. x ++ y) (a.grows.2 n out) (b.grows.2 n out),
    );
    still_holds = b.still_holds;
  }

  pub ran_stays : (v w : V) → Stays origin log holds v w → Ran origin log holds kernels v w
  ran_stays v w s = record { origin_stays = s.origin_stays; grows = ([], s.log_stays ∙ sym (append-nil (log v)), λ n out. refl); still_holds = s.still_holds }

  pub ran_adds : (k : ℕ) (v w : V) → 1 ≤ k → k ≤ kernels → Adds origin log holds k v w → Ran origin log holds kernels v w
  ran_adds k v w low high a = record {
    origin_stays = a.origin_stays;
    grows = (a.grows.0, a.grows.1, λ n out. items_else k n a.grows.0 a.grows.2 (λ same. ⊎_elim (λ (z : n ≡ 0). (omega arith)) (λ (z : kernels < n). (omega arith)) out));
    still_holds = a.still_holds;
  }

  -- a turn of one of the kernels, that happened or closed the value
  pub ran_candidate : (finish_of : V → Finish) (b : Bool) (k : ℕ) (v u w : V) → u ≡ v → 1 ≤ k → k ≤ kernels → (b ≡ true → Adds origin log holds k u w) → (b ≡ false → Closes origin log holds finish_of u w) → Ran origin log holds kernels v w
  ran_candidate finish_of true k v u w same low high adds over = subst (λ x. Ran origin log holds kernels x w) same (ran_adds k u w low high (adds refl))
  ran_candidate finish_of false k v u w same low high adds over = subst (λ x. Ran origin log holds kernels x w) same (ran_stays u w (over refl).stays)

  -- a kernel's turn
  pub ran_acts : (k : ℕ) (v w : V) → 1 ≤ k → k ≤ kernels → Acts origin log holds k v w → Ran origin log holds kernels v w
  ran_acts k v w low high a = record {
    origin_stays = a.origin_stays;
    grows = (a.grows.0, a.grows.1, λ n out. items_else k n a.grows.0 a.grows.2 (λ same. ⊎_elim (λ (z : n ≡ 0). (omega arith)) (λ (z : kernels < n). (omega arith)) out));
    still_holds = a.still_holds;
  }
