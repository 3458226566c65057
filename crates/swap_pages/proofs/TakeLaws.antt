-- Where the first entry that passes is left out, and no other passes, all that pass are.
use Rattle.std.proofs.Common.{◌≡◌, Bool, true, false, not, cond, List, [], ◌∷◌, Some, None, refl, sym, ap, ◌∙◌}
use Rattle.std.specs.List.{filter}
use Rattle.std.specs.Map.{lookup, remove_entry}

module _ {K V : Type 0} (test : K → Bool) where
  kept_by : (e : K × V) (es : List (K × V)) (b : Bool) → (lookup test es ≡ None → filter (λ x. not (test x.0)) es ≡ es) → cond b (Some e.1) (lookup test es) ≡ None → cond (not b) (e ∷ filter (λ x. not (test x.0)) es) (filter (λ x. not (test x.0)) es) ≡ e ∷ es
  kept_by e es true h is = absurd (cc)
  kept_by e es false h is = ap (λ xs. e ∷ xs) (h is)

  none_kept : (es : List (K × V)) → lookup test es ≡ None → filter (λ x. not (test x.0)) es ≡ es
  none_kept [] is = refl
  none_kept (e ∷ es) is = kept_by e es (test e.0) (none_kept es) is

  gone_by : (e : K × V) (es : List (K × V)) (b : Bool) → test e.0 ≡ b → (lookup test (remove_entry test es) ≡ None → remove_entry test es ≡ filter (λ x. not (test x.0)) es) → lookup test (cond b es (e ∷ remove_entry test es)) ≡ None → cond b es (e ∷ remove_entry test es) ≡ cond (not b) (e ∷ filter (λ x. not (test x.0)) es) (filter (λ x. not (test x.0)) es)
  gone_by e es true t h is = sym (none_kept es is)
  gone_by e es false t h is = ap (λ xs. e ∷ xs) (h (sym (ap (λ b. cond b (Some e.1) (lookup test (remove_entry test es))) t) ∙ is))

  pub removed_all : (es : List (K × V)) → lookup test (remove_entry test es) ≡ None → remove_entry test es ≡ filter (λ x. not (test x.0)) es
  removed_all [] is = refl
  removed_all (e ∷ es) is = gone_by e es (test e.0) refl (removed_all es) is
