-- Lists whose items ascend by a number, their key.
use Rattle.std.proofs.Common.{◌≡◌, ◌<◌, ◌+◌, ℕ, Bool, true, false, length, nat_lt, get_or, List, Some, refl, sym, ap, ◌∙◌, arith, slice_get, slice_set}
use Rattle.std.specs.Prelude.{◌==◌}
use Rattle.std.proofs.lemmas.Bool.{lt-ltb, ltb-false, ltb-true, ne_eqb}
use Rattle.sprite_ids.proofs.ListLaws.{some_is}
use Rattle.unix_world.specs.Places.{IsLast, OrderedIf}
use Rattle.unix_world.proofs.PlaceLaws.{here, set_ordered_if}
use Rattle.unix_world.proofs.SeekLaws.{Seeks}

module _ {X : Type 0} (key : X → ℕ) where
  abbrev pub Lower : X → X → Type 0
  Lower x y = key x < key y

  -- those with a lower key stand before the one that is sought
  pub key_seeks : (n : ℕ) → Seeks Lower (λ x. nat_lt (key x) n) (λ x. key x == n)
  key_seeks n =
      record {
        under = λ x y r is. lt-ltb (key x) n (omega (arith, r, ltb-true (key y) n is));
        apart = λ x is. ne_eqb (key x) n (λ (e : key x ≡ n). omega (arith, e, ltb-true (key x) n is));
        past = λ x y r above other. ne_eqb (key y) n (λ (e : key y ≡ n). omega (arith, r, e, ltb-false (key x) n above));
      }

  pub lower_trans : (a b c : X) → Lower a b → Lower b c → Lower a c
  lower_trans a b c one two = omega (arith, one, two)

  last_by : (xs : List X) (i : ℕ) (d : X) (n : ℕ) (t : X) (b : Bool) → nat_lt (key (get_or xs i d)) n ≡ b → i + 1 ≡ length xs → key t ≡ n → IsLast b Lower xs t
  last_by xs i d n t true e end is =
      λ m x got within most.
      let same : m ≡ i = omega (arith, end, within, most) in
      let item = some_is x (get_or xs i d) (sym got ∙ (ap (slice_get xs) same ∙ here xs i d (omega (arith, end)))) in
      omega (arith, ltb-true (key (get_or xs i d)) n e, is, ap key item)
  last_by xs i d n t false e end is = tt

  -- one more behind the last
  pub key_last : (xs : List X) (i : ℕ) (d : X) (n : ℕ) (t : X) → i + 1 ≡ length xs → key t ≡ n → IsLast (nat_lt (key (get_or xs i d)) n) Lower xs t
  key_last xs i d n t end is = last_by xs i d n t (nat_lt (key (get_or xs i d)) n) refl end is

  -- another of the same key in one's place
  pub key_set : (b : Bool) (xs : List X) (i : ℕ) (old new : X) → key new ≡ key old → slice_get xs i ≡ Some old → OrderedIf b Lower xs → OrderedIf b Lower (slice_set xs i new)
  key_set b xs i old new e got h =
      set_ordered_if b Lower xs i old new (λ y less. omega (arith, less, e)) (λ y less. omega (arith, less, e)) got h
