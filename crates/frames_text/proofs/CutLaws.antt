-- Packets as messages that are cut.
use Rattle.std.proofs.Common.{arith, ◌≡◌, ◌<◌, ◌≤◌, ◌∙◌, ℕ, zero, suc, ◌+◌, List, [], ◌∷◌, length, slice_get, Some, refl, sym, ap, subst}
use Rattle.std.specs.List.{IsAmong, AllByRecursion}
use Rattle.std.proofs.lemmas.Option.{slice_get_read}
use Rattle.sprite_ids.proofs.ListLaws.{some_is}
use Rattle.wire_fragments.specs.declared.MessageId.{MessageId}
use Rattle.wire_fragments.specs.Runs.{AreCuts, Cut, IsCut}
use Rattle.frames_text.specs.declared.parcel.Parcel.{Parcel}
use Rattle.frames_text.specs.Parcels.{IsParcel, cut_of, cuts_from}

pub cuts_long : (id : ℕ) (ps : List Parcel) → length (cuts_from id ps) ≡ length ps
cuts_long id [] = refl
cuts_long id (p ∷ ps) = ap suc (cuts_long (id + 1) ps)

-- the message of a place
record IsAt (c : Cut) (id : ℕ) : Type 0 where
  is_cut : IsCut c
  number : c.name.id ≡ id

one_cut : (id : ℕ) (p : Parcel) → IsParcel p → id < 4294967296 → IsAt (cut_of id p) id
one_cut id p is less = record { is_cut = record { from_is = is.from_is; to_is = is.to_is; id_is = less; short = is.short }; number = refl }

cut_at : (id : ℕ) (ps : List Parcel) (k : ℕ) (c : Cut) → AllByRecursion IsParcel ps → id + length ps ≤ 4294967296 → slice_get (cuts_from id ps) k ≡ Some c → IsAt c (id + k)
cut_at id [] k c are few found = absurd (cc)
cut_at id (p ∷ ps) zero c are few found =
    let same : id ≡ id + 0 = omega arith in
    subst (IsAt c) same (subst (λ (d : Cut). IsAt d id) (some_is (cut_of id p) c found) (one_cut id p are.0 (omega (arith, few))))
cut_at id (p ∷ ps) (suc k) c are few found =
    let same : id + 1 + k ≡ id + suc k = omega arith in
    subst (IsAt c) same (cut_at (id + 1) ps k c are.1 (omega (arith, few)) found)

pub place_of : (cuts : List Cut) (c : Cut) → IsAmong cuts c → (i : ℕ) × (slice_get cuts i ≡ Some c)
place_of cuts c is = (is.0, slice_get_read cuts (length cuts) is.0 c refl is.1.0 is.1.1)

-- they can be cut, and no two have one name
pub are_cuts : (ps : List Parcel) → AllByRecursion IsParcel ps → length ps ≤ 65535 → AreCuts (cuts_from 1 ps)
are_cuts ps are few = record {
  each = λ c among. (let at = place_of (cuts_from 1 ps) c among in (cut_at 1 ps at.0 c are (omega (arith, few)) at.1).is_cut);
  names = λ c d in_c in_d same.
      (let one = place_of (cuts_from 1 ps) c in_c in
      let two = place_of (cuts_from 1 ps) d in_d in
      let first = (cut_at 1 ps one.0 c are (omega (arith, few)) one.1).number in
      let second = (cut_at 1 ps two.0 d are (omega (arith, few)) two.1).number in
      let ids : c.name.id ≡ d.name.id = ap (λ (n : MessageId). n.id) same in
      let places : one.0 ≡ two.0 = omega (arith, first, second, ids) in
      some_is c d (sym one.1 ∙ (ap (slice_get (cuts_from 1 ps)) places ∙ two.1)));
}
