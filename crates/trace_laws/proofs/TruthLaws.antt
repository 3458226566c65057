-- Truth values.
use Rattle.std.proofs.Common.{◌≡◌, ◌∙◌, Bool, true, false, ◌&&◌, ◌||◌, not, refl, sym, ap}
use Rattle.std.proofs.lemmas.Bool.{true≢false}

-- three in a row
pub and_parted : (a x y z : Bool) → x ≡ (y && z) → (a && x) ≡ ((a && y) && z)
and_parted true x y z h = h
and_parted false x y z h = refl

pub or_parted : (a x y z : Bool) → x ≡ (y || z) → (a || x) ≡ ((a || y) || z)
or_parted true x y z h = refl
or_parted false x y z h = h

-- what stays true in both stays so
pub and_kept : (a b x y : Bool) → (a ≡ true → b ≡ true) → (x ≡ true → y ≡ true) → (a && x) ≡ true → (b && y) ≡ true
and_kept true b x y one two h = ap (λ first. first && y) (one refl) ∙ two h
and_kept false b x y one two h = absurd (true≢false (sym h))

pub or_kept : (a b x y : Bool) → (a ≡ true → b ≡ true) → (x ≡ true → y ≡ true) → (a || x) ≡ true → (b || y) ≡ true
or_kept true b x y one two h = ap (λ first. first || y) (one refl)
or_kept false true x y one two h = refl
or_kept false false x y one two h = two h

-- both, one, or none
pub both_true : (a b : Bool) → a ≡ true → b ≡ true → (a && b) ≡ true
both_true true b one two = two
both_true false b one two = absurd (true≢false (sym one))

pub both_false : (a b : Bool) → (a || b) ≡ false → (a ≡ false) × (b ≡ false)
both_false true b h = absurd (true≢false h)
both_false false b h = (refl, h)

pub or_first : (a b : Bool) → a ≡ true → (a || b) ≡ true
or_first true b h = refl
or_first false b h = absurd (true≢false (sym h))

pub or_true : (b : Bool) → (b || true) ≡ true
or_true true = refl
or_true false = refl

pub or_false : (b : Bool) → (b || false) ≡ b
or_false true = refl
or_false false = refl

pub and_false : (b : Bool) → (b && false) ≡ false
and_false true = refl
and_false false = refl

pub and_true : (a b : Bool) → a ≡ true → (a && b) ≡ b
and_true true b h = refl
and_true false b h = absurd (true≢false (sym h))

pub not_true : (b : Bool) → not b ≡ true → b ≡ false
not_true true h = absurd (true≢false (sym h))
not_true false h = refl
