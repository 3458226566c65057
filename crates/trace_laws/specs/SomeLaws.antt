-- Whether some record of a trace that grows meets a test.
use Rattle.std.proofs.Common.{◌≡◌, ◌∙◌, Bool, true, false, ◌&&◌, ◌||◌, List, [], ◌∷◌, ◌++◌, refl, sym, ap, ap₂}
use Rattle.unix_calls.specs.declared.description.Description.{Description}
use Rattle.unix_calls.specs.declared.event.Rec.{Rec}
use Rattle.call_journal.specs.Past.{Past, past_with, past_from, some_from}

pub or_false : (b : Bool) → (b || false) ≡ b
or_false true = refl
or_false false = refl

pub or_assoc : (a b d : Bool) → ((a || b) || d) ≡ (a || (b || d))
or_assoc true b d = refl
or_assoc false b d = refl

-- two tests that say the same
pub some_same : (c : Description) (p q : Past → Rec → List Rec → Bool) (past : Past) (rs : List Rec) → ((past : Past) (r : Rec) (rest : List Rec) → p past r rest ≡ q past r rest) → some_from c p past rs ≡ some_from c q past rs
some_same c p q past [] same = refl
some_same c p q past (r ∷ rs) same = ap₂ (λ a b. a || b) (same past r rs) (some_same c p q (past_with c r past) rs same)

-- a test that no record meets
pub some_none : (c : Description) (p : Past → Rec → List Rec → Bool) (past : Past) (rs : List Rec) → ((past : Past) (r : Rec) (rest : List Rec) → p past r rest ≡ false) → some_from c p past rs ≡ false
some_none c p past [] none = refl
some_none c p past (r ∷ rs) none = ap₂ (λ a b. a || b) (none past r rs) (some_none c p (past_with c r past) rs none)

-- one that asks something else too
pub or_and : (a b w : Bool) → ((a && w) || (b && w)) ≡ ((a || b) && w)
or_and true b true = refl
or_and true true false = refl
or_and true false false = refl
or_and false b w = refl

pub some_if : (c : Description) (p : Past → Rec → List Rec → Bool) (w : Bool) (past : Past) (rs : List Rec) → some_from c (λ e r rest. p e r rest && w) past rs ≡ (some_from c p past rs && w)
some_if c p w past [] = refl
some_if c p w past (r ∷ rs) = ap (λ b. (p past r rs && w) || b) (some_if c p w (past_with c r past) rs) ∙ or_and (p past r rs) (some_from c p (past_with c r past) rs) w

-- ---- one record more

-- of a test that looks at no record behind
pub some_plain : (c : Description) (test : Past → Rec → Bool) (now past : Past) (rs : List Rec) (x : Rec) → past_from c past rs ≡ now → some_from c (λ e r rest. test e r) past (rs ++ x ∷ []) ≡ (some_from c (λ e r rest. test e r) past rs || test now x)
some_plain c test now past [] x is = or_false (test past x) ∙ ap (λ p. test p x) is
some_plain c test now past (r ∷ rs) x is =
    ap (λ b. test past r || b) (some_plain c test now (past_with c r past) rs x is)
    ∙ sym (or_assoc (test past r) (some_from c (λ e s rest. test e s) (past_with c r past) rs) (test now x))

-- of a test that some record behind must meet too
pub regrouped : (a l b s t : Bool) → ((a && (l || b)) || (s || t)) ≡ (((a && l) || s) || ((a && b) || t))
regrouped false l b s t = refl
regrouped true true b s t = refl
regrouped true false true s t = by s
  where
    by : (v : Bool) → true ≡ (v || true)
    by true = refl
    by false = refl
regrouped true false false s t = refl

pub none_behind : (a : Bool) → (a && false || false) ≡ (false || false)
none_behind true = refl
none_behind false = refl
