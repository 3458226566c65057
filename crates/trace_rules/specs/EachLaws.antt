-- Tests of each record of a trace.
use Rattle.std.proofs.Common.{◌≡◌, ◌∙◌, Bool, true, false, ◌&&◌, List, [], ◌∷◌, refl, ap, ap₂}
use Rattle.unix_calls.specs.declared.description.Description.{Description}
use Rattle.unix_calls.specs.declared.event.Rec.{Rec}
use Rattle.call_journal.specs.Past.{Past, each_from, past_with}

and_between : (a b c d : Bool) → ((a && b) && (c && d)) ≡ ((a && c) && (b && d))
and_between true true c d = refl
and_between true false true d = refl
and_between true false false d = refl
and_between false b c d = refl

-- a test that asks two things of each record
pub each_both : (c : Description) (p q : Past → Rec → Bool) (past : Past) (trace : List Rec) → each_from c (λ past r rest. p past r && q past r) past trace ≡ (each_from c (λ past r rest. p past r) past trace && each_from c (λ past r rest. q past r) past trace)
each_both c p q past [] = refl
each_both c p q past (rec ∷ rest) =
    ap (λ b. (p past rec && q past rec) && b) (each_both c p q (past_with c rec past) rest)
    ∙ and_between (p past rec) (q past rec) (each_from c (λ past r rest. p past r) (past_with c rec past) rest) (each_from c (λ past r rest. q past r) (past_with c rec past) rest)

-- tests that say the same of each record
pub each_same : (c : Description) (p q : Past → Rec → Bool) (past : Past) (trace : List Rec) → ((past : Past) (rec : Rec) → p past rec ≡ q past rec) → each_from c (λ past r rest. p past r) past trace ≡ each_from c (λ past r rest. q past r) past trace
each_same c p q past [] same = refl
each_same c p q past (rec ∷ rest) same = ap₂ (λ a b. a && b) (same past rec) (each_same c p q (past_with c rec past) rest same)
