-- Two numbers are both less than a third one exactly where the greater one is.
use Rattle.std.proofs.Common.{◌≡◌, ◌∙◌, ℕ, Bool, true, false, cond, ◌&&◌, Option, Some, None, nat_lt, refl, sym, ap, arith}
use Rattle.std.proofs.lemmas.Bool.{lt-ltb, ltb-true, ltb-false}
use Rattle.trace_rules.specs.Greatest.{is_less, later}
use Rattle.trace_rules.specs.Lists.{and_false}

second_less : (last stamp x : ℕ) (b : Bool) → nat_lt last stamp ≡ true → nat_lt stamp x ≡ b → b ≡ (nat_lt last x && b)
second_less last stamp x true up is =
    let a = ltb-true last stamp up in
    let b = ltb-true stamp x is in
    sym (ap (λ t. t && true) (lt-ltb last x (omega (arith, a, b))))
second_less last stamp x false up is = sym (and_false (nat_lt last x))

first_less : (last stamp x : ℕ) (b : Bool) → nat_lt last stamp ≡ false → nat_lt last x ≡ b → b ≡ (b && nat_lt stamp x)
first_less last stamp x true up is =
    let a = ltb-false last stamp up in
    let b = ltb-true last x is in
    sym (lt-ltb stamp x (omega (arith, a, b)))
first_less last stamp x false up is = refl

greater_less : (last stamp x : ℕ) (b : Bool) → nat_lt last stamp ≡ b → nat_lt (cond {A = ℕ} b stamp last) x ≡ (nat_lt last x && nat_lt stamp x)
greater_less last stamp x true is = second_less last stamp x (nat_lt stamp x) is refl
greater_less last stamp x false is = first_less last stamp x (nat_lt last x) is refl

pub later_less : (stamp : ℕ) (o : Option ℕ) (x : ℕ) → nat_lt (later stamp o) x ≡ (is_less o x && nat_lt stamp x)
later_less stamp None x = refl
later_less stamp (Some last) x = greater_less last stamp x (nat_lt last stamp) refl
