-- What a verdict tells of the history.
use Rattle.std.proofs.Common.{◌≡◌, ◌+◌, ◌-◌, ℕ, suc, Bool, true, false, cond, List, [], ◌∷◌, take, Option, Some, None, is_some, refl, sym, ap, subst, ◌∙◌, arith, nat_lt}
use Rattle.unix_calls.specs.declared.description.Description.{Description}
use Rattle.unix_calls.specs.declared.entry.Entry.{Entry}
use Rattle.unix_calls.specs.State.{Unix}
use Rattle.unix_calls.specs.Boot.{boot_of}
use Rattle.unix_calls.specs.After.{after, legal, state_from}
use Rattle.one_kernel.specs.declared.verdict.Verdict.{Verdict}
use Rattle.one_kernel.specs.declared.verdict.Verdict.TheVariants as verdict
use Rattle.one_kernel.specs.Verdicts.{verdict_from, verdict_of, verdict_on, way_of}

-- ---- legal

legal_step : (c : Description) (es : List Entry) (place : ℕ) (next : Unix → Verdict) (o : Option Unix) → ((v : Unix) → next v ≡ verdict.Legal → is_some (state_from c (Some v) es) ≡ true) → verdict_on next place o ≡ verdict.Legal → is_some (state_from c o es) ≡ true
legal_step c es place next (Some v) h is = h v is
legal_step c es place next None h is = absurd (cc)

legal_by : (c : Description) (es : List Entry) (place : ℕ) (next : Unix → Verdict) (o : Option Unix) (far : Bool) → ((v : Unix) → next v ≡ verdict.Legal → is_some (state_from c (Some v) es) ≡ true) → cond far (verdict.Steps place) (verdict_on next place o) ≡ verdict.Legal → is_some (state_from c o es) ≡ true
legal_by c es place next o true h is = absurd (cc)
legal_by c es place next o false h is = legal_step c es place next o h is

legal_from : (c : Description) (most place cost : ℕ) (u : Unix) (es : List Entry) → verdict_from c most place cost u es ≡ verdict.Legal → is_some (state_from c (Some u) es) ≡ true
legal_from c most place cost u [] is = refl
legal_from c most place cost u (e ∷ es) is =
    let way = way_of c u e in
    legal_by c es place (λ v. verdict_from c most (place + 1) (cost + way) v es) (after c u e) (nat_lt most (cost + way))
    (λ v. legal_from c most (place + 1) (cost + way) v es) is

pub legal_is_legal : (c : Description) (most : ℕ) (journal : List Entry) → verdict_of c most journal ≡ verdict.Legal → legal c journal ≡ true
legal_is_legal c most journal is = legal_from c most 1 0 (boot_of c) journal is

-- ---- not legal, and past the bound: the place is counted from the first

not_by : (n m : ℕ) → verdict.NotLegal m ≡ verdict.NotLegal n → m ≡ n
not_by n m e = cc

steps_by : (n m : ℕ) → verdict.Steps m ≡ verdict.Steps n → m ≡ n
steps_by n m e = cc

pub record Found (c : Description) (u : Unix) (es : List Entry) (place n : ℕ) : Type 0 where
  pub before : ℕ
  pub counted : n ≡ place + before
  pub is_legal : is_some (state_from c (Some u) (take before es)) ≡ true
  pub not_legal : is_some (state_from c (Some u) (take (suc before) es)) ≡ false

found_step : (c : Description) (u : Unix) (e : Entry) (es : List Entry) (place n : ℕ) (next : Unix → Verdict) (o : Option Unix) → after c u e ≡ o → ((v : Unix) → next v ≡ verdict.NotLegal n → Found c v es (place + 1) n) → verdict_on next place o ≡ verdict.NotLegal n → Found c u (e ∷ es) place n
found_step c u e es place n next (Some v) made h is =
    let later = h v is in
    record {
      before = suc later.before;
      counted = omega (arith, later.counted);
      is_legal = ap (λ (o : Option Unix). is_some (state_from c o (take later.before es))) made ∙ later.is_legal;
      not_legal = ap (λ (o : Option Unix). is_some (state_from c o (take (suc later.before) es))) made ∙ later.not_legal;
    }
found_step c u e es place n next None made h is =
    record {
      before = 0;
      counted = sym (not_by n place is) ∙ (omega arith);
      is_legal = refl;
      not_legal = ap (λ (o : Option Unix). is_some (state_from c o [])) made;
    }

found_by : (c : Description) (u : Unix) (e : Entry) (es : List Entry) (place n : ℕ) (next : Unix → Verdict) (far : Bool) → ((v : Unix) → next v ≡ verdict.NotLegal n → Found c v es (place + 1) n) → cond far (verdict.Steps place) (verdict_on next place (after c u e)) ≡ verdict.NotLegal n → Found c u (e ∷ es) place n
found_by c u e es place n next true h is = absurd (cc)
found_by c u e es place n next false h is = found_step c u e es place n next (after c u e) refl h is

found_from : (c : Description) (most place cost n : ℕ) (u : Unix) (es : List Entry) → verdict_from c most place cost u es ≡ verdict.NotLegal n → Found c u es place n
found_from c most place cost n u [] is = absurd (cc)
found_from c most place cost n u (e ∷ es) is =
    let way = way_of c u e in
    found_by c u e es place n (λ v. verdict_from c most (place + 1) (cost + way) v es) (nat_lt most (cost + way))
    (λ v. found_from c most (place + 1) (cost + way) n v es) is

pub not_legal_is_first : (c : Description) (most n : ℕ) (journal : List Entry) → verdict_of c most journal ≡ verdict.NotLegal n → (legal c (take (n - 1) journal) ≡ true) × (legal c (take n journal) ≡ false)
not_legal_is_first c most n journal is =
    let found = found_from c most 1 0 n (boot_of c) journal is in
    let before : found.before ≡ n - 1 = omega (arith, found.counted) in
    let upto : suc found.before ≡ n = omega (arith, found.counted) in
    (subst (λ (k : ℕ). legal c (take k journal) ≡ true) before found.is_legal, subst (λ (k : ℕ). legal c (take k journal) ≡ false) upto found.not_legal)

-- ---- past the bound

pub record Passed (c : Description) (u : Unix) (es : List Entry) (place n : ℕ) : Type 0 where
  pub before : ℕ
  pub counted : n ≡ place + before
  pub is_legal : is_some (state_from c (Some u) (take before es)) ≡ true

passed_step : (c : Description) (u : Unix) (e : Entry) (es : List Entry) (place n : ℕ) (next : Unix → Verdict) (o : Option Unix) → after c u e ≡ o → ((v : Unix) → next v ≡ verdict.Steps n → Passed c v es (place + 1) n) → verdict_on next place o ≡ verdict.Steps n → Passed c u (e ∷ es) place n
passed_step c u e es place n next (Some v) made h is =
    let later = h v is in
    record {
      before = suc later.before;
      counted = omega (arith, later.counted);
      is_legal = ap (λ (o : Option Unix). is_some (state_from c o (take later.before es))) made ∙ later.is_legal;
    }
passed_step c u e es place n next None made h is = absurd (cc)

passed_by : (c : Description) (u : Unix) (e : Entry) (es : List Entry) (place n : ℕ) (next : Unix → Verdict) (far : Bool) → ((v : Unix) → next v ≡ verdict.Steps n → Passed c v es (place + 1) n) → cond far (verdict.Steps place) (verdict_on next place (after c u e)) ≡ verdict.Steps n → Passed c u (e ∷ es) place n
passed_by c u e es place n next true h is = record { before = 0; counted = sym (steps_by n place is) ∙ (omega arith); is_legal = refl }
passed_by c u e es place n next false h is = passed_step c u e es place n next (after c u e) refl h is

passed_from : (c : Description) (most place cost n : ℕ) (u : Unix) (es : List Entry) → verdict_from c most place cost u es ≡ verdict.Steps n → Passed c u es place n
passed_from c most place cost n u [] is = absurd (cc)
passed_from c most place cost n u (e ∷ es) is =
    let way = way_of c u e in
    passed_by c u e es place n (λ v. verdict_from c most (place + 1) (cost + way) v es) (nat_lt most (cost + way))
    (λ v. passed_from c most (place + 1) (cost + way) n v es) is

pub steps_are_behind_legal : (c : Description) (most n : ℕ) (journal : List Entry) → verdict_of c most journal ≡ verdict.Steps n → legal c (take (n - 1) journal) ≡ true
steps_are_behind_legal c most n journal is =
    let passed = passed_from c most 1 0 n (boot_of c) journal is in
    let before : passed.before ≡ n - 1 = omega (arith, passed.counted) in
    subst (λ (k : ℕ). legal c (take k journal) ≡ true) before passed.is_legal
