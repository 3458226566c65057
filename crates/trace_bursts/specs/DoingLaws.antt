-- Whether what a process did is what it has before its call.
use Rattle.std.proofs.Common.{◌≡◌, ◌∙◌, ◌≤◌, ℕ, ◌+◌, ◌==◌, Bool, true, false, cond, ◌&&◌, Option, Some, None, refl, sym, ap, ap₂, subst, arith, le-leb, leb-true, eqb-true, eq-eqb}
use Rattle.std.specs.Option.{option_and_then, option_map}
use Rattle.std.proofs.lemmas.Bool.{and_parts}
use Rattle.process_machine.specs.declared.program.Program.{Program}
use Rattle.process_machine.specs.Machine.{Machine}
use Rattle.process_machine.specs.Runs.{ahead, call_bound}
use Rattle.unix_calls.specs.declared.description.Description.{Description}
use Rattle.unix_calls.specs.declared.state.Process.{Process}
use Rattle.unix_calls.specs.Answers.{program_at}
use Rattle.call_journal.specs.WorthBursts.{distance, distance_of, distance_within, is_at_most, is_exactly}
use Rattle.trace_bursts.specs.declared.doing.Doing.{Doing}
use Rattle.trace_bursts.specs.declared.doing.Issued.{Issued}
use Rattle.trace_bursts.specs.declared.doing.Issued.TheVariants.{Never, At, Apart}
use Rattle.trace_bursts.specs.Doing.{burst_behind, is_met, issue_behind, issued_with, meets, reach_by, reach_of}
use Rattle.trace_bursts.specs.GoingLaws.{goes_further}

-- where no call comes, any number meets it
meets_none : (issued : Issued) → meets issued None ≡ true
meets_none Never = refl
meets_none (At done) = refl
meets_none Apart = refl

pub met_none : (doing : Doing) → is_met doing None ≡ true
met_none doing = meets_none doing.issued

-- without a program
pub met_without : (c : Description) (doing : Doing) (p : Process) → program_at c.programs p.image.number ≡ None → is_met doing (distance_of c p) ≡ true
met_without c doing p none = ap (λ o. is_met doing (option_and_then (λ program. distance program p.image) o)) none ∙ met_none doing

-- with one, by the bound
pub met_with : (c : Description) (doing : Doing) (p : Process) (program : Program) (left : ℕ) (image : Machine) → program_at c.programs p.image.number ≡ Some program → left ≡ call_bound → image ≡ p.image → is_met doing (distance_within program left image) ≡ is_met doing (distance_of c p)
met_with c doing p program left image there bound same =
    ap₂ (λ (n : ℕ) (m : Machine). is_met doing (distance_within program n m)) bound same
    ∙ sym (ap (λ o. is_met doing (option_and_then (λ q. distance q p.image) o)) there)

-- ---- numbers

at_most : (done : ℕ) (o : Option ℕ) → is_at_most done (option_map (λ (n : ℕ). n + done) o) ≡ true
at_most done None = refl
at_most done (Some n) = le-leb done (n + done) (omega arith)

pub fewer : (a b : ℕ) (due : Option ℕ) → a ≤ b → is_at_most b due ≡ true → is_at_most a due ≡ true
fewer a b None few is = refl
fewer a b (Some n) few is = let so = leb-true b n is in le-leb a n (omega (arith, few, so))

-- ---- what an image came to that did so many

far_by : (program : Program) (old new : Machine) (left rest count most : ℕ) (issued : Issued) → count ≡ reach_by left most issued → ahead program old count ≡ Some new → rest + count ≡ left → (is_at_most most (distance_within program left old) && meets issued (distance_within program left old)) ≡ true
far_by program old new left rest count most Never is run sum =
    let fuel : count + rest ≡ left = omega (arith, sum) in
    ap (λ b. b && true)
    (ap (λ (n : ℕ). is_at_most most (distance_within program n old)) (sym fuel)
    ∙ (ap (is_at_most most) (goes_further program count rest old new run)
    ∙ (ap (λ (n : ℕ). is_at_most n (option_map (λ (k : ℕ). k + count) (distance_within program rest new))) (sym is)
    ∙ at_most count (distance_within program rest new))))
far_by program old new left rest count most (At done) is run sum = absurd (omega (arith, is, sum))
far_by program old new left rest count most Apart is run sum = absurd (omega (arith, is, sum))

pub met_far : (program : Program) (old new : Machine) (left rest count : ℕ) (doing : Doing) → count ≡ reach_of left doing → ahead program old count ≡ Some new → rest + count ≡ left → true ≡ is_met doing (distance_within program left old)
met_far program old new left rest count doing is run sum = sym (far_by program old new left rest count doing.most doing.issued is run sum)

pub met_never : (program : Program) (old : Machine) (left : ℕ) (doing : Doing) → distance_within program left old ≡ None → true ≡ is_met doing (distance_within program left old)
met_never program old left doing none = sym (ap (is_met doing) none ∙ met_none doing)

pub met_called : (program : Program) (old : Machine) (left : ℕ) (doing : Doing) (n : ℕ) → distance_within program left old ≡ Some n → is_met doing (Some n) ≡ is_met doing (distance_within program left old)
met_called program old left doing n is = sym (ap (is_met doing) is)

-- ---- one more burst or issue

-- what a process is to meet behind a record is what it was to meet before, and that the record keeps the count
pub record Owes (kept : Bool) (before later : Doing) (due : Option ℕ) : Type 0 where
  pub on : is_met later due ≡ true → (kept ≡ true) × (is_met before due ≡ true)
  pub back : kept ≡ true → is_met before due ≡ true → is_met later due ≡ true

both : (a b : Bool) → a ≡ true → b ≡ true → (a && b) ≡ true
both true b is more = more
both false b is more = is

pub burst_owes : (doing : Doing) (there : Bool) (count : ℕ) (due : Option ℕ) → doing.most ≤ doing.done → (there ≡ false → due ≡ None) → Owes (is_at_most (doing.done + count) due) doing (burst_behind there count doing) due
burst_owes doing true count due few absent = record {
  on = λ met.
      let parts = and_parts (is_at_most (doing.done + count) due) (meets doing.issued due) met in
      (parts.0, both (is_at_most doing.most due) (meets doing.issued due) (fewer doing.most (doing.done + count) due (omega (arith, few)) parts.0) parts.1);
  back = λ kept met. both (is_at_most (doing.done + count) due) (meets doing.issued due) kept (and_parts (is_at_most doing.most due) (meets doing.issued due) met).1;
}
burst_owes doing false count due few absent = record {
  on = λ met. (ap (is_at_most (doing.done + count)) (absent refl), ap (is_met doing) (absent refl) ∙ met_none doing);
  back = λ kept met. ap (is_met (burst_behind false count doing)) (absent refl) ∙ met_none (burst_behind false count doing);
}

-- a further issue
apart_or : (done before : ℕ) (due : Option ℕ) (b : Bool) → (before == done) ≡ b → meets (cond b (At before) Apart) due ≡ true → (is_exactly done due ≡ true) × (is_exactly before due ≡ true)
apart_or done before due true is met = (subst (λ (n : ℕ). is_exactly n due ≡ true) (eqb-true before done is) met, met)
apart_or done before None false is met = (refl, refl)
apart_or done before (Some n) false is met = absurd (cc (met))

or_apart : (done before : ℕ) (due : Option ℕ) (b : Bool) → (before == done) ≡ b → is_exactly done due ≡ true → is_exactly before due ≡ true → meets (cond b (At before) Apart) due ≡ true
or_apart done before due true is one other = other
or_apart done before None false is one other = refl
or_apart done before (Some n) false is one other =
    let a : done ≡ n = eqb-true done n one in
    let b : before ≡ n = eqb-true before n other in
    let so : true ≡ false = sym (eq-eqb before done (b ∙ sym a)) ∙ is in
    absurd (cc (so))

issue_on : (done : ℕ) (issued : Issued) (due : Option ℕ) → meets (issued_with done issued) due ≡ true → (is_exactly done due ≡ true) × (meets issued due ≡ true)
issue_on done Never due met = (met, refl)
issue_on done (At before) due met = apart_or done before due (before == done) refl met
issue_on done Apart None met = (refl, refl)
issue_on done Apart (Some n) met = absurd (cc (met))

issue_back : (done : ℕ) (issued : Issued) (due : Option ℕ) → is_exactly done due ≡ true → meets issued due ≡ true → meets (issued_with done issued) due ≡ true
issue_back done Never due one met = one
issue_back done (At before) due one met = or_apart done before due (before == done) refl one met
issue_back done Apart due one met = met

pub issue_owes : (doing : Doing) (there : Bool) (due : Option ℕ) → (there ≡ false → due ≡ None) → Owes (is_exactly doing.done due) doing (issue_behind there doing) due
issue_owes doing true due absent = record {
  on = λ met.
      let parts = and_parts (is_at_most doing.most due) (meets (issued_with doing.done doing.issued) due) met in
      let more = issue_on doing.done doing.issued due parts.1 in
      (more.0, both (is_at_most doing.most due) (meets doing.issued due) parts.0 more.1);
  back = λ kept met.
      let parts = and_parts (is_at_most doing.most due) (meets doing.issued due) met in
      both (is_at_most doing.most due) (meets (issued_with doing.done doing.issued) due) parts.0 (issue_back doing.done doing.issued due kept parts.1);
}
issue_owes doing false due absent = record {
  on = λ met. (ap (is_exactly doing.done) (absent refl), ap (is_met doing) (absent refl) ∙ met_none doing);
  back = λ kept met. ap (is_met (issue_behind false doing)) (absent refl) ∙ met_none (issue_behind false doing);
}
