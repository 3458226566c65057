-- A reading of lines keeps within the limits, and so does its program.
use Rattle.std.proofs.Common.{◌≡◌, ℕ, cond, ◌+◌, ◌*◌, ◌<◌, ◌≤◌, List, [], ◌∷◌, ◌++◌, length, map, Bool, true, false, ◌&&◌, ◌||◌, Option, Some, None, Ok, refl, subst, arith, rules, nat_lt, nat_le}
use Rattle.std.specs.Bool.{if◌then◌else◌}
use Rattle.std.specs.List.{AllByRecursion}
use Rattle.std.specs.Option.{is_some, unwrap_or, option_and_then}
use Rattle.std.proofs.lemmas.List.{length-append, length-map}
use Rattle.sprite_ids.proofs.ListLaws.{each_push, each_weaken}
use Rattle.process_machine.specs.declared.instruction.Instruction.{Instruction}
use Rattle.process_machine.specs.declared.instruction.Instruction.TheVariants.{Jmp, Jeq, Jne, Jlt}
use Rattle.process_machine.specs.declared.program.Text.{Text}
use Rattle.program_text.specs.declared.line.Line.{Line}
use Rattle.program_text.specs.declared.line.Line.TheVariants as line
use Rattle.program_text.specs.declared.step.Step.{Step}
use Rattle.program_text.specs.declared.step.Step.TheVariants.{Plain, ToLabel}
use Rattle.program_text.specs.declared.step.Jump.{Jump}
use Rattle.program_text.specs.declared.step.Jump.TheVariants.{Always, Equal, Different, Less}
use Rattle.program_text.specs.declared.reading.Reading.{Reading}
use Rattle.text_lines.specs.Lines.{lines_of}
use Rattle.program_text.specs.Words.{same}
use Rattle.program_text.specs.Labels.{defines}
use Rattle.program_text.specs.Lines.{line_of}
use Rattle.program_text.specs.Readings.{place_of, bytes_of, with_label, with_pages, with_text, with_step, with_line, judged, unread}
use Rattle.program_text.specs.Programs.{aimed, jump_to, program_by, verdict}
use Rattle.program_text.specs.Facts.{EndsInside, GoesWithin, IsWithinLimits}
use Rattle.program_text.proofs.PlainLaws.{IsNoJump, IsPlain, HasPlain, line_plain}
use Rattle.program_text.proofs.ChoiceLaws.{Each, each_none, each_some, each_if, each_then}

-- a reading within the limits
pub record Keeps (r : Reading) : Type 0 where
  pub steps : length r.steps ≤ 512
  pub texts : length r.texts ≤ 64
  pub inside : AllByRecursion (EndsInside (bytes_of r.pages)) r.texts
  pub within : AllByRecursion (λ (l : List ℕ × ℕ). l.1 ≤ length r.steps) r.labels
  pub plain : AllByRecursion IsPlain r.steps

-- a choice where the first arm is refused, and one where the second is
else_keeps : (t : Bool) (r : Reading) → (t ≡ false → Keeps r) → Each Keeps (if t then None else Some r)
else_keeps t r h = each_if Keeps t None (Some r) (λ e. each_none Keeps) (λ e. each_some Keeps r (h e))

then_keeps : (t : Bool) (r : Reading) → (t ≡ true → Keeps r) → Each Keeps (if t then Some r else None)
then_keeps t r h = each_if Keeps t (Some r) None (λ e. each_some Keeps r (h e)) (λ e. each_none Keeps)

-- no texts lie inside any pages
empty_inside : (bytes : ℕ) (texts : List Text) → length texts ≡ 0 → AllByRecursion (EndsInside bytes) texts
empty_inside bytes [] e = tt
empty_inside bytes (text ∷ texts) e = absurd (omega arith)

-- what the tests of a line say
none_there : (t : Bool) (n : ℕ) → (t || nat_lt 0 n) ≡ false → n ≡ 0
none_there true n e = cc
none_there false n e = let least : 0 < n → ⊥ = search (rules, e) in omega (arith, least)

first_holds : (n : ℕ) (t : Bool) → (nat_lt n 512 && t) ≡ true → n < 512
first_holds n t e = search (rules, e)

both_hold : (n address size bytes : ℕ) → (nat_lt n 64 && nat_le (address + size) bytes) ≡ true → (n < 64) × (address + size ≤ bytes)
both_hold n address size bytes e = search (rules, e)

label_keeps : (r : Reading) (name : List ℕ) → Keeps r → Each Keeps (with_label r name)
label_keeps r name h =
    else_keeps _ _ (λ e. record {
      steps = h.steps;
      texts = h.texts;
      inside = h.inside;
      within = each_push (λ (l : List ℕ × ℕ). l.1 ≤ length r.steps) r.labels (name, length r.steps) h.within (omega arith);
      plain = h.plain;
    })

pages_keeps : (r : Reading) (pages : ℕ) → Keeps r → Each Keeps (with_pages r pages)
pages_keeps r pages h =
    else_keeps _ _ (λ e. record {
      steps = h.steps;
      texts = h.texts;
      inside = empty_inside _ r.texts (none_there (is_some r.pages) (length r.texts) e);
      within = h.within;
      plain = h.plain;
    })

text_keeps : (r : Reading) (text : Text) → Keeps r → Each Keeps (with_text r text)
text_keeps r text h =
    then_keeps _ _ (λ e. record {
      steps = h.steps;
      texts = rw (length-append) (omega (arith, both_hold (length r.texts) _ _ _ e));
      inside = each_push (EndsInside (bytes_of r.pages)) r.texts text h.inside (both_hold (length r.texts) _ _ _ e).1;
      within = h.within;
      plain = h.plain;
    })

step_keeps : (defined : List ℕ → Bool) (r : Reading) (step : Step) → IsPlain step → Keeps r → Each Keeps (with_step defined r step)
step_keeps defined r step p h =
    then_keeps _ _ (λ e.
    let more : length (r.steps ++ step ∷ []) ≡ length r.steps + 1 = length-append r.steps (step ∷ []) in
    record {
      steps = rw more (omega (arith, first_holds (length r.steps) _ e));
      texts = h.texts;
      inside = h.inside;
      within = each_weaken _ _ r.labels (λ (l : List ℕ × ℕ) k. rw more (omega (arith, k))) h.within;
      plain = each_push IsPlain r.steps step h.plain p;
    })

line_keeps : (defined : List ℕ → Bool) (r : Reading) (l : Line) → HasPlain l → Keeps r → Each Keeps (with_line defined r l)
line_keeps defined r line.Blank p h = each_some Keeps r h
line_keeps defined r (line.Label name) p h = label_keeps r name h
line_keeps defined r (line.Pages pages) p h = pages_keeps r pages h
line_keeps defined r (line.Data text) p h = text_keeps r text h
line_keeps defined r (line.Code step) p h = step_keeps defined r step p h

more_keeps : (defined : List ℕ → Bool) (r : Reading) (o : Option Line) → Each HasPlain o → Keeps r → Each Keeps (option_and_then (with_line defined r) o)
more_keeps defined r o p h = each_then HasPlain Keeps (with_line defined r) o p (λ l q. line_keeps defined r l q h)

-- all lines, one after another
judged_keeps : (version : ℕ) (defined : List ℕ → Bool) (n : ℕ) (o : Option Reading) (lines : List (List ℕ)) (r : Reading) → Each Keeps o → judged version defined n o lines ≡ Ok r → Keeps r
judged_keeps version defined n None lines r h e = cc
judged_keeps version defined n (Some s) [] r h e = let same_one : s ≡ r = cc in subst Keeps same_one h.holds
judged_keeps version defined n (Some s) (l ∷ lines) r h e =
    judged_keeps version defined (n + 1) _ lines r (more_keeps defined s (line_of version l) (line_plain version l) h.holds) e

unread_keeps : Keeps unread
unread_keeps = record { steps = omega arith; texts = omega arith; inside = tt; within = tt; plain = tt }

chosen_within : (count : ℕ) (t : Bool) (place : ℕ) (rest : Option ℕ) → place ≤ count → unwrap_or rest 0 ≤ count → unwrap_or (cond t (Some place) rest) 0 ≤ count
chosen_within count true place rest h k = h
chosen_within count false place rest h k = k

-- a label's place is within the instructions, and so is 0
place_within : (count : ℕ) (labels : List (List ℕ × ℕ)) (name : List ℕ) → AllByRecursion (λ (l : List ℕ × ℕ). l.1 ≤ count) labels → unwrap_or (place_of labels name) 0 ≤ count
place_within count [] name h = omega arith
place_within count (l ∷ labels) name h =
    chosen_within count (same name l.0) l.1 (place_of labels name) h.0 (place_within count labels name h.1)

plain_within : (count : ℕ) (i : Instruction) → IsNoJump i → GoesWithin count i
plain_within count (Jmp place) p = absurd p
plain_within count (Jeq a b place) p = absurd p
plain_within count (Jne a b place) p = absurd p
plain_within count (Jlt a b place) p = absurd p
plain_within count i p = tt

jump_within : (count place : ℕ) (jump : Jump) → place ≤ count → GoesWithin count (jump_to jump place)
jump_within count place Always h = h
jump_within count place (Equal a b) h = h
jump_within count place (Different a b) h = h
jump_within count place (Less a b) h = h

step_within : (count : ℕ) (labels : List (List ℕ × ℕ)) (step : Step) → AllByRecursion (λ (l : List ℕ × ℕ). l.1 ≤ count) labels → IsPlain step → GoesWithin count (aimed labels step)
step_within count labels (Plain instruction) h p = plain_within count instruction p
step_within count labels (ToLabel jump label) h p = jump_within count _ jump (place_within count labels label h)

steps_within : (count : ℕ) (labels : List (List ℕ × ℕ)) (steps : List Step) → AllByRecursion (λ (l : List ℕ × ℕ). l.1 ≤ count) labels → AllByRecursion IsPlain steps → AllByRecursion (GoesWithin count) (map (aimed labels) steps)
steps_within count labels [] h p = tt
steps_within count labels (step ∷ steps) h p = (step_within count labels step h p.0, steps_within count labels steps h p.1)

bytes_are : (pages : Option ℕ) → bytes_of pages ≡ unwrap_or pages 1 * 4096
bytes_are None = refl
bytes_are (Some n) = refl

-- the program of a reading within the limits is within them
program_keeps : (r : Reading) → Keeps r → IsWithinLimits (program_by r)
program_keeps r h = record {
  first = refl;
  steps = rw (length-map) h.steps;
  texts = h.texts;
  inside = subst (λ (bytes : ℕ). AllByRecursion (EndsInside bytes) r.texts) (bytes_are r.pages) h.inside;
  within = rw (length-map) (steps_within (length r.steps) r.labels r.steps h.within h.plain);
}

-- each program that a text writes is within the limits
pub reading_within : (version : ℕ) (text : List ℕ) (r : Reading) → verdict version text ≡ Ok r → IsWithinLimits (program_by r)
reading_within version text r e =
    program_keeps r (judged_keeps version (defines (lines_of text)) 0 (Some unread) (lines_of text) r (each_some Keeps unread unread_keeps) e)
