-- The parts of each entry that one Unix kernel makes belong together.
use Rattle.std.proofs.Common.{◌≡◌, ◌∙◌, ℕ, Bool, true, false, cond, List, [], ◌∷◌, Option, Some, None, refl, sym, ap, ◌==◌, ◌+◌}
use Rattle.std.specs.Option.{option_map, option_and_then, is_some}
use Rattle.std.specs.List.{AllByRecursion}
use Rattle.process_machine.specs.declared.call.Call.{Call}
use Rattle.process_machine.specs.declared.call.Reply.{Reply}
use Rattle.process_machine.specs.declared.program.Program.{Program}
use Rattle.process_machine.specs.Machine.{Machine}
use Rattle.process_machine.specs.Runs.{at_next_call, call_of_next}
use Rattle.unix_calls.specs.declared.description.Description.{Description}
use Rattle.unix_calls.specs.declared.entry.Entry.{Entry}
use Rattle.unix_calls.specs.declared.entry.Part.{Part}
use Rattle.unix_calls.specs.declared.entry.Part.TheVariants as part
use Rattle.unix_calls.specs.declared.state.Process.{Process}
use Rattle.unix_calls.specs.State.{Unix, process_at, lives, with_process}
use Rattle.unix_calls.specs.Answers.{program_at}
use Rattle.unix_calls.specs.Boot.{boot_of}
use Rattle.unix_calls.specs.Same.{same_call}
use Rattle.unix_calls.specs.After.{after, after_of, after_living, after_part, after_death, at_program, at_image, next_is, counted, is_death_part, state_from, state_of, legal}
use Rattle.history_text.specs.Entries.{belong, is_together}
use Rattle.history_text.specs.Laws.{IsTogether}

-- none, whatever the test says
none_if : {A : Type 0} (b : Bool) (o : Option A) → o ≡ None → cond b o None ≡ None
none_if true o e = e
none_if false o e = refl

-- parts that don't belong together are made of no call
none_of_part : (c : Description) (u : Unix) (p : Process) (kind : Part) (call claimed : Call) (reply : Option Reply) → belong kind (Some claimed) reply ≡ false → after_part c u p kind call reply ≡ None
none_of_part c u p part.Whole call claimed (Some reply) apart = absurd (cc (apart))
none_of_part c u p part.Whole call claimed None apart = refl
none_of_part c u p part.Ask call claimed (Some reply) apart = refl
none_of_part c u p part.Ask call claimed None apart = absurd (cc (apart))
none_of_part c u p part.Done call claimed (Some reply) apart = absurd (cc (apart))
none_of_part c u p part.Done call claimed None apart = refl
none_of_part c u p part.Death call claimed reply apart = refl

none_of_next : (c : Description) (u : Unix) (p : Process) (e : Entry) (claimed : Call) (next : Option Call) → belong e.part (Some claimed) e.reply ≡ false → next_is c u p e claimed next ≡ None
none_of_next c u p e claimed None apart = refl
none_of_next c u p e claimed (Some call) apart = none_if (same_call claimed call) _ (none_of_part c u p e.part call claimed e.reply apart)

none_of_image : (c : Description) (u : Unix) (p : Process) (e : Entry) (program : Program) (claimed : Call) (image : Option Machine) → belong e.part (Some claimed) e.reply ≡ false → at_image c u p e program claimed image ≡ None
none_of_image c u p e program claimed None apart = refl
none_of_image c u p e program claimed (Some image) apart =
    none_of_next c (with_process (record p { image = image }) u) (record p { image = image }) e claimed (call_of_next program (Some image)) apart

none_of_program : (c : Description) (u : Unix) (p : Process) (e : Entry) (claimed : Call) (program : Option Program) → belong e.part (Some claimed) e.reply ≡ false → at_program c u p e claimed program ≡ None
none_of_program c u p e claimed None apart = refl
none_of_program c u p e claimed (Some program) apart = none_of_image c u p e program claimed (at_next_call program p.image) apart

-- nor is a death
no_death : (kind : Part) (reply : Option Reply) → belong kind None reply ≡ false → is_death_part kind reply ≡ false
no_death part.Death None apart = absurd (cc (apart))
no_death part.Death (Some reply) apart = refl
no_death part.Whole reply apart = refl
no_death part.Ask reply apart = refl
no_death part.Done reply apart = refl

none_of_living : (c : Description) (u : Unix) (p : Process) (e : Entry) (claimed : Option Call) → belong e.part claimed e.reply ≡ false → after_living c u p e claimed ≡ None
none_of_living c u p e None apart = ap (λ (b : Bool). cond b (after_death u p) None) (no_death e.part e.reply apart)
none_of_living c u p e (Some claimed) apart = none_if (e.number == p.calls + 1) _ (none_of_program c u p e claimed (program_at c.programs p.image.number) apart)

none_of_process : (c : Description) (u : Unix) (e : Entry) (p : Option Process) → is_together e ≡ false → after_of c u e p ≡ None
none_of_process c u e None apart = refl
none_of_process c u e (Some p) apart = none_if (lives p) _ (none_of_living c u p e e.call apart)

-- so an entry that is made has parts that belong together
by_test : (c : Description) (u v : Unix) (e : Entry) (b : Bool) → is_together e ≡ b → after c u e ≡ Some v → IsTogether e
by_test c u v e true is made = is
by_test c u v e false is made =
    let none : after c u e ≡ None = ap (option_map counted) (none_of_process c u e (process_at u.processes e.pid) is) in
    absurd (cc (made, none))

-- no state comes behind none
none_behind : (c : Description) (es : List Entry) → state_from c None es ≡ None
none_behind c [] = refl
none_behind c (e ∷ es) = refl

together_on : (c : Description) (u : Unix) (e : Entry) (es : List Entry) (o : Option Unix) → after c u e ≡ o → is_some (state_from c o es) ≡ true → ((v : Unix) → is_some (state_from c (Some v) es) ≡ true → AllByRecursion IsTogether es) → IsTogether e × AllByRecursion IsTogether es
together_on c u e es (Some v) is made rest = (by_test c u v e (is_together e) refl is, rest v made)
together_on c u e es None is made rest = let none = none_behind c es in absurd (cc (made, none))

together_from : (c : Description) (u : Unix) (es : List Entry) → is_some (state_from c (Some u) es) ≡ true → AllByRecursion IsTogether es
together_from c u [] made = tt
together_from c u (e ∷ es) made = together_on c u e es (after c u e) refl made (λ v. together_from c v es)

pub together_if_legal : (c : Description) (journal : List Entry) → legal c journal ≡ true → AllByRecursion IsTogether journal
together_if_legal c journal made = together_from c (boot_of c) journal made
