-- What the end of a run tells of its processes.
use Rattle.std.proofs.Common.{◌≡◌, ◌≤◌, ◌∙◌, ℕ, ◌+◌, ◌-◌, Bool, true, false, cond, not, List, [], ◌∷◌, refl, ap, arith, nat_lt}
use Rattle.std.proofs.lemmas.Bool.{ltb-false}
use Rattle.std.specs.Prelude.{◌&&◌, ◌||◌, if◌then◌else◌}
use Rattle.std.specs.List.{list_all, list_any}
use Rattle.std.specs.Option.{is_some}
use Rattle.sprite_ids.specs.declared.running.Finish.{Finish}
use Rattle.sprite_ids.specs.declared.running.Finish.TheVariants as finish
use Rattle.unix_calls.specs.declared.description.Description.{Description}
use Rattle.unix_calls.specs.declared.state.Process.{Process}
use Rattle.unix_calls.specs.State.{Unix, lives}
use Rattle.unix_calls.specs.After.{blocked}
use Rattle.run_judge.specs.declared.halting.Halt.{Halt}
use Rattle.run_judge.specs.declared.halting.Halt.TheVariants as halt
use Rattle.run_judge.specs.declared.ending.Stop.{Stop}
use Rattle.run_judge.specs.declared.ending.Stop.TheVariants as stop
use Rattle.run_judge.specs.Halts.{halt_of, rests_if, way_to}
use Rattle.run_judge.specs.Ends.{EndsAs, end_of, is_free, stop_from, stop_if, stop_on}

-- ---- one process

rests_by : (alive far is : Bool) (way n : ℕ) → cond alive (cond far halt.Far (rests_if is way)) (halt.Rests 0) ≡ halt.Rests n → (alive && not is) ≡ false
rests_by true true is way n e = absurd (cc (e))
rests_by true false true way n e = refl
rests_by true false false way n e = absurd (cc (e))
rests_by false far is way n e = refl

rests_not_free : (c : Description) (left n : ℕ) (u : Unix) (p : Process) → halt_of c left u p ≡ halt.Rests n → is_free c u p ≡ false
rests_not_free c left n u p e = rests_by (lives p) (nat_lt left (way_to c p)) (blocked c u p) (way_to c p) n e

free_by : (alive far is : Bool) (way : ℕ) → cond alive (cond far halt.Far (rests_if is way)) (halt.Rests 0) ≡ halt.Free → (alive && not is) ≡ true
free_by true true is way e = absurd (cc (e))
free_by true false true way e = absurd (cc (e))
free_by true false false way e = refl
free_by false far is way e = absurd (cc (e))

free_is_free : (c : Description) (left : ℕ) (u : Unix) (p : Process) → halt_of c left u p ≡ halt.Free → is_free c u p ≡ true
free_is_free c left u p e = free_by (lives p) (nat_lt left (way_to c p)) (blocked c u p) (way_to c p) e

within_by : (alive far is : Bool) (left way n : ℕ) → nat_lt left way ≡ far → cond alive (cond far halt.Far (rests_if is way)) (halt.Rests 0) ≡ halt.Rests n → n ≤ left
within_by true true is left way n few e = absurd (cc (e))
within_by true false true left way n few e = let same : way ≡ n = cc in omega (arith, same, ltb-false left way few)
within_by true false false left way n few e = absurd (cc (e))
within_by false far is left way n few e = let same : 0 ≡ n = cc in omega (arith, same)

-- it did no more than it might
pub rests_within : (c : Description) (left n : ℕ) (u : Unix) (p : Process) → halt_of c left u p ≡ halt.Rests n → n ≤ left
rests_within c left n u p e = within_by (lives p) (nat_lt left (way_to c p)) (blocked c u p) left (way_to c p) n refl e

-- ---- all of them

pub stop_rests : (c : Description) (most cost n : ℕ) (u : Unix) (p : Process) (ps : List Process) → halt_of c (most - cost) u p ≡ halt.Rests n → stop_from c most cost u (p ∷ ps) ≡ stop_from c most (cost + n) u ps
stop_rests c most cost n u p ps e = ap (stop_on (λ way. stop_from c most (cost + way) u ps)) e

good_by : (c : Description) (u : Unix) (p : Process) (ps : List Process) (next : ℕ → Stop) (h : Halt) → ((n : ℕ) → h ≡ halt.Rests n → is_free c u p ≡ false) → ((n : ℕ) → next n ≡ stop.Good → list_any (is_free c u) ps ≡ false) → stop_on next h ≡ stop.Good → list_any (is_free c u) (p ∷ ps) ≡ false
good_by c u p ps next (halt.Rests n) here rest e = ap (λ (b : Bool). b || list_any (is_free c u) ps) (here n refl) ∙ rest n e
good_by c u p ps next halt.Free here rest e = absurd (cc (e))
good_by c u p ps next halt.Far here rest e = absurd (cc (e))

pub none_is_free : (c : Description) (most cost : ℕ) (u : Unix) (ps : List Process) → stop_from c most cost u ps ≡ stop.Good → list_any (is_free c u) ps ≡ false
none_is_free c most cost u [] e = refl
none_is_free c most cost u (p ∷ ps) e =
    good_by c u p ps (λ way. stop_from c most (cost + way) u ps) (halt_of c (most - cost) u p) (λ n h. rests_not_free c (most - cost) n u p h) (λ n h. none_is_free c most (cost + n) u ps h) e

free_on : (c : Description) (u : Unix) (p : Process) (ps : List Process) (next : ℕ → Stop) (h : Halt) → (h ≡ halt.Free → is_free c u p ≡ true) → ((n : ℕ) → h ≡ halt.Rests n → is_free c u p ≡ false) → ((n : ℕ) → next n ≡ stop.Free → list_any (is_free c u) ps ≡ true) → stop_on next h ≡ stop.Free → list_any (is_free c u) (p ∷ ps) ≡ true
free_on c u p ps next (halt.Rests n) here not_here rest e = ap (λ (b : Bool). b || list_any (is_free c u) ps) (not_here n refl) ∙ rest n e
free_on c u p ps next halt.Free here not_here rest e = ap (λ (b : Bool). b || list_any (is_free c u) ps) (here refl)
free_on c u p ps next halt.Far here not_here rest e = absurd (cc (e))

pub one_is_free : (c : Description) (most cost : ℕ) (u : Unix) (ps : List Process) → stop_from c most cost u ps ≡ stop.Free → list_any (is_free c u) ps ≡ true
one_is_free c most cost u [] e = absurd (cc (e))
one_is_free c most cost u (p ∷ ps) e =
    free_on c u p ps (λ way. stop_from c most (cost + way) u ps) (halt_of c (most - cost) u p) (λ h. free_is_free c (most - cost) u p h) (λ n h. rests_not_free c (most - cost) n u p h) (λ n h. one_is_free c most (cost + n) u ps h) e

-- where none lives all have ended
ended_by : (ended rest : Bool) (others : Bool) → (rest ≡ false → others ≡ true) → (not ended || rest) ≡ false → (ended && others) ≡ true
ended_by true rest others h e = h e
ended_by false rest others h e = absurd (cc (e))

all_ended : (ps : List Process) → list_any lives ps ≡ false → list_all (λ (p : Process). is_some p.ending) ps ≡ true
all_ended [] e = refl
all_ended (p ∷ ps) e = ended_by (is_some p.ending) (list_any lives ps) (list_all (λ (p : Process). is_some p.ending) ps) (all_ended ps) e

-- ---- the end of a run

none_lives : (b : Bool) → stop_if (not b) ≡ stop.Good → b ≡ false
none_lives true e = absurd (cc (e))
none_lives false e = refl

one_lives : (b : Bool) → stop_if b ≡ stop.Good → b ≡ true
one_lives true e = refl
one_lives false e = absurd (cc (e))

stalled_by : (b : Bool) (x : Stop) → (if b then x else stop.Wrong) ≡ stop.Good → (b ≡ true) × (x ≡ stop.Good)
stalled_by true x e = (refl, e)
stalled_by false x e = absurd (cc (e))

free_if : (b : Bool) (x : Stop) → (if b then x else stop.Wrong) ≡ stop.Free → x ≡ stop.Free
free_if true x e = e
free_if false x e = absurd (cc (e))

-- a run that stands as it says
pub ends_as : (c : Description) (most : ℕ) (u : Unix) (finish : Finish) → end_of c most u finish ≡ stop.Good → EndsAs c u finish
ends_as c most u finish.AllEnded e = all_ended u.processes (none_lives (list_any lives u.processes) e)
ends_as c most u finish.Budget e = one_lives (list_any lives u.processes) e
ends_as c most u finish.Stalled e =
    let both = stalled_by (list_any lives u.processes) (stop_from c most 0 u u.processes) e in
    (both.0, none_is_free c most 0 u u.processes both.1)
ends_as c most u finish.OutOfMemory e = absurd (cc (e))
ends_as c most u finish.Running e = absurd (cc (e))

not_free_if : (b : Bool) → stop_if b ≡ stop.Free → ⊥
not_free_if true e = absurd (cc (e))
not_free_if false e = absurd (cc (e))

-- a run of which a process is free
pub has_free : (c : Description) (most : ℕ) (u : Unix) (finish : Finish) → end_of c most u finish ≡ stop.Free → list_any (is_free c u) u.processes ≡ true
has_free c most u finish.AllEnded e = absurd (not_free_if (not (list_any lives u.processes)) e)
has_free c most u finish.Budget e = absurd (not_free_if (list_any lives u.processes) e)
has_free c most u finish.Stalled e = one_is_free c most 0 u u.processes (free_if (list_any lives u.processes) (stop_from c most 0 u u.processes) e)
has_free c most u finish.OutOfMemory e = absurd (cc (e))
has_free c most u finish.Running e = absurd (cc (e))
