-- What a call of one process among all comes to, from what it does in that process's place.
use Rattle.std.proofs.Common.{◌≡◌, ℕ, List, Some, Result, Ok, Err, IfOk, refl, sym, ap, subst, ◌∙◌, slice_get, slice_set}
use Rattle.sprite_ids.proofs.ListLaws.{some_is, set_same}
use Rattle.process_machine.specs.declared.call.Reply.{Reply}
use Rattle.unix_calls.specs.declared.description.Description.{Description}
use Rattle.unix_calls.specs.declared.state.Process.{Process}
use Rattle.unix_calls.specs.State.{Unix, with_process}
use Rattle.unix_calls.specs.Answers.{Outcome, Answered, replied, replies}
use Rattle.unix_world.specs.declared.World.{World}
use Rattle.unix_run.specs.declared.came.Came.{Came}
use Rattle.unix_run.specs.declared.came.Came.TheVariants as came
use Rattle.unix_world.specs.Among.{Ascending}
use Rattle.unix_run.specs.Among.{ComesAmong, KeepsAmong}
use Rattle.unix_world.specs.Worlds.{unix_of}
use Rattle.unix_run.specs.Coming.{Comes, Keeps, told}
use Rattle.unix_world.proofs.ProcessLaws.{set_put, set_ascends}

-- a fact of what a call gave leads to another
pub if_ok : {A E : Type 0} {P Q : A → Type 0} (r : Result A E) → ((x : A) → P x → Q x) → IfOk r P → IfOk r Q
if_ok (Ok x) f h = f x h
if_ok (Err e) f h = tt

kept_among : (is : Came) (w : World) (ps : List Process) (at : ℕ) (p : Process) (after : World) (q : Process) → slice_get ps at ≡ Some p → Keeps is w p after q → KeepsAmong is w ps after (slice_set ps at q)
kept_among (came.Answered reply) w ps at p after q got k = tt
kept_among (came.GoesTo place) w ps at p after q got k = (k.0, ap (slice_set ps at) k.1 ∙ set_same ps at p got)
kept_among came.Waits w ps at p after q got k = (k.0, ap (slice_set ps at) k.1 ∙ set_same ps at p got)

-- a call that looks at no other process, made in the caller's place
pub among_of : (c : Description) (call : Unix → Process → Outcome) (w : World) (ps : List Process) (at : ℕ) (p : Process) (is : Came) (after : World) (q : Process) → Ascending ps → slice_get ps at ≡ Some p → Comes c call w p is after q → ComesAmong c call w ps at is after (slice_set ps at q)
among_of c call w ps at p is after q h got comes =
    record {
      tells = λ r there.
          subst (λ (x : Process). call (unix_of c w ps) x ≡ told is (unix_of c after (slice_set ps at q))) (some_is p r (sym got ∙ there))
          (comes.tells ps ∙ ap (λ l. told is (unix_of c after l)) (sym (set_put ps at p q h got comes.same)));
      stays = comes.stays;
      ascends = set_ascends ps at p q h got comes.same;
      keeps = kept_among is w ps at p after q got comes.keeps;
    }

-- an answered call
pub comes_among : (c : Description) (call : Unix → Process → Outcome) (w : World) (ps : List Process) (at : ℕ) (p : Process) (reply : Reply) (is : Came) (qs : List Process) → slice_get ps at ≡ Some p → is ≡ came.Answered reply → call (unix_of c w ps) p ≡ Answered reply (unix_of c w qs) → Ascending qs → ComesAmong c call w ps at is w qs
comes_among c call w ps at p reply is qs got answered step h =
    let keeps : KeepsAmong (came.Answered reply) w ps w qs = tt in
    subst (λ (i : Came). ComesAmong c call w ps at i w qs) (sym answered)
    (record {
      tells = λ r got_r. subst (λ (x : Process). call (unix_of c w ps) x ≡ Answered reply (unix_of c w qs)) (some_is p r (sym got ∙ got_r)) step;
      stays = refl;
      ascends = h;
      keeps = keeps;
    })

-- an answer to the caller, behind a change of others or of itself
pub answered_among : (c : Description) (call : Unix → Process → Outcome) (w : World) (ps : List Process) (at : ℕ) (p : Process) (reply : Reply) (is : Came) (between : List Process) (place : ℕ) (p' q : Process) → slice_get ps at ≡ Some p → is ≡ came.Answered reply → call (unix_of c w ps) p ≡ replies c (unix_of c w between) p' reply → Ascending between → slice_get between place ≡ Some p' → q ≡ replied c p' reply → ComesAmong c call w ps at is w (slice_set between place q)
answered_among c call w ps at p reply is between place p' q got answered step h there replied =
    let same : q.pid ≡ p'.pid = ap (λ (x : Process). x.pid) replied in
    comes_among c call w ps at p reply is (slice_set between place q) got answered
    (step ∙ (ap (λ (x : Process). Answered reply (with_process x (unix_of c w between))) (sym replied)
    ∙ ap (λ l. Answered reply (unix_of c w l)) (sym (set_put between place p' q h there same))))
    (set_ascends between place p' q h there same)

-- a call that isn't answered
pub unanswered_among : (c : Description) (call : Unix → Process → Outcome) (w : World) (ps : List Process) (at : ℕ) (p : Process) (is : Came) → slice_get ps at ≡ Some p → call (unix_of c w ps) p ≡ told is (unix_of c w ps) → Ascending ps → KeepsAmong is w ps w ps → ComesAmong c call w ps at is w ps
unanswered_among c call w ps at p is got step h keeps =
    record {
      tells = λ r got_r. subst (λ (x : Process). call (unix_of c w ps) x ≡ told is (unix_of c w ps)) (some_is p r (sym got ∙ got_r)) step;
      stays = refl;
      ascends = h;
      keeps = keeps;
    }
