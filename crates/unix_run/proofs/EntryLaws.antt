-- Entries of one process among all.
use Rattle.std.proofs.Common.{◌≡◌, ℕ, Bool, true, false, cond, List, [], ◌∷◌, Option, Some, None, Result, Ok, Err, IfOk, is_some, refl, sym, ap, ap₂, subst, ◌∙◌, slice_get, slice_set}
use Rattle.std.specs.Prelude.{◌==◌}
use Rattle.std.specs.Option.{option_map, option_and_then}
use Rattle.std.proofs.lemmas.Bool.{eqb-true, true≢false}
use Rattle.sprite_ids.proofs.ListLaws.{some_is}
use Rattle.sprite_ids.specs.declared.errno.Errno.{Errno}
use Rattle.sprite_ids.specs.declared.errno.Errno.TheVariants as errno
use Rattle.process_machine.specs.declared.call.Call.{Call}
use Rattle.process_machine.specs.declared.call.Reply.{Reply}
use Rattle.process_machine.specs.declared.call.Reply.TheVariants.{Value, Error}
use Rattle.unix_calls.specs.declared.description.Description.{Description}
use Rattle.unix_calls.specs.declared.state.Device.{Device}
use Rattle.unix_calls.specs.declared.state.Process.{Process}
use Rattle.unix_calls.specs.State.{Unix, device_at, is_alive, with_process}
use Rattle.unix_calls.specs.Answers.{Outcome, Answered, GoesTo, Waits, refuses, replied}
use Rattle.unix_calls.specs.DeviceCalls.{answer_for}
use Rattle.unix_calls.specs.Same.{same_reply}
use Rattle.unix_calls.specs.After.{after_ask, after_done, after_whole, answer_due, done_at, done_with, failed, may_fail, outcome, state_in, with_reply}
use Rattle.unix_calls.proofs.AfterLaws.{refusal_changes_nothing}
use Rattle.unix_calls.proofs.SameLaws.{reply_is}
use Rattle.unix_world.specs.declared.World.{World}
use Rattle.unix_run.specs.declared.came.Came.{Came}
use Rattle.unix_run.specs.declared.came.Came.TheVariants as came
use Rattle.unix_world.specs.Among.{Ascending}
use Rattle.unix_run.specs.Among.{ComesAmong, KeepsAmong}
use Rattle.unix_run.specs.Entering.{Makes, MakesAmong, asks_at, asks_free, done_in, due_from, ends_ask, is_answer, made_state, stands}
use Rattle.unix_world.specs.Worlds.{unix_of}
use Rattle.unix_run.specs.Coming.{told}
use Rattle.unix_world.proofs.ProcessLaws.{set_ascends, set_put}

-- a step in the process's place
pub makes_among : (c : Description) (step : Unix → Process → Option Unix) (w : World) (ps : List Process) (at : ℕ) (p : Process) (is : Bool) (after : World) (q : Process) → Ascending ps → slice_get ps at ≡ Some p → Makes c step w p is after q → MakesAmong c step w ps at is after (slice_set ps at q)
makes_among c step w ps at p is after q h got makes =
    record {
      tells = λ r there.
          subst (λ (x : Process). step (unix_of c w ps) x ≡ made_state is (unix_of c after (slice_set ps at q))) (some_is p r (sym got ∙ there))
          (makes.tells ps ∙ ap (λ l. made_state is (unix_of c after l)) (sym (set_put ps at p q h got makes.same)));
      stays = makes.stays;
      ascends = set_ascends ps at p q h got makes.same;
    }

-- ---- whole calls

-- a reply that may not stand is off failure
no_failure : (c : Description) (u : Unix) (p : Process) (call : Call) (reply : Reply) → stands p call reply ≡ false → failed c u p call reply ≡ None
no_failure c u p call (Error e) off = ap (λ (b : Bool). cond b (state_in (refuses c u p e)) None) off
no_failure c u p call (Value first second bytes) off = refl

answered_state : (c : Description) (u v : Unix) (p : Process) (call : Call) (is : Came) (reply : Reply) → failed c u p call reply ≡ None → with_reply c u p call (told is v) reply ≡ made_state (is_answer is reply) v
answered_state c u v p call (came.Answered due) reply none = answered_by v (same_reply due reply) (failed c u p call reply) none
  where
    answered_by : (v : Unix) (b : Bool) (o : Option Unix) → o ≡ None → cond b (Some v) o ≡ made_state b v
    answered_by v true o none = refl
    answered_by v false o none = none
answered_state c u v p call (came.GoesTo place) reply none = none
answered_state c u v p call came.Waits reply none = none

-- the state of a whole call by what it came to
pub whole_came : (c : Description) (u v : Unix) (p : Process) (call : Call) (is : Came) (reply : Reply) → is_some p.asking ≡ false → stands p call reply ≡ false → outcome c u p call ≡ told is v → after_whole c u p call reply ≡ made_state (is_answer is reply) v
whole_came c u v p call is reply free off came_to =
    ap (λ (b : Bool). cond b None (with_reply c u p call (outcome c u p call) reply)) free
    ∙ ap (λ (o : Outcome). with_reply c u p call o reply) came_to
    ∙ answered_state c u v p call is reply (no_failure c u p call reply off)

-- a failure that may stand
same_state : (c : Description) (u later : Unix) (p : Process) (call : Call) (e : Errno) (due : Reply) (b : Bool) → outcome c u p call ≡ Answered due later → same_reply due (Error e) ≡ b → cond b (Some later) (Some (with_process (replied c p (Error e)) u)) ≡ Some (with_process (replied c p (Error e)) u)
same_state c u later p call e due true is same =
    ap Some (refusal_changes_nothing c u later p call e (is ∙ ap (λ (r : Reply). Answered r later) (reply_is due (Error e) same)))
same_state c u later p call e due false is same = refl

may_stand_state : (c : Description) (u : Unix) (p : Process) (call : Call) (e : Errno) (o : Outcome) → outcome c u p call ≡ o → may_fail p call e ≡ true → with_reply c u p call o (Error e) ≡ Some (with_process (replied c p (Error e)) u)
may_stand_state c u p call e (Answered due later) is may =
    ap (λ (b : Bool). cond (same_reply due (Error e)) (Some later) (cond b (state_in (refuses c u p e)) None)) may
    ∙ same_state c u later p call e due (same_reply due (Error e)) is refl
may_stand_state c u p call e (GoesTo place) is may = ap (λ (b : Bool). cond b (state_in (refuses c u p e)) None) may
may_stand_state c u p call e Waits is may = ap (λ (b : Bool). cond b (state_in (refuses c u p e)) None) may

pub whole_stands : (c : Description) (u : Unix) (p : Process) (call : Call) (reply : Reply) → is_some p.asking ≡ false → stands p call reply ≡ true → after_whole c u p call reply ≡ Some (with_process (replied c p reply) u)
whole_stands c u p call (Error e) free may =
    ap (λ (b : Bool). cond b None (with_reply c u p call (outcome c u p call) (Error e))) free
    ∙ may_stand_state c u p call e (outcome c u p call) refl may
whole_stands c u p call (Value first second bytes) free may = absurd (true≢false (sym may))

-- ---- asks

-- whether a call goes to a device
abbrev pub goes : Came → Bool
goes (came.GoesTo place) = true
goes other = false

not_asked : (u v : Unix) (p : Process) (call : Call) (is : Came) → goes is ≡ false → after_ask u p call (told is v) ≡ None
not_asked u v p call (came.Answered reply) off = refl
not_asked u v p call (came.GoesTo place) off = absurd (true≢false off)
not_asked u v p call came.Waits off = refl

pub no_free_ask : (c : Description) (u v : Unix) (p : Process) (call : Call) (is : Came) → is_some p.asking ≡ false → outcome c u p call ≡ told is v → goes is ≡ false → asks_free c call u p ≡ None
no_free_ask c u v p call is free came_to off =
    ap (λ (b : Bool). cond b None (after_ask u p call (outcome c u p call))) free
    ∙ ap (after_ask u p call) came_to
    ∙ not_asked u v p call is off

pub a_free_ask : (c : Description) (u v : Unix) (p : Process) (call : Call) (is : Came) (place : ℕ) → is_some p.asking ≡ false → outcome c u p call ≡ told is v → is ≡ came.GoesTo place → asks_free c call u p ≡ asks_at place call u p
a_free_ask c u v p call is place free came_to goes_to =
    ap (λ (b : Bool). cond b None (after_ask u p call (outcome c u p call))) free
    ∙ ap (after_ask u p call) came_to
    ∙ ap (λ (i : Came). after_ask u p call (told i v)) goes_to

-- ---- their ends

place_of_found : (place : ℕ) (devices : List Device) (d : Device) → device_at devices place ≡ Some d → d.place ≡ place
place_of_found place [] d e = cc
place_of_found place (x ∷ xs) d e = place_by x d place (device_at xs place) (x.place == place) refl e (place_of_found place xs d)
  where
    place_by : (x d : Device) (place : ℕ) (o : Option Device) (b : Bool) → (x.place == place) ≡ b → cond b (Some x) o ≡ Some d → (o ≡ Some d → d.place ≡ place) → d.place ≡ place
    place_by x d place o true t is later = subst (λ (y : Device). y.place ≡ place) (some_is x d is) (eqb-true x.place place t)
    place_by x d place o false t is later = later is

due_same : (u : Unix) (p : Process) (d : Device) (place : ℕ) (alive : Bool) (left : Option Reply) → d.place ≡ place → alive ≡ is_alive u place → answer_due u p d left ≡ due_from alive left
due_same u p d place alive (Some reply) named is = refl
due_same u p d place alive None named is =
    ap (λ (n : ℕ). cond (is_alive u n) None (Some (Error errno.NoServer))) named
    ∙ ap (λ (b : Bool). cond b None (Some (Error errno.NoServer))) (sym is)

done_same : (c : Description) (u : Unix) (p : Process) (place : ℕ) (alive : Bool) (reply : Reply) (o : Option Device) → device_at u.devices place ≡ o → alive ≡ is_alive u place → option_and_then (done_at c u p reply) o ≡ done_in c alive reply u p o
done_same c u p place alive reply None found is = refl
done_same c u p place alive reply (Some d) found is =
    ap (done_with c u p d reply) (due_same u p d place alive (answer_for p.pid d.answers) (place_of_found place u.devices d found) is)

pub done_is : (c : Description) (u : Unix) (p : Process) (place : ℕ) (alive : Bool) (reply : Reply) → p.asking ≡ Some place → alive ≡ is_alive u place → after_done c u p reply ≡ ends_ask c place alive reply u p
done_is c u p place alive reply asks is =
    ap (λ (o : Option ℕ). option_and_then (done_at c u p reply) (option_and_then (device_at u.devices) o)) asks
    ∙ done_same c u p place alive reply (device_at u.devices place) refl is

-- the same of a result that is told by parts
pub moved_ok : {E : Type 0} (c : Description) (step : Unix → Process → Option Unix) (w : World) (ps : List Process) (at : ℕ) (r other : Result Bool E) (after between : World) (qs rs : List Process) → r ≡ other → after ≡ between → qs ≡ rs → IfOk other (λ made. MakesAmong c step w ps at made between rs) → IfOk r (λ made. MakesAmong c step w ps at made after qs)
moved_ok c step w ps at r other after between qs rs is one two h =
    subst (λ x. IfOk x (λ made. MakesAmong c step w ps at made after qs)) (sym is)
    (subst (λ (x : World). IfOk other (λ made. MakesAmong c step w ps at made x qs)) (sym one)
    (subst (λ (x : List Process). IfOk other (λ made. MakesAmong c step w ps at made between x)) (sym two) h))

-- an ask behind a call that goes to a device
pub asked_among : (c : Description) (call : Call) (w between : World) (ps qs : List Process) (at place : ℕ) (p there_now : Process) (is : Came) (made : Bool) (after : World) (q : Process) → slice_get ps at ≡ Some p → is_some p.asking ≡ false → is ≡ came.GoesTo place → ComesAmong c (λ u r. outcome c u r call) w ps at is between qs → slice_get qs at ≡ Some there_now → Makes c (asks_at place call) between there_now made after q → MakesAmong c (asks_free c call) w ps at made after (slice_set qs at q)
asked_among c call w between ps qs at place p there_now is made after q got free goes_to comes got_now makes =
    let keeps : KeepsAmong (came.GoesTo place) w ps between qs = subst (λ (i : Came). KeepsAmong i w ps between qs) goes_to comes.keeps in
    let m = makes_among c (asks_at place call) between qs at there_now made after q comes.ascends got_now makes in
    record {
      tells = λ r there.
          let one : p ≡ r = some_is p r (sym got ∙ there) in
          a_free_ask c (unix_of c w ps) (unix_of c between qs) r call is place (ap (λ (x : Process). is_some x.asking) (sym one) ∙ free) (comes.tells r there) goes_to
          ∙ (ap₂ (λ (x : World) (l : List Process). asks_at place call (unix_of c x l) r) (sym keeps.0) (sym keeps.1)
          ∙ m.tells r (ap (λ (l : List Process). slice_get l at) keeps.1 ∙ there));
      stays = m.stays ∙ comes.stays;
      ascends = m.ascends;
    }

pub not_goes : (is : Came) → ((place : ℕ) → is ≡ came.GoesTo place → ⊥) → goes is ≡ false
not_goes (came.Answered reply) h = refl
not_goes (came.GoesTo place) h = absurd (h place refl)
not_goes came.Waits h = refl

pub unasked_among : (c : Description) (call : Call) (w between : World) (ps qs : List Process) (at : ℕ) (p : Process) (is : Came) → slice_get ps at ≡ Some p → is_some p.asking ≡ false → goes is ≡ false → ComesAmong c (λ u r. outcome c u r call) w ps at is between qs → MakesAmong c (asks_free c call) w ps at false between qs
unasked_among c call w between ps qs at p is got free off comes =
    record {
      tells = λ r there.
          let one : p ≡ r = some_is p r (sym got ∙ there) in
          no_free_ask c (unix_of c w ps) (unix_of c between qs) r call is (ap (λ (x : Process). is_some x.asking) (sym one) ∙ free) (comes.tells r there) off;
      stays = comes.stays;
      ascends = comes.ascends;
    }
