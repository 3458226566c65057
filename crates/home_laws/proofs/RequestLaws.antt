-- Requests that fit a home go on fitting, and are served.
use Rattle.std.proofs.Common.{◌≡◌, ◌≢◌, ◌≤◌, ◌+◌, ℕ, true, ◌&&◌, List, length, Option, Some, None, refl, sym, ap, ap₂, ◌∙◌}
use Rattle.std.proofs.lemmas.Bool.{true≢false}
use Rattle.sprite_ids.specs.Pid.{home_of}
use Rattle.process_machine.specs.declared.call.Call.{Call}
use Rattle.process_machine.specs.declared.call.Call.TheVariants as call
use Rattle.process_machine.specs.declared.call.Reply.{Reply}
use Rattle.home_table.specs.Home.{Table}
use Rattle.unix_calls.specs.declared.Description.{Description}
use Rattle.unix_calls.specs.declared.Entry.{Entry}
use Rattle.unix_calls.specs.declared.state.Process.{Process}
use Rattle.unix_calls.specs.State.{Unix, lives, process_at}
use Rattle.unix_calls.specs.After.{after, state_of}
use Rattle.unix_calls.proofs.ProcessLaws.{found_pid}
use Rattle.unix_frames.specs.Frames.{KeepsOther}
use Rattle.unix_frames.specs.Order.{AreInOrder}
use Rattle.unix_frames.proofs.FrameLaws.{entries_leave}
use Rattle.home_laws.specs.Homes.{TellsTheSame}
use Rattle.home_laws.specs.Calls.{MayCall, Calls}
use Rattle.home_laws.specs.Answers.{home_answer}
use Rattle.home_laws.specs.Requests.{OfCall, OfKill, OfDeath, RequestsAreServed, RequestsGoOnFitting, Served, Answered, Parked, Killed, Died, is_done_at_home}
use Rattle.home_laws.specs.Tells.{is_dying}
use Rattle.home_laws.proofs.HomeLaws.{homes_answer_as_one, waits_are_blocked, kills_as_one, deaths_as_one}
use Rattle.home_laws.proofs.TellLaws.{tables_tell}

-- ---- another process's entry

-- what is left of who makes a request
record Left (c : Description) (u v : Unix) (pid number : ℕ) (may : MayCall u pid number) : Type 0 where
  now : MayCall v pid number
  image : now.process.image ≡ may.process.image
  pending : may.process.killed ≡ true → now.process.killed ≡ true

left_of : (c : Description) (u v : Unix) (e : Entry) (pid number : ℕ) (may : MayCall u pid number) → KeepsOther e v may.process → Left c u v pid number may
left_of c u v e pid number may k =
    let p = may.process in
    let mine : p.pid ≡ pid = found_pid u.processes pid p may.there in
    record {
      now = record {
        process = k.after;
        there = ap (process_at v.processes) (sym mine) ∙ k.there;
        living = ap lives k.whole ∙ may.living;
        idle = ap (λ (x : Process). x.asking) k.whole ∙ may.idle;
        numbered = may.numbered ∙ sym (ap (λ (x : Process). x.calls + 1) k.whole);
      };
      image = ap (λ (x : Process). x.image) k.whole;
      pending = k.pending;
    }

still_calls : (c : Description) (u v : Unix) (e : Entry) (pid number : ℕ) (called : Call) (calls : Calls c u pid number called) → KeepsOther e v calls.may.process → Calls c v pid number called
still_calls c u v e pid number called calls k =
    let l = left_of c u v e pid number calls.may k in
    let n = calls.next in
    record {
      may = l.now;
      next = record {
        program = n.program;
        image = n.image;
        program_is = ap (λ m. Rattle.unix_calls.specs.Answers.program_at c.programs m.number) l.image ∙ n.program_is;
        comes = ap (Rattle.process_machine.specs.Runs.at_next_call n.program) l.image ∙ n.comes;
        call_is = n.call_is;
      };
    }

kept_by : (c : Description) (journal : List Entry) (u v : Unix) (e : Entry) (pid number : ℕ) (may : MayCall u pid number) → length c.starts ≤ 200 → state_of c journal ≡ Some u → after c u e ≡ Some v → e.pid ≢ pid → KeepsOther e v may.process
kept_by c journal u v e pid number may few was is apart =
    let p = may.process in
    let mine : p.pid ≡ pid = found_pid u.processes pid p may.there in
    (entries_leave c journal u v e few was is).others p (ap (process_at u.processes) mine ∙ may.there) (λ same. apart (sym same ∙ mine))

pub requests_go_on_fitting : RequestsGoOnFitting
requests_go_on_fitting c journal u v e home pid number few was is apart (OfCall called calls at_home own) =
    OfCall called (still_calls c u v e pid number called calls (kept_by c journal u v e pid number calls.may few was is apart)) at_home own
requests_go_on_fitting c journal u v e home pid number few was is apart (OfKill target calls own from) =
    OfKill target (still_calls c u v e pid number (call.Kill target) calls (kept_by c journal u v e pid number calls.may few was is apart)) own from
requests_go_on_fitting c journal u v e home pid number few was is apart (OfDeath may killed own from) =
    let k = kept_by c journal u v e pid number may few was is apart in
    let l = left_of c u v e pid number may k in
    OfDeath l.now (l.pending killed) own from

-- ---- at the home

at_home : (c : Description) (u : Unix) (table : Table) (pid number : ℕ) (called : Call) → AreInOrder u.processes → TellsTheSame table u → Calls c u pid number called → is_done_at_home called ≡ true → home_of pid ≡ table.home → Served c u table pid number
at_home c u table pid number called order same calls done own = by (home_answer c table pid called) refl
  where
    by : (answer : Option Reply) → home_answer c table pid called ≡ answer → Served c u table pid number
    by (Some reply) is = Answered called reply is (homes_answer_as_one c u table pid number called reply order same own calls is)
    by None is = parked called calls done is
      where
        parked : (called : Call) → Calls c u pid number called → is_done_at_home called ≡ true → home_answer c table pid called ≡ None → Served c u table pid number
        parked call.Wait calls done is = Parked calls is (waits_are_blocked c u table pid number order same own calls is)
        parked (call.Print bytes) calls done is = absurd (cc)
        parked (call.Exit code) calls done is = absurd (cc)
        parked call.BadStep calls done is = absurd (cc)
        parked call.Getppid calls done is = absurd (cc)
        parked (call.Host max) calls done is = absurd (cc)
        parked call.Tick calls done is = absurd (cc)
        parked call.Fork calls done is = absurd (cc)
        parked _ calls done is = absurd (true≢false (sym done))

pub requests_are_served : RequestsAreServed
requests_are_served c u table pid number order same (OfCall called calls done own) = at_home c u table pid number called order same calls done own
requests_are_served c u table pid number order same (OfKill target calls own from) = Killed target (kills_as_one c u table pid number target order same own from calls)
requests_are_served c u table pid number order same (OfDeath may killed own from) =
    let tells = (tables_tell table u same).each pid own from in
    Died (deaths_as_one c u table pid number order same own may (tells.pending ∙ ap is_dying may.there ∙ ap₂ (λ a b. a && b) may.living killed))
