-- An entry that one kernel makes: opened once for every call.
use Rattle.std.proofs.Common.{◌≡◌, ◌+◌, ℕ, true, ◌&&◌, cond, not, Some, None, option_map, refl, sym, ap, subst, ◌∙◌}
use Rattle.std.specs.Option.{is_some}
use Rattle.std.proofs.lemmas.Bool.{eq-eqb}
use Rattle.sprite_ids.specs.declared.Errno.TheVariants as errno
use Rattle.sprite_ids.specs.declared.Ending.TheVariants as ending
use Rattle.process_machine.specs.declared.call.Call.{Call}
use Rattle.process_machine.specs.declared.call.Call.TheVariants as call
use Rattle.process_machine.specs.declared.call.Reply.{Reply}
use Rattle.process_machine.specs.declared.call.Reply.TheVariants.{Error}
use Rattle.unix_calls.specs.declared.Description.{Description}
use Rattle.unix_calls.specs.declared.Entry.{Entry}
use Rattle.unix_calls.specs.declared.state.Process.{Process}
use Rattle.unix_calls.specs.State.{Unix, process_at, with_process, no_descriptors}
use Rattle.unix_calls.specs.Answers.{Answered, Waits, program_at, replied, refuses}
use Rattle.unix_calls.specs.After.{outcome, state_in, failed, with_reply, after_whole, next_is, at_image, at_program, after_living, after_of, counted, after}
use Rattle.unix_calls.proofs.SameLaws.{call_same, reply_same}
use Rattle.unix_calls.proofs.ProcessLaws.{found_pid}
use Rattle.home_table.specs.Home.{Table}
use Rattle.unix_frames.specs.Order.{AreInOrder}
use Rattle.home_laws.specs.Homes.{TellsTheSame}
use Rattle.home_laws.specs.Calls.{MayCall, Calls, call_entry, death_entry}
use Rattle.home_laws.specs.Deeds.{Goes}
use Rattle.home_laws.proofs.LeadLaws.{Leads, leads_alike, told_of}

-- the process at its call
abbrev pub called_by : {c : Description} {u : Unix} {pid number : ℕ} {called : Call} → Calls c u pid number called → Process
called_by calls = record calls.may.process { image = calls.next.image }

-- the state in which it stands there
abbrev pub called_in : {c : Description} {u : Unix} {pid number : ℕ} {called : Call} → Calls c u pid number called → Unix
called_in {c} {u} calls = with_process (called_by calls) u

pub opened : (c : Description) (u later : Unix) (pid number : ℕ) (called : Call) (reply : Reply) (calls : Calls c u pid number called)
    → after_whole c (called_in calls) (called_by calls) called reply ≡ Some later → after c u (call_entry pid number called reply) ≡ Some (counted later)
opened c u later pid number called reply calls h =
    let e = call_entry pid number called reply in
    let p = calls.may.process in
    let q = called_by calls in
    let program = calls.next.program in
    ap (λ o. option_map counted (after_of c u e o)) calls.may.there
    ∙ ap (λ b. option_map counted (cond b (after_living c u p e (Some called)) None)) calls.may.living
    ∙ ap (λ b. option_map counted (cond b (at_program c u p e called (program_at c.programs p.image.number)) None)) (eq-eqb number (p.calls + 1) calls.may.numbered)
    ∙ ap (λ o. option_map counted (at_program c u p e called o)) calls.next.program_is
    ∙ ap (λ o. option_map counted (at_image c u p e program called o)) calls.next.comes
    ∙ ap (λ o. option_map counted (next_is c (with_process q u) q e called o)) calls.next.call_is
    ∙ ap (λ b. option_map counted (cond b (after_whole c (with_process q u) q called reply) None)) (call_same called)
    ∙ ap (λ o. option_map counted o) h

-- a call that is answered
pub answered : (c : Description) (w later : Unix) (q : Process) (called : Call) (reply : Reply) → q.asking ≡ None → outcome c w q called ≡ Answered reply later → after_whole c w q called reply ≡ Some later
answered c w later q called reply idle is =
    ap (λ o. cond (is_some o) None (with_reply c w q called (outcome c w q called) reply)) idle
    ∙ ap (λ o. with_reply c w q called o reply) is
    ∙ ap (λ b. cond b (Some later) (failed c w q called reply)) (reply_same reply)

-- a call that waits, and is broken off
pub interrupted : (c : Description) (w : Unix) (q : Process) → q.asking ≡ None → q.killed ≡ true → outcome c w q call.Wait ≡ Waits
    → after_whole c w q call.Wait (Error errno.Interrupted) ≡ Some (with_process (replied c q (Error errno.Interrupted)) w)
interrupted c w q idle killed is =
    ap (λ o. cond (is_some o) None (with_reply c w q call.Wait (outcome c w q call.Wait) (Error errno.Interrupted))) idle
    ∙ ap (λ o. with_reply c w q call.Wait o (Error errno.Interrupted)) is
    ∙ ap (λ b. cond (b && true) (state_in (refuses c w q errno.Interrupted)) None) killed

-- a death
pub died : (c : Description) (u : Unix) (pid number : ℕ) (may : MayCall u pid number) → may.process.killed ≡ true
    → after c u (death_entry pid number) ≡ Some (counted (with_process (record may.process { descriptors = no_descriptors; ending = Some ending.Killed }) u))
died c u pid number may killed =
    let e = death_entry pid number in
    let p = may.process in
    let dead = with_process (record p { descriptors = no_descriptors; ending = Some ending.Killed }) u in
    ap (λ o. option_map counted (after_of c u e o)) may.there
    ∙ ap (λ b. option_map counted (cond b (after_living c u p e None) None)) may.living
    ∙ ap (λ b. option_map counted (cond (b && not (is_some p.asking)) (Some dead) None)) killed
    ∙ ap (λ o. option_map counted (cond (not (is_some o)) (Some dead) None)) may.idle

-- a process's image, its calls and whatever else its home doesn't tell
pub at_its_call : (c : Description) (u : Unix) (table : Table) (pid number : ℕ) (called : Call) (calls : Calls c u pid number called) → AreInOrder u.processes → TellsTheSame table u → Leads table table u (called_in calls)
at_its_call c u table pid number called calls order h =
    let p = calls.may.process in
    let there : process_at u.processes p.pid ≡ Some p = subst (λ n. process_at u.processes n ≡ Some p) (sym (found_pid u.processes pid p calls.may.there)) calls.may.there in
    leads_alike table u p (called_by calls) order h there (record { pid = refl; parent = refl; ending = refl; waited = refl; killed = refl })

pub goes_by : (c : Description) (u v : Unix) (e : Entry) (table new : Table) → after c u e ≡ Some (counted v) → Leads table new u v → Goes c u e new
goes_by c u v e table new entered leads =
    record {
      later = counted v;
      entered = entered;
      order = leads.order;
      same = told_of new v (counted v) refl refl leads.same;
      others = λ other apart h. told_of other v (counted v) refl refl (leads.others other (λ is. apart (is ∙ sym leads.home)) h);
    }
