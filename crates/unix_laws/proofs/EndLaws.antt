-- What the end of a process takes away, and what it leaves.
use Rattle.std.proofs.Common.{◌≡◌, ℕ, Bool, true, false, ◌&&◌, ◌||◌, not, cond, List, [], ◌∷◌, Some, None, refl, sym, ap, ap₂, subst, ◌∙◌, arith}
use Rattle.std.specs.Prelude.{◌==◌}
use Rattle.std.specs.List.{AllByRecursion, list_any}
use Rattle.std.specs.Option.{is_some, option_map}
use Rattle.std.proofs.lemmas.Bool.{true≢false, eq-eqb, ne_eqb, and_parts}
use Rattle.sprite_ids.specs.declared.Ending.{Ending}
use Rattle.sprite_ids.specs.declared.Ending.TheVariants as ending
use Rattle.sprite_ids.specs.declared.Errno.{Errno}
use Rattle.sprite_ids.specs.declared.Errno.TheVariants as errno
use Rattle.process_machine.specs.declared.call.Call.{Call}
use Rattle.process_machine.specs.declared.call.Call.TheVariants as call
use Rattle.process_machine.specs.declared.call.Reply.{Reply}
use Rattle.unix_calls.specs.declared.Description.{Description}
use Rattle.unix_calls.specs.declared.Entry.{Entry}
use Rattle.unix_calls.specs.declared.entry.Part.TheVariants as part
use Rattle.unix_calls.specs.declared.state.Process.{Process}
use Rattle.unix_calls.specs.State.{Unix, holds_master_of, lives, no_descriptors, process_at, put_process, with_process}
use Rattle.unix_calls.specs.Answers.{Answered}
use Rattle.unix_calls.specs.ProcessCalls.{ended}
use Rattle.unix_calls.specs.After.{after, after_living, after_of, counted, may_break, may_fail, may_miss, outcome}
use Rattle.unix_calls.specs.Laws.{is_last, is_last_call, is_last_part}
use Rattle.unix_calls.proofs.ProcessLaws.{Ascending, Behind, Compared, Same, Less, More, at_other, compared, found_each, found_pid, put_again, put_more, put_others, put_same, put_there}
use Rattle.unix_frames.proofs.FrameLaws.{numbered_of}
use Rattle.unix_laws.specs.Ends.{DeathsTakeAway, DiesInFull, EndsInFull, EndsTakeAway, KilledMayDie}
use Rattle.unix_frames.proofs.EntryLaws.{Answers, Asks, Dies, Enters, Fails, Fetches, IsAt, opened}

-- ---- masters behind an end

any_behind : (test : Process → Bool) (n : ℕ) (ps : List Process) → AllByRecursion (Behind n) ps → list_any (λ (p : Process). not (p.pid == n) && test p) ps ≡ list_any test ps
any_behind test n [] h = refl
any_behind test n (p ∷ ps) h =
    ap₂ (λ a b. a || b) (ap (λ b. not b && test p) (ne_eqb p.pid n (λ same. let e : p.pid ≡ n = same in omega (arith, e, h.0)))) (any_behind test n ps h.1)

any_put_by : (test : Process → Bool) (r old q : Process) (qs : List Process) → test r ≡ false → Compared r.pid q.pid → AllByRecursion (Behind q.pid) qs → process_at (q ∷ qs) r.pid ≡ Some old
    → (process_at qs r.pid ≡ Some old → list_any test (put_process r qs) ≡ list_any (λ (p : Process). not (p.pid == r.pid) && test p) qs)
    → list_any test (put_process r (q ∷ qs)) ≡ list_any (λ (p : Process). not (p.pid == r.pid) && test p) (q ∷ qs)
any_put_by test r old q qs none (Same same) behind there rest =
    ap (list_any test) (put_same r q qs same)
    ∙ ap (λ b. b || list_any test qs) none
    ∙ sym (ap₂ (λ a b. a || b) (ap (λ b. not b && test q) (eq-eqb q.pid r.pid (sym same))) (ap (λ n. list_any (λ (p : Process). not (p.pid == n) && test p) qs) same ∙ any_behind test q.pid qs behind))
any_put_by test r old q qs none (Less less) behind there rest =
    let further : process_at qs r.pid ≡ Some old = sym (at_other q qs r.pid (λ (same : q.pid ≡ r.pid). omega (arith, same, less))) ∙ there in
    absurd (omega (arith, less, found_pid qs r.pid old further, found_each (Behind q.pid) qs r.pid old behind further))
any_put_by test r old q qs none (More more) behind there rest =
    let further : process_at qs r.pid ≡ Some old = sym (at_other q qs r.pid (λ (same : q.pid ≡ r.pid). omega (arith, same, more))) ∙ there in
    ap (list_any test) (put_more r q qs more)
    ∙ ap₂ (λ a b. a || b) (sym (ap (λ b. not b && test q) (ne_eqb q.pid r.pid (λ (same : q.pid ≡ r.pid). omega (arith, same, more))))) (rest further)

-- who is left where one that isn't so takes another's place
any_put : (test : Process → Bool) (r old : Process) (ps : List Process) → test r ≡ false → Ascending ps → process_at ps r.pid ≡ Some old → list_any test (put_process r ps) ≡ list_any (λ (p : Process). not (p.pid == r.pid) && test p) ps
any_put test r old [] none order there = absurd (cc)
any_put test r old (q ∷ qs) none order there = any_put_by test r old q qs none (compared r.pid q.pid) order.0 there (any_put test r old qs none order.1)

-- ---- an end

-- what the calls that end their process come to
pub record Last (w : Unix) (q : Process) (later : Unix) : Type 0 where
  pub how : Ending
  pub is : later ≡ with_process (ended q how) w

answered_later : (a b : Reply) (x y : Unix) → Answered a x ≡ Answered b y → y ≡ x
answered_later a b x y h = cc

last_outcome : (c : Description) (w : Unix) (q : Process) (called : Call) (reply : Reply) (later : Unix) → is_last_call called ≡ true → outcome c w q called ≡ Answered reply later → Last w q later
last_outcome c w q (call.Exit code) reply later last is = record { how = ending.Exit code; is = answered_later _ reply _ later is }
last_outcome c w q call.BadStep reply later last is = record { how = ending.Bad; is = answered_later _ reply _ later is }
last_outcome c w q _ reply later last is = absurd (true≢false (sym last))

-- and they don't fail
pub record Sure (q : Process) (called : Call) : Type 0 where
  pub miss : may_miss q called ≡ false
  pub break : may_break called ≡ false

last_sure : (q : Process) (called : Call) → is_last_call called ≡ true → Sure q called
last_sure q (call.Exit code) last = record { miss = refl; break = refl }
last_sure q call.BadStep last = record { miss = refl; break = refl }
last_sure q _ last = absurd (true≢false (sym last))

sure_fails : (q : Process) (called : Call) (error : Errno) → Sure q called → may_fail q called error ≡ true → ⊥
sure_fails q called errno.Unreachable sure may = true≢false (sym may ∙ sure.miss)
sure_fails q called errno.Interrupted sure may = true≢false (sym (and_parts q.killed (may_break called) may).1 ∙ sure.break)
sure_fails q called _ sure may = true≢false (sym may)

-- one that has ended takes its process's place
ends_so : (u later : Unix) (e : Entry) (before after : Process) (how : Ending) → Ascending u.processes → process_at u.processes e.pid ≡ Some before → lives before ≡ true → before.asking ≡ None
    → after ≡ record before { image = after.image; calls = after.calls; descriptors = no_descriptors; ending = Some how } → later ≡ with_process after u → EndsInFull u (counted later) e
ends_so u later e before after how order there lived idle whole is =
    let number : before.pid ≡ e.pid = found_pid u.processes e.pid before there in
    let own : after.pid ≡ e.pid = ap (λ (p : Process). p.pid) whole ∙ number in
    let here : process_at u.processes after.pid ≡ Some before = ap (process_at u.processes) own ∙ there in
    record {
      before = before;
      after = after;
      how = how;
      there = there;
      lived = lived;
      idle = idle;
      now = ap (λ (x : Unix). process_at x.processes e.pid) is ∙ ap (process_at (put_process after u.processes)) (sym own) ∙ put_there after u.processes;
      whole = whole;
      others = λ pid apart. ap (λ (x : Unix). process_at x.processes pid) is ∙ put_others after u.processes pid (λ same. apart (sym same ∙ own));
      masters = λ device.
          let none : holds_master_of u.streams device after ≡ false = ap (holds_master_of u.streams device) whole in
          ap (λ (x : Unix). list_any (holds_master_of x.streams device) x.processes) is
          ∙ any_put (holds_master_of u.streams device) after before u.processes none order here
          ∙ ap (λ n. list_any (λ (p : Process). not (p.pid == n) && holds_master_of u.streams device p) u.processes) own;
      devices = ap (λ (x : Unix). x.devices) is;
      names = ap (λ (x : Unix). x.nodes) is;
      files = ap (λ (x : Unix). x.files) is;
      streams = ap (λ (x : Unix). x.streams) is;
      ticks = ap (λ (x : Unix). x.ticks) is;
    }

-- by a call
call_ends : (c : Description) (u later : Unix) (e : Entry) (q : Process) (called : Call) → Ascending u.processes → IsAt c u e q called → q.asking ≡ None → Last (with_process q u) q later → EndsInFull u (counted later) e
call_ends c u later e q called order at idle last =
    let p = at.before in
    let after : Process = ended (record p { image = at.image }) last.how in
    let is : later ≡ with_process after u =
    last.is ∙ ap (λ (l : List Process). record u { processes = l }) (put_again (ended q last.how) q u.processes refl) ∙ ap (λ (k : Process). with_process (ended k last.how) u) at.whole in
    ends_so u later e p after last.how order at.there at.alive (sym (ap (λ (k : Process). k.asking) at.whole) ∙ idle) refl is

is_of_part : (e : Entry) (called : Call) → e.part ≡ part.Whole → e.call ≡ Some called → is_last e ≡ true → is_last_call called ≡ true
is_of_part e called whole is last = sym (ap₂ is_last_part whole is) ∙ last

enters_end : (c : Description) (u later : Unix) (e : Entry) → Ascending u.processes → is_last e ≡ true → Enters c u e later → EndsInFull u (counted later) e
enters_end c u later e order last (Answers q called reply at whole given idle is) =
    call_ends c u later e q called order at idle (last_outcome c (with_process q u) q called reply later (is_of_part e called whole at.claimed last) is)
enters_end c u later e order last (Fails q called error at whole given idle may is) =
    absurd (sure_fails q called error (last_sure q called (is_of_part e called whole at.claimed last)) may)
enters_end c u later e order last (Asks q called place device at ask given idle goes there is) = absurd (true≢false (sym last ∙ ap (λ k. is_last_part k e.call) ask))
enters_end c u later e order last (Fetches q called place device reply at done given busy there due is) = absurd (true≢false (sym last ∙ ap (λ k. is_last_part k e.call) done))
enters_end c u later e order last (Dies p there alive killed idle dead none given is) =
    ends_so u later e p (record p { descriptors = no_descriptors; ending = Some ending.Killed }) ending.Killed order there alive idle refl is

pub ends_take_away : EndsTakeAway
ends_take_away c journal u v e few was is last =
    let o = opened c u v e is in
    subst (λ (x : Unix). EndsInFull u x e) (sym o.whole) (enters_end c u o.later e (numbered_of c journal u few was).ascending last o.enters)

-- ---- a death

enters_death : (c : Description) (u later : Unix) (e : Entry) → Ascending u.processes → e.part ≡ part.Death → Enters c u e later → DiesInFull u (counted later) e
unfolding ends_so
enters_death c u later e order death (Answers q called reply at whole given idle is) = absurd (let two : part.Death ≡ part.Whole = sym death ∙ whole in cc)
enters_death c u later e order death (Fails q called error at whole given idle may is) = absurd (let two : part.Death ≡ part.Whole = sym death ∙ whole in cc)
enters_death c u later e order death (Asks q called place device at ask given idle goes there is) = absurd (let two : part.Death ≡ part.Ask = sym death ∙ ask in cc)
enters_death c u later e order death (Fetches q called place device reply at done given busy there due is) = absurd (let two : part.Death ≡ part.Done = sym death ∙ done in cc)
enters_death c u later e order death (Dies p there alive killed idle dead none given is) =
    record {
      ends = ends_so u later e p (record p { descriptors = no_descriptors; ending = Some ending.Killed }) ending.Killed order there alive idle refl is;
      killed = killed;
      so = refl;
      call = none;
      reply = given;
    }

pub deaths_take_away : DeathsTakeAway
deaths_take_away c journal u v e few was is death =
    let o = opened c u v e is in
    subst (λ (x : Unix). DiesInFull u x e) (sym o.whole) (enters_death c u o.later e (numbered_of c journal u few was).ascending death o.enters)

pub killed_may_die : KilledMayDie
killed_may_die c u p pid number there alive killed idle =
    let e : Entry = record { pid = pid; number = number; part = part.Death; call = None; reply = None } in
    ap (λ o. is_some (option_map counted (after_of c u e o))) there
    ∙ ap (λ b. is_some (option_map counted (cond b (after_living c u p e None) None))) alive
    ∙ ap (λ b. is_some (option_map counted (cond (b && not (is_some p.asking)) (Some (with_process (record p { descriptors = no_descriptors; ending = Some ending.Killed }) u)) None))) killed
    ∙ ap (λ o. is_some (option_map counted (cond (not (is_some o)) (Some (with_process (record p { descriptors = no_descriptors; ending = Some ending.Killed }) u)) None))) idle
