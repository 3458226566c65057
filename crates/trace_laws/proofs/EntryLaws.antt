-- How processes stand behind each entry of a history.
use Rattle.std.proofs.Common.{◌≡◌, ◌≢◌, ◌∙◌, ◌≤◌, ℕ, ◌+◌, Bool, true, false, ◌&&◌, not, List, [], ◌∷◌, ◌++◌, length, Option, Some, None, refl, sym, ap, subst, inl, inr}
use Rattle.std.specs.Prelude.{◌==◌, ◌⊎◌}
use Rattle.std.specs.Option.{option_map, option_and_then, is_some}
use Rattle.std.proofs.lemmas.Bool.{true≢false}
use Rattle.std.proofs.lemmas.Bool.Decides.{eqb_tells}
use Rattle.sprite_ids.specs.Pid.{home_of}
use Rattle.sprite_ids.specs.declared.errno.Errno.{Errno}
use Rattle.sprite_ids.specs.declared.errno.Errno.TheVariants as errno
use Rattle.sprite_ids.specs.declared.running.Ending.TheVariants as ending
use Rattle.sprite_ids.proofs.ListLaws.{some_is}
use Rattle.process_machine.specs.declared.call.Call.{Call}
use Rattle.process_machine.specs.declared.call.Call.TheVariants as call
use Rattle.process_machine.specs.declared.call.Reply.{Reply}
use Rattle.process_machine.specs.declared.call.Reply.TheVariants.{Value, Error}
use Rattle.process_machine.specs.declared.program.Program.{Program}
use Rattle.process_machine.specs.Machine.{Machine}
use Rattle.process_machine.specs.Runs.{at_next_call, call_of_next}
use Rattle.unix_calls.specs.declared.Description.{Description}
use Rattle.unix_calls.specs.declared.Entry.{Entry}
use Rattle.unix_calls.specs.declared.entry.Part.{Part}
use Rattle.unix_calls.specs.declared.entry.Part.TheVariants as part
use Rattle.unix_calls.specs.declared.state.Device.{Device}
use Rattle.unix_calls.specs.declared.state.Process.{Process}
use Rattle.unix_calls.specs.State.{Unix, process_at, put_process, with_process, device_at, with_device, lives, no_descriptors}
use Rattle.unix_calls.specs.Answers.{Outcome, Answered, GoesTo, Waits, program_at, replied, refuses}
use Rattle.unix_calls.specs.DeviceCalls.{answer_for}
use Rattle.unix_calls.specs.Same.{same_call, same_reply}
use Rattle.unix_calls.specs.After.{outcome, may_fail, is_death_part, is_death, state_in, failed, with_reply, after_whole, asked, after_ask, answer_due, fetched, done_with, done_at, after_death, after_part, next_is, at_image, at_program, after_living, after_of, counted, after, state_of}
use Rattle.unix_calls.specs.Laws.{is_last_call}
use Rattle.unix_calls.proofs.SameLaws.{call_is}
use Rattle.unix_calls.proofs.ProcessLaws.{put_there, put_others, found_pid, among_found}
use Rattle.unix_calls.proofs.NumberLaws.{Numbered, numbered_again, next_is_new, boot_numbered}
use Rattle.unix_calls.proofs.AfterLaws.{Yields, none_yields, yields_if}
use Rattle.unix_calls.proofs.EndLaws.{numbered_after}
use Rattle.unix_calls.proofs.HistoryLaws.{kept}
use Rattle.trace_laws.specs.Numbers.{stood, standing_of, standing_in, standing_at, standing_by, asks_well, Counts, EntriesCount}
use Rattle.trace_laws.proofs.OutcomeLaws.{Beside, Nobody, Child, Marked, Puts, IsFree, Fair, fair_refuses, fair_outcome}
use Rattle.trace_laws.proofs.TruthLaws.{and_false, not_true}

-- ---- a failure

exit_never_fails : (p : Process) (code : ℕ) (e : Errno) → may_fail p (call.Exit code) e ≡ false
exit_never_fails p code errno.Interrupted = and_false p.killed
exit_never_fails p code errno.Unreachable = refl
exit_never_fails p code _ = refl

bad_never_fails : (p : Process) (e : Errno) → may_fail p call.BadStep e ≡ false
bad_never_fails p errno.Interrupted = and_false p.killed
bad_never_fails p errno.Unreachable = refl
bad_never_fails p _ = refl

-- a call that may fail doesn't end its process
fails_on : (p : Process) (called : Call) (e : Errno) → may_fail p called e ≡ true → is_last_call called ≡ false
fails_on p (call.Exit code) e h = absurd (true≢false (sym h ∙ exit_never_fails p code e))
fails_on p call.BadStep e h = absurd (true≢false (sym h ∙ bad_never_fails p e))
fails_on p _ e h = refl

-- ---- a part of an entry

-- behind the part of an entry of a process the state has it put so, and the call, where it was asked, doesn't end it
pub record Steps (u : Unix) (p : Process) (kind : Part) (called : Call) (later : Unix) : Type 0 where
  pub puts : Puts u p.pid (standing_by kind (Some called) (standing_of p)) later
  pub asks : asks_well kind (Some called) ≡ true

fair_state : (u : Unix) (p : Process) (called : Call) (o : Outcome) → IsFree p → Fair u p (is_last_call called) o → Yields (Steps u p part.Whole called) (state_in o)
fair_state u p called (Answered reply later) free fair = record { holds = record { puts = fair.counts free; asks = refl } }
fair_state u p called (GoesTo place) free fair = none_yields (Steps u p part.Whole called)
fair_state u p called Waits free fair = none_yields (Steps u p part.Whole called)

failed_steps : (c : Description) (u : Unix) (p : Process) (called : Call) (reply : Reply) → IsFree p → Yields (Steps u p part.Whole called) (failed c u p called reply)
failed_steps c u p called (Error e) free =
    yields_if (Steps u p part.Whole called) (may_fail p called e) _ _
    (λ on. fair_state u p called (refuses c u p e) free (subst (λ (b : Bool). Fair u p b (refuses c u p e)) (sym (fails_on p called e on)) (fair_refuses c u p e)))
    (λ off. none_yields (Steps u p part.Whole called))
failed_steps c u p called (Value first second bytes) free = none_yields (Steps u p part.Whole called)

reply_steps : (c : Description) (u : Unix) (p : Process) (called : Call) (o : Outcome) (reply : Reply) → IsFree p → Fair u p (is_last_call called) o → Yields (Steps u p part.Whole called) (with_reply c u p called o reply)
reply_steps c u p called (Answered due later) reply free fair =
    yields_if (Steps u p part.Whole called) (same_reply due reply) _ _ (λ on. fair_state u p called (Answered due later) free fair) (λ off. failed_steps c u p called reply free)
reply_steps c u p called (GoesTo place) reply free fair = failed_steps c u p called reply free
reply_steps c u p called Waits reply free fair = failed_steps c u p called reply free

whole_steps : (c : Description) (u : Unix) (p : Process) (called : Call) (reply : Reply) → is_some p.ending ≡ false → Yields (Steps u p part.Whole called) (after_whole c u p called reply)
whole_steps c u p called reply living =
    yields_if (Steps u p part.Whole called) (is_some p.asking) _ _ (λ on. none_yields (Steps u p part.Whole called))
    (λ off. reply_steps c u p called (outcome c u p called) reply (record { asks = off; lives = living }) (fair_outcome c u p called))

-- a call that goes to a device doesn't end its process
asked_steps : (u : Unix) (p : Process) (called : Call) (found : Option Device) → is_last_call called ≡ false → is_some p.ending ≡ false → Yields (Steps u p part.Ask called) (option_map (asked u p called) found)
asked_steps u p called None goes living = none_yields (Steps u p part.Ask called)
asked_steps u p called (Some device) goes living =
    record {
      holds = record {
        puts = record {
          between = record u { devices = with_device (record device { asks = device.asks ++ record { pid = p.pid; number = p.calls + 1; call = called } ∷ [] }) u.devices };
          caller = record p { asking = Some device.place };
          beside = Nobody refl;
          own = refl;
          stands = ap (λ b. stood p.calls true b) living;
          whole = refl;
        };
        asks = ap not goes;
      };
    }

goes_steps : (u : Unix) (p : Process) (called : Call) (o : Outcome) → is_last_call called ≡ false → is_some p.ending ≡ false → Yields (Steps u p part.Ask called) (after_ask u p called o)
goes_steps u p called (Answered reply later) goes living = none_yields (Steps u p part.Ask called)
goes_steps u p called (GoesTo place) goes living = asked_steps u p called (device_at u.devices place) goes living
goes_steps u p called Waits goes living = none_yields (Steps u p part.Ask called)

ask_steps : (c : Description) (u : Unix) (p : Process) (called : Call) → is_some p.ending ≡ false → Yields (Steps u p part.Ask called) (after_ask u p called (outcome c u p called))
ask_steps c u p (call.Exit code) living = none_yields (Steps u p part.Ask (call.Exit code))
ask_steps c u p call.BadStep living = none_yields (Steps u p part.Ask call.BadStep)
ask_steps c u p called living = goes_steps u p called (outcome c u p called) refl living

done_steps : (c : Description) (u : Unix) (p : Process) (called : Call) (device : Device) (reply : Reply) (due : Option Reply) → is_some p.ending ≡ false → Yields (Steps u p part.Done called) (done_with c u p device reply due)
done_steps c u p called device reply None living = none_yields (Steps u p part.Done called)
done_steps c u p called device reply (Some due) living =
    yields_if (Steps u p part.Done called) (same_reply due reply) _ _
    (λ on. record {
      holds = record {
        puts = record {
          between = fetched u p device;
          caller = replied c p reply;
          beside = Nobody refl;
          own = refl;
          stands = ap (λ b. stood (p.calls + 1) false b) living;
          whole = refl;
        };
        asks = refl;
      };
    })
    (λ off. none_yields (Steps u p part.Done called))

done_found : (c : Description) (u : Unix) (p : Process) (called : Call) (reply : Reply) (found : Option Device) → is_some p.ending ≡ false → Yields (Steps u p part.Done called) (option_and_then (done_at c u p reply) found)
done_found c u p called reply None living = none_yields (Steps u p part.Done called)
done_found c u p called reply (Some device) living =
    done_steps c u p called device reply (answer_due u p device (answer_for p.pid device.answers)) living

part_steps : (c : Description) (u : Unix) (p : Process) (kind : Part) (called : Call) (reply : Option Reply) → is_some p.ending ≡ false → Yields (Steps u p kind called) (after_part c u p kind called reply)
part_steps c u p part.Whole called (Some reply) living = whole_steps c u p called reply living
part_steps c u p part.Whole called None living = none_yields (Steps u p part.Whole called)
part_steps c u p part.Done called (Some reply) living = done_found c u p called reply (option_and_then (device_at u.devices) p.asking) living
part_steps c u p part.Done called None living = none_yields (Steps u p part.Done called)
part_steps c u p part.Ask called None living =
    yields_if (Steps u p part.Ask called) (is_some p.asking) _ _ (λ on. none_yields (Steps u p part.Ask called)) (λ off. ask_steps c u p called living)
part_steps c u p part.Ask called (Some reply) living = none_yields (Steps u p part.Ask called)
part_steps c u p part.Death called reply living = none_yields (Steps u p part.Death called)

-- ---- an entry

-- an entry of that process: it may have gone on to its call first
pub record Enters (u : Unix) (p : Process) (e : Entry) (later : Unix) : Type 0 where
  pub first : Unix
  pub moved : (pid : ℕ) → pid ≢ p.pid → standing_at first pid ≡ standing_at u pid
  pub numbered : Numbered u.processes → Numbered first.processes
  pub puts : Puts first p.pid (standing_by e.part e.call (standing_of p)) later
  pub asks : asks_well e.part e.call ≡ true

-- the process is put into the state at its call
at_call_enters : (u : Unix) (p : Process) (image : Machine) (e : Entry) (claimed called : Call) (later : Unix) → process_at u.processes p.pid ≡ Some p → e.call ≡ Some claimed → same_call claimed called ≡ true → Steps (with_process (record p { image = image }) u) (record p { image = image }) e.part called later → Enters u p e later
at_call_enters u p image e claimed called later there is same s =
    let q : Process = record p { image = image } in
    let told : Some called ≡ e.call = sym (ap (λ (x : Call). Some x) (call_is claimed called same)) ∙ sym is in
    record {
      first = with_process q u;
      moved = λ pid other. ap standing_in (put_others q u.processes pid (λ (e : p.pid ≡ pid). other (sym e)));
      numbered = numbered_again q p u.processes there;
      puts = subst (λ (o : Option Call). Puts (with_process q u) p.pid (standing_by e.part o (standing_of p)) later) told s.puts;
      asks = subst (λ (o : Option Call). asks_well e.part o ≡ true) told s.asks;
    }

mapped_yields : (P Q : Unix → Type 0) (o : Option Unix) → ((v : Unix) → P v → Q v) → Yields P o → Yields Q o
mapped_yields P Q None f h = none_yields Q
mapped_yields P Q (Some v) f h = record { holds = f v h.holds }

next_enters : (c : Description) (u : Unix) (p : Process) (image : Machine) (e : Entry) (claimed : Call) (found : Option Call) → process_at u.processes p.pid ≡ Some p → is_some p.ending ≡ false → e.call ≡ Some claimed → Yields (Enters u p e) (next_is c (with_process (record p { image = image }) u) (record p { image = image }) e claimed found)
next_enters c u p image e claimed None there living is = none_yields (Enters u p e)
next_enters c u p image e claimed (Some called) there living is =
    let q : Process = record p { image = image } in
    yields_if (Enters u p e) (same_call claimed called) _ _
    (λ on. mapped_yields (Steps (with_process q u) q e.part called) (Enters u p e) (after_part c (with_process q u) q e.part called e.reply) (λ (later : Unix). at_call_enters u p image e claimed called later there is on) (part_steps c (with_process q u) q e.part called e.reply living))
    (λ off. none_yields (Enters u p e))

image_enters : (c : Description) (u : Unix) (p : Process) (e : Entry) (program : Program) (claimed : Call) (found : Option Machine) → process_at u.processes p.pid ≡ Some p → is_some p.ending ≡ false → e.call ≡ Some claimed → Yields (Enters u p e) (at_image c u p e program claimed found)
image_enters c u p e program claimed None there living is = none_yields (Enters u p e)
image_enters c u p e program claimed (Some image) there living is =
    next_enters c u p image e claimed (call_of_next program (Some image)) there living is

program_enters : (c : Description) (u : Unix) (p : Process) (e : Entry) (claimed : Call) (found : Option Program) → process_at u.processes p.pid ≡ Some p → is_some p.ending ≡ false → e.call ≡ Some claimed → Yields (Enters u p e) (at_program c u p e claimed found)
program_enters c u p e claimed None there living is = none_yields (Enters u p e)
program_enters c u p e claimed (Some program) there living is = image_enters c u p e program claimed (at_next_call program p.image) there living is

-- a death
second : (a b : Bool) → (a && not b) ≡ true → b ≡ false
second true true h = absurd (true≢false (sym h))
second true false h = refl
second false b h = absurd (true≢false (sym h))

dead_part : (kind : Part) (reply : Option Reply) → is_death_part kind reply ≡ true → kind ≡ part.Death
dead_part part.Death reply h = refl
dead_part part.Whole reply h = absurd (true≢false (sym h))
dead_part part.Ask reply h = absurd (true≢false (sym h))
dead_part part.Done reply h = absurd (true≢false (sym h))

death_enters : (u : Unix) (p : Process) (e : Entry) → e.part ≡ part.Death → Yields (Enters u p e) (after_death u p)
death_enters u p e is =
    yields_if (Enters u p e) (p.killed && not (is_some p.asking)) _ _
    (λ on. record {
      holds = record {
        first = u;
        moved = λ pid other. refl;
        numbered = λ h. h;
        puts = record {
          between = u;
          caller = record p { descriptors = no_descriptors; ending = Some ending.Killed };
          beside = Nobody refl;
          own = refl;
          stands = ap (λ b. stood p.calls b true) (second p.killed (is_some p.asking) on) ∙ ap (λ (k : Part). standing_by k e.call (standing_of p)) (sym is);
          whole = refl;
        };
        asks = ap (λ (k : Part). asks_well k e.call) is;
      };
    })
    (λ off. none_yields (Enters u p e))

living_enters : (c : Description) (u : Unix) (p : Process) (e : Entry) (claimed : Option Call) → process_at u.processes p.pid ≡ Some p → is_some p.ending ≡ false → e.call ≡ claimed → Yields (Enters u p e) (after_living c u p e claimed)
living_enters c u p e None there living is =
    yields_if (Enters u p e) (is_death e) _ _ (λ on. death_enters u p e (dead_part e.part e.reply on)) (λ off. none_yields (Enters u p e))
living_enters c u p e (Some claimed) there living is =
    yields_if (Enters u p e) (e.number == p.calls + 1) _ _ (λ on. program_enters c u p e claimed (program_at c.programs p.image.number) there living is) (λ off. none_yields (Enters u p e))

-- who makes an entry is there
pub record Made (u : Unix) (e : Entry) (later : Unix) : Type 0 where
  pub before : Process
  pub there : process_at u.processes e.pid ≡ Some before
  pub enters : Enters u before e later

of_enters : (c : Description) (u : Unix) (e : Entry) (found : Option Process) → process_at u.processes e.pid ≡ found → Yields (Made u e) (after_of c u e found)
of_enters c u e None there = none_yields (Made u e)
of_enters c u e (Some p) there =
    yields_if (Made u e) (lives p) _ _
    (λ on. mapped_yields (Enters u p e) (Made u e) (after_living c u p e e.call) (λ (later : Unix) h. record { before = p; there = there; enters = h }) (living_enters c u p e e.call (ap (process_at u.processes) (found_pid u.processes e.pid p there) ∙ there) (not_true (is_some p.ending) on) refl))
    (λ off. none_yields (Made u e))

-- ---- how the others stand

abbrev SameOrNot : Process → ℕ → Type 0
SameOrNot q pid = ((q.pid == pid) ≡ true × (q.pid ≡ pid)) ⊎ ((q.pid == pid) ≡ false × (q.pid ≢ pid))

child_stands : (child : Process) (ps : List Process) (pid : ℕ) → SameOrNot child pid → process_at ps child.pid ≡ None → standing_of child ≡ stood 0 false false → standing_in (process_at (put_process child ps) pid) ≡ standing_in (process_at ps pid)
child_stands child ps pid (inl same) none stands =
    ap (λ n. standing_in (process_at (put_process child ps) n)) (sym same.1)
    ∙ (ap standing_in (put_there child ps) ∙ (stands ∙ (ap standing_in (sym none) ∙ ap (λ n. standing_in (process_at ps n)) same.1)))
child_stands child ps pid (inr other) none stands = ap standing_in (put_others child ps pid other.1)

marked_stands : (old new : Process) (ps : List Process) (pid : ℕ) → SameOrNot new pid → process_at ps new.pid ≡ Some old → standing_of new ≡ standing_of old → standing_in (process_at (put_process new ps) pid) ≡ standing_in (process_at ps pid)
marked_stands old new ps pid (inl same) there stands =
    ap (λ n. standing_in (process_at (put_process new ps) n)) (sym same.1)
    ∙ (ap standing_in (put_there new ps) ∙ (stands ∙ (ap standing_in (sym there) ∙ ap (λ n. standing_in (process_at ps n)) same.1)))
marked_stands old new ps pid (inr other) there stands = ap standing_in (put_others new ps pid other.1)

beside_stands : (ps after : List Process) (home pid : ℕ) → Beside ps home after → Numbered ps → standing_in (process_at after pid) ≡ standing_in (process_at ps pid)
beside_stands ps after home pid (Nobody same) h = ap (λ qs. standing_in (process_at qs pid)) same
beside_stands ps after home pid (Child child is few stands same) h =
    ap (λ qs. standing_in (process_at qs pid)) same
    ∙ child_stands child ps pid (eqb_tells child.pid pid) (ap (process_at ps) is ∙ next_is_new ps home few h.counted) stands
beside_stands ps after home pid (Marked old new among number stands same) h =
    ap (λ qs. standing_in (process_at qs pid)) same
    ∙ marked_stands old new ps pid (eqb_tells new.pid pid) (ap (process_at ps) number ∙ among_found old ps h.ascending among) stands

-- ---- all of an entry

counts_by : (u v later : Unix) (e : Entry) → Numbered u.processes → v ≡ counted later → Made u e later → Counts u v e
counts_by u v later e h is made =
    let enters = made.enters in
    let puts = enters.puts in
    let pid_is : made.before.pid ≡ e.pid = found_pid u.processes e.pid made.before made.there in
    let now : (pid : ℕ) → standing_at v pid ≡ standing_in (process_at (put_process puts.caller puts.between.processes) pid) = λ pid. ap (λ (w : Unix). standing_at w pid) is ∙ ap (λ (w : Unix). standing_at w pid) puts.whole in
    record {
      own =
          now e.pid
          ∙ (ap (λ n. standing_in (process_at (put_process puts.caller puts.between.processes) n)) (sym (puts.own ∙ pid_is))
          ∙ (ap standing_in (put_there puts.caller puts.between.processes)
          ∙ (puts.stands ∙ ap (λ (o : Option Process). standing_by e.part e.call (standing_in o)) (sym made.there))));
      asks = enters.asks;
      others = λ pid other.
          now pid
          ∙ (ap standing_in (put_others puts.caller puts.between.processes pid (λ (same : puts.caller.pid ≡ pid). other (sym same ∙ (puts.own ∙ pid_is))))
          ∙ (beside_stands enters.first.processes puts.between.processes (home_of made.before.pid) pid puts.beside (enters.numbered h)
          ∙ enters.moved pid (λ (same : pid ≡ made.before.pid). other (same ∙ pid_is))));
    }

counts_in : (u v : Unix) (e : Entry) (o : Option Unix) → Numbered u.processes → Yields (Made u e) o → option_map counted o ≡ Some v → Counts u v e
counts_in u v e None h yields is = absurd (cc)
counts_in u v e (Some later) h yields is = counts_by u v later e h (sym (some_is (counted later) v is)) yields.holds

pub entry_counts : (c : Description) (u v : Unix) (e : Entry) → Numbered u.processes → after c u e ≡ Some v → Counts u v e
entry_counts c u v e h is =
    counts_in u v e (after_of c u e (process_at u.processes e.pid)) h (of_enters c u e (process_at u.processes e.pid) refl) is

numbered_of : (c : Description) (journal : List Entry) (u : Unix) → length c.starts ≤ 200 → state_of c journal ≡ Some u → Numbered u.processes
numbered_of c journal u few is =
    kept c (λ (w : Unix). Numbered w.processes) (λ (w x : Unix) (e : Entry) (so : after c w e ≡ Some x) (h : Numbered w.processes). numbered_after c w x e so h) journal u (boot_numbered c few) is

pub entries_count : EntriesCount
entries_count c journal u v e few was is = entry_counts c u v e (numbered_of c journal u few was) is
