-- What an entry leaves as it is of other processes, and that an ended process makes no entry.
use Rattle.std.proofs.Common.{◌≡◌, ◌≢◌, ◌≤◌, ℕ, Bool, true, false, not, cond, List, [], ◌∷◌, ◌++◌, length, Option, Some, None, refl, sym, ap, subst, ◌∙◌, inl, inr}
use Rattle.std.specs.Prelude.{◌⊎◌, ◌==◌, ◌&&◌}
use Rattle.std.specs.Option.{option_map, is_some}
use Rattle.std.specs.List.{AllByRecursion}
use Rattle.std.proofs.lemmas.Bool.{true≢false}
use Rattle.std.proofs.lemmas.Bool.Decides.{eqb_tells}
use Rattle.sprite_ids.specs.declared.errno.Errno.{Errno}
use Rattle.sprite_ids.specs.declared.errno.Errno.TheVariants as errno
use Rattle.sprite_ids.specs.declared.running.Ending.{Ending}
use Rattle.sprite_ids.specs.declared.running.Ending.TheVariants as ending
use Rattle.sprite_ids.specs.Pid.{home_of}
use Rattle.sprite_ids.proofs.ListLaws.{some_is}
use Rattle.process_machine.specs.declared.call.Call.{Call}
use Rattle.process_machine.specs.declared.call.Call.TheVariants as call
use Rattle.process_machine.specs.declared.call.Reply.{Reply}
use Rattle.process_machine.specs.declared.call.Reply.TheVariants.{Value, Error}
use Rattle.unix_calls.specs.declared.description.Description.{Description}
use Rattle.unix_calls.specs.declared.entry.Entry.{Entry}
use Rattle.unix_calls.specs.declared.entry.Part.{Part}
use Rattle.unix_calls.specs.declared.entry.Part.TheVariants as part
use Rattle.unix_calls.specs.State.{Process, Unix, process_at, put_process, with_process, lives, no_descriptors}
use Rattle.unix_calls.specs.Answers.{nothing}
use Rattle.unix_calls.specs.ProcessCalls.{ended}
use Rattle.unix_calls.specs.Same.{same_call, same_reply}
use Rattle.unix_calls.specs.Boot.{boot_of}
use Rattle.unix_calls.specs.After.{may_fail, failed, after_whole, after_death, after_part, after_of, counted, after, state_from, state_of, legal}
use Rattle.unix_calls.specs.Laws.{StaysAs, is_last_call, is_last_part, is_last}
use Rattle.unix_calls.proofs.OutcomeLaws.{Others, Nobody, Child, Marked}
use Rattle.unix_calls.proofs.ProcessLaws.{put_there, put_others, found_pid, among_found}
use Rattle.unix_calls.proofs.NumberLaws.{Numbered, numbered_again, next_is_new, others_numbered, boot_numbered}
use Rattle.unix_calls.proofs.AfterLaws.{Steps, Yields, none_yields, yields_if, Stands, moved_stands, IsMoved, Still, Moved, found_yields, entered}
use Rattle.unix_calls.proofs.HistoryLaws.{kept, state_from-append, none_goes_on}

-- ---- other processes

-- a process is there after others changed
record StaysIn (q : Process) (pid : ℕ) (after : List Process) : Type 0 where
  now : Process
  there : process_at after pid ≡ Some now
  image : now.image ≡ q.image
  ending : now.ending ≡ q.ending

marked_stays : (old new q : Process) (ps : List Process) (pid : ℕ) → ((new.pid == pid) ≡ true × (new.pid ≡ pid)) ⊎ ((new.pid == pid) ≡ false × (new.pid ≢ pid)) → process_at ps old.pid ≡ Some old → new.pid ≡ old.pid → new.image ≡ old.image → new.ending ≡ old.ending → process_at ps pid ≡ Some q → StaysIn q pid (put_process new ps)
marked_stays old new q ps pid (inl same) found number image end there =
    let is : old ≡ q = some_is old q (sym found ∙ (ap (λ (n : ℕ). process_at ps n) (sym number ∙ same.1) ∙ there)) in
    record {
      now = new;
      there = subst (λ (n : ℕ). process_at (put_process new ps) n ≡ Some new) same.1 (put_there new ps);
      image = image ∙ ap (λ (p : Process). p.image) is;
      ending = end ∙ ap (λ (p : Process). p.ending) is;
    }
marked_stays old new q ps pid (inr other) found number image end there =
    record {
      now = q;
      there = put_others new ps pid other.1 ∙ there;
      image = refl;
      ending = refl;
    }

stays_in : (q : Process) (ps after : List Process) (home pid : ℕ) → Others ps home after → Numbered ps → process_at ps pid ≡ Some q → StaysIn q pid after
stays_in q ps after home pid (Nobody same) h there = record { now = q; there = ap (λ (l : List Process). process_at l pid) same ∙ there; image = refl; ending = refl }
stays_in q ps after home pid (Child child is few same) h there =
    let other : child.pid ≡ pid → ⊥ = λ (e : child.pid ≡ pid). let none : process_at ps pid ≡ None = ap (λ (n : ℕ). process_at ps n) (sym e ∙ is) ∙ next_is_new ps home few h.counted in absurd (cc) in
    record {
      now = q;
      there = ap (λ (l : List Process). process_at l pid) same ∙ (put_others child ps pid other ∙ there);
      image = refl;
      ending = refl;
    }
stays_in q ps after home pid (Marked old new among number image end same) h there =
    subst (StaysIn q pid) (sym same) (marked_stays old new q ps pid (eqb_tells new.pid pid) (among_found old ps h.ascending among) number image end there)

-- the caller of a step has the entry's number
caller_pid : (u later : Unix) (pid : ℕ) (s : Steps u pid later) → s.caller.pid ≡ pid
caller_pid u later pid s = s.own ∙ found_pid u.processes pid s.before s.there

numbered_step : (u later : Unix) (pid : ℕ) → Steps u pid later → Numbered u.processes → Numbered later.processes
numbered_step u later pid s h =
    let stays : StaysIn s.before pid s.between.processes = stays_in s.before u.processes s.between.processes (home_of s.before.pid) pid s.others h s.there in
    subst (λ (w : Unix). Numbered w.processes) (sym s.whole)
    (numbered_again s.caller stays.now s.between.processes (ap (λ (n : ℕ). process_at s.between.processes n) (caller_pid u later pid s) ∙ stays.there) (others_numbered u.processes s.between.processes (home_of s.before.pid) s.others h))

-- the process's own step to its call leaves the numbers
numbered_moved : (u first : Unix) (pid : ℕ) → IsMoved u pid first → Numbered u.processes → Numbered first.processes
numbered_moved u first pid (Still is) h = subst (λ (w : Unix). Numbered w.processes) (sym is) h
numbered_moved u first pid (Moved q s is) h =
    let number : q.pid ≡ pid = s.same ∙ found_pid u.processes pid s.before s.there in
    subst (λ (w : Unix). Numbered w.processes) (sym is)
    (numbered_again q s.before u.processes (ap (λ (n : ℕ). process_at u.processes n) number ∙ s.there) h)

pub numbered_after : (c : Description) (u v : Unix) (e : Entry) → after c u e ≡ Some v → Numbered u.processes → Numbered v.processes
numbered_after c u v e is h =
    let entry = entered c u v e is in
    subst (λ (w : Unix). Numbered w.processes) (sym entry.whole)
    (numbered_step entry.first entry.later e.pid entry.steps (numbered_moved u entry.first e.pid entry.moved h))

-- and the others
others_moved : (u first : Unix) (pid other : ℕ) → IsMoved u pid first → other ≢ pid → process_at first.processes other ≡ process_at u.processes other
others_moved u first pid other (Still is) differs = ap (λ (w : Unix). process_at w.processes other) is
others_moved u first pid other (Moved q s is) differs =
    let number : q.pid ≡ pid = s.same ∙ found_pid u.processes pid s.before s.there in
    ap (λ (w : Unix). process_at w.processes other) is ∙ put_others q u.processes other (λ (same : q.pid ≡ other). differs (sym same ∙ number))

-- an entry leaves the others' images and endings
stays_after : (c : Description) (u v : Unix) (e : Entry) (other : Process) (pid : ℕ) → after c u e ≡ Some v → Numbered u.processes → process_at u.processes pid ≡ Some other → pid ≢ e.pid → StaysIn other pid v.processes
stays_after c u v e other pid is h there differs =
    let entry = entered c u v e is in
    let s = entry.steps in
    let first = entry.first in
    let numbered : Numbered first.processes = numbered_moved u first e.pid entry.moved h in
    let stood : process_at first.processes pid ≡ Some other = others_moved u first e.pid pid entry.moved differs ∙ there in
    let stays : StaysIn other pid s.between.processes = stays_in other first.processes s.between.processes (home_of s.before.pid) pid s.others numbered stood in
    let apart : s.caller.pid ≡ pid → ⊥ = λ (same : s.caller.pid ≡ pid). differs (sym same ∙ caller_pid first entry.later e.pid s) in
    record {
      now = stays.now;
      there = ap (λ (w : Unix). process_at w.processes pid) entry.whole ∙ (ap (λ (w : Unix). process_at w.processes pid) s.whole ∙ (put_others s.caller s.between.processes pid apart ∙ stays.there));
      image = stays.image;
      ending = stays.ending;
    }

numbered_of : (c : Description) (journal : List Entry) (u : Unix) → length c.starts ≤ 200 → state_of c journal ≡ Some u → Numbered u.processes
numbered_of c journal u few is =
    kept c (λ (w : Unix). Numbered w.processes) (λ (w x : Unix) (e : Entry) (so : after c w e ≡ Some x) (h : Numbered w.processes). numbered_after c w x e so h) journal u (boot_numbered c few) is

pub others_stay : (c : Description) (journal : List Entry) (u v : Unix) (e : Entry) (other : Process) → length c.starts ≤ 200 → state_of c journal ≡ Some u → after c u e ≡ Some v → process_at u.processes other.pid ≡ Some other → other.pid ≢ e.pid → StaysAs other v
others_stay c journal u v e other few was is there differs =
    let stays : StaysIn other other.pid v.processes = stays_after c u v e other other.pid is (numbered_of c journal u few was) there differs in
    record {
      after = stays.now;
      there = stays.there;
      image = stays.image;
      ending = stays.ending;
    }

-- ---- ended processes

pub record HasEnded (u : Unix) (pid : ℕ) : Type 0 where
  pub process : Process
  pub there : process_at u.processes pid ≡ Some process
  pub over : lives process ≡ false

-- a call that isn't answered with a value has no failure either, where it ends its process
and_false : (b : Bool) → (b && false) ≡ false
and_false true = refl
and_false false = refl

exit_never_fails : (p : Process) (code : ℕ) (e : Errno) → may_fail p (call.Exit code) e ≡ false
exit_never_fails p code errno.Interrupted = and_false p.killed
exit_never_fails p code errno.Unreachable = refl
exit_never_fails p code _ = refl

bad_never_fails : (p : Process) (e : Errno) → may_fail p call.BadStep e ≡ false
bad_never_fails p errno.Interrupted = and_false p.killed
bad_never_fails p errno.Unreachable = refl
bad_never_fails p _ = refl

failed_by : (P : Unix → Type 0) (c : Description) (u : Unix) (p : Process) (called : Call) (reply : Reply) → ((e : Errno) → may_fail p called e ≡ false) → Yields P (failed c u p called reply)
failed_by P c u p called (Error e) never =
    yields_if P (may_fail p called e) _ _ (λ on. absurd (true≢false (sym on ∙ never e))) (λ off. none_yields P)
failed_by P c u p called (Value first second bytes) never = none_yields P

-- the caller of an end has ended
ended_there : (u : Unix) (pid : ℕ) (p q : Process) → Stands u pid p → q.pid ≡ p.pid → lives q ≡ false → HasEnded (counted (with_process q u)) pid
ended_there u pid p q s same over =
    let number : q.pid ≡ pid = same ∙ (s.same ∙ found_pid u.processes pid s.before s.there) in
    record {
      process = q;
      there = subst (λ (n : ℕ). process_at (put_process q u.processes) n ≡ Some q) number (put_there q u.processes);
      over = over;
    }

abbrev EndsIn : ℕ → Unix → Type 0
EndsIn pid later = HasEnded (counted later) pid

answered_end : (c : Description) (u : Unix) (pid : ℕ) (p : Process) (called : Call) (end : Ending) (reply : Reply) → Stands u pid p → ((e : Errno) → may_fail p called e ≡ false) → Yields (EndsIn pid) (cond (is_some p.asking) None (cond (same_reply nothing reply) (Some (with_process (ended p end) u)) (failed c u p called reply)))
answered_end c u pid p called end reply s never =
    yields_if (EndsIn pid) (is_some p.asking) _ _ (λ on. none_yields (EndsIn pid))
    (λ off. yields_if (EndsIn pid) (same_reply nothing reply) _ _ (λ on. record { holds = ended_there u pid p (ended p end) s refl refl }) (λ other. failed_by (EndsIn pid) c u p called reply never))

whole_end : (c : Description) (u : Unix) (pid : ℕ) (p : Process) (called : Call) (reply : Reply) → is_last_call called ≡ true → Stands u pid p → Yields (EndsIn pid) (after_whole c u p called reply)
whole_end c u pid p (call.Exit code) reply last s = answered_end c u pid p (call.Exit code) (ending.Exit code) reply s (exit_never_fails p code)
whole_end c u pid p call.BadStep reply last s = answered_end c u pid p call.BadStep ending.Bad reply s (bad_never_fails p)
whole_end c u pid p _ reply last s = absurd (true≢false (sym last))

last_called : (claimed called : Call) → is_last_call claimed ≡ true → same_call claimed called ≡ true → is_last_call called ≡ true
last_called (call.Exit code) (call.Exit other) last same = refl
last_called (call.Exit code) _ last same = absurd (true≢false (sym same))
last_called call.BadStep call.BadStep last same = refl
last_called call.BadStep _ last same = absurd (true≢false (sym same))
last_called _ called last same = absurd (true≢false (sym last))

part_end : (c : Description) (u : Unix) (pid : ℕ) (p : Process) (kind : Part) (claimed called : Call) (reply : Option Reply) → is_last_part kind (Some claimed) ≡ true → same_call claimed called ≡ true → Stands u pid p → Yields (EndsIn pid) (after_part c u p kind called reply)
part_end c u pid p part.Whole claimed called (Some reply) last same s = whole_end c u pid p called reply (last_called claimed called last same) s
part_end c u pid p part.Whole claimed called None last same s = none_yields (EndsIn pid)
part_end c u pid p part.Death claimed called reply last same s = none_yields (EndsIn pid)
part_end c u pid p part.Ask claimed called reply last same s = absurd (true≢false (sym last))
part_end c u pid p part.Done claimed called reply last same s = absurd (true≢false (sym last))

death_end : (u : Unix) (pid : ℕ) (p : Process) → Stands u pid p → Yields (EndsIn pid) (after_death u p)
death_end u pid p s =
    yields_if (EndsIn pid) (p.killed && not (is_some p.asking)) _ _
    (λ on. record { holds = ended_there u pid p (record p { descriptors = no_descriptors; ending = Some ending.Killed }) s refl refl })
    (λ off. none_yields (EndsIn pid))

end_by : (pid : ℕ) (o : Option Unix) (v : Unix) → Yields (EndsIn pid) o → option_map counted o ≡ Some v → HasEnded v pid
end_by pid None v h e = absurd (cc)
end_by pid (Some later) v h e = subst (λ (w : Unix). HasEnded w pid) (some_is (counted later) v e) h.holds

has_ended : (c : Description) (u v : Unix) (e : Entry) → after c u e ≡ Some v → is_last e ≡ true → HasEnded v e.pid
has_ended c u v e is last =
    end_by e.pid (after_of c u e (process_at u.processes e.pid)) v
    (found_yields (EndsIn e.pid) c u e (process_at u.processes e.pid)
    (λ q claimed called claims same s. part_end c (with_process q u) e.pid q e.part claimed called e.reply (subst (λ (o : Option Call). is_last_part e.part o ≡ true) claims last) same (moved_stands u e.pid q s))
    (λ q s there. death_end u e.pid q s) refl) is

-- who makes an entry lived before
pub record Lived (u : Unix) (pid : ℕ) : Type 0 where
  pub before : Process
  pub there : process_at u.processes pid ≡ Some before
  pub alive : lives before ≡ true

lived_by : (u first later : Unix) (pid : ℕ) → IsMoved u pid first → Steps first pid later → Lived u pid
lived_by u first later pid (Still is) s =
    record { before = s.before; there = subst (λ (w : Unix). process_at w.processes pid ≡ Some s.before) is s.there; alive = s.alive }
lived_by u first later pid (Moved q s is) steps = record { before = s.before; there = s.there; alive = s.alive }

-- an ended process makes no entry
ended_differs : (c : Description) (u v : Unix) (e : Entry) (pid : ℕ) → after c u e ≡ Some v → HasEnded u pid → e.pid ≢ pid
ended_differs c u v e pid is over =
    λ (same : e.pid ≡ pid).
    let entry = entered c u v e is in
    let s = lived_by u entry.first entry.later e.pid entry.moved entry.steps in
    let one : s.before ≡ over.process = some_is s.before over.process (sym s.there ∙ (ap (λ (n : ℕ). process_at u.processes n) same ∙ over.there)) in
    true≢false (sym s.alive ∙ (ap lives one ∙ over.over))

-- and stays ended
ended_stays : (c : Description) (u v : Unix) (e : Entry) (pid : ℕ) → after c u e ≡ Some v → Numbered u.processes → HasEnded u pid → HasEnded v pid
ended_stays c u v e pid is h over =
    let stays : StaysIn over.process pid v.processes = stays_after c u v e over.process pid is h over.there (λ (same : pid ≡ e.pid). ended_differs c u v e pid is over (sym same)) in
    record {
      process = stays.now;
      there = stays.there;
      over = ap (λ (o : Option Ending). not (is_some o)) stays.ending ∙ over.over;
    }

abbrev Silent : ℕ → Entry → Type 0
Silent pid later = later.pid ≢ pid

silent_by : (c : Description) (u : Unix) (e : Entry) (es : List Entry) (pid : ℕ) (o : Option Unix) → after c u e ≡ o → is_some (state_from c o es) ≡ true → Numbered u.processes → HasEnded u pid → ((v : Unix) → is_some (state_from c (Some v) es) ≡ true → Numbered v.processes → HasEnded v pid → AllByRecursion (Silent pid) es) → AllByRecursion (Silent pid) (e ∷ es)
silent_by c u e es pid None is some h over later = absurd (true≢false (sym some ∙ ap (λ (o : Option Unix). is_some o) (none_goes_on c es)))
silent_by c u e es pid (Some v) is some h over later =
    (ended_differs c u v e pid is over, later v some (numbered_after c u v e is h) (ended_stays c u v e pid is h over))

silent_from : (c : Description) (es : List Entry) (pid : ℕ) (u : Unix) → is_some (state_from c (Some u) es) ≡ true → Numbered u.processes → HasEnded u pid → AllByRecursion (Silent pid) es
silent_from c [] pid u some h over = tt
silent_from c (e ∷ es) pid u some h over =
    silent_by c u e es pid (after c u e) refl some h over (λ (v : Unix). silent_from c es pid v)

end_step : (c : Description) (behind : List Entry) (e : Entry) (u : Unix) (o : Option Unix) → after c u e ≡ o → Numbered u.processes → is_some (state_from c o behind) ≡ true → is_last e ≡ true → AllByRecursion (Silent e.pid) behind
end_step c behind e u None is h some last = absurd (true≢false (sym some ∙ ap (λ (o : Option Unix). is_some o) (none_goes_on c behind)))
end_step c behind e u (Some v) is h some last = silent_from c behind e.pid v some (numbered_after c u v e is h) (has_ended c u v e is last)

ended_by : (c : Description) (before behind : List Entry) (e : Entry) (o : Option Unix) → length c.starts ≤ 200 → state_of c before ≡ o → is_some (state_from c o (e ∷ behind)) ≡ true → is_last e ≡ true → AllByRecursion (Silent e.pid) behind
ended_by c before behind e None few was some last = absurd (true≢false (sym some))
ended_by c before behind e (Some u) few was some last = end_step c behind e u (after c u e) refl (numbered_of c before u few was) some last

pub ended_is_silent : (c : Description) (before behind : List Entry) (e : Entry) → length c.starts ≤ 200 → legal c (before ++ e ∷ behind) ≡ true → is_last e ≡ true → AllByRecursion (λ (later : Entry). later.pid ≢ e.pid) behind
ended_is_silent c before behind e few all last =
    ended_by c before behind e (state_of c before) few refl (ap (λ (o : Option Unix). is_some o) (sym (state_from-append c (Some (boot_of c)) before (e ∷ behind))) ∙ all) last
