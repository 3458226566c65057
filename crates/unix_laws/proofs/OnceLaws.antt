-- Each ask is answered once; the dead stay dead.
use Rattle.std.proofs.Common.{◌≡◌, ◌≢◌, ◌≤◌, ◌+◌, ℕ, Bool, true, false, ◌&&◌, ◌||◌, not, cond, List, [], ◌∷◌, ◌++◌, length, Option, Some, None, refl, sym, ap, ap₂, subst, ◌∙◌, arith, inl, inr, length-append}
use Rattle.std.specs.Prelude.{◌⊎◌, ◌==◌}
use Rattle.std.specs.List.{AllByRecursion, list_any}
use Rattle.std.specs.Option.{is_some}
use Rattle.std.proofs.lemmas.Bool.{cases_Bool, true≢false, eqb-true, eq-eqb, ne_eqb, or_parts}
use Rattle.sprite_ids.specs.Pid.{home_of}
use Rattle.sprite_ids.proofs.ListLaws.{each_weaken, some_is}
use Rattle.process_machine.specs.declared.call.Call.{Call}
use Rattle.process_machine.specs.declared.call.Reply.{Reply}
use Rattle.process_machine.specs.declared.call.Reply.TheVariants.{Error}
use Rattle.unix_calls.specs.declared.Description.{Description}
use Rattle.unix_calls.specs.declared.Entry.{Entry}
use Rattle.unix_calls.specs.declared.entry.Part.TheVariants as part
use Rattle.unix_calls.specs.declared.state.Answer.{Answer}
use Rattle.unix_calls.specs.declared.state.Ask.{Ask}
use Rattle.unix_calls.specs.declared.state.Device.{Device}
use Rattle.unix_calls.specs.declared.state.Process.{Process}
use Rattle.unix_calls.specs.declared.state.Stream.{Stream}
use Rattle.unix_calls.specs.State.{Unix, device_at, holds_master_of, is_alive, lives, process_at, put_process, with_process}
use Rattle.unix_calls.specs.Answers.{replied}
use Rattle.unix_calls.specs.Boot.{boot_of}
use Rattle.unix_calls.specs.DeviceCalls.{answer_for, without_answer}
use Rattle.unix_calls.specs.After.{after, answer_due, counted, outcome}
use Rattle.unix_calls.proofs.ProcessLaws.{Compared, Less, More, Same, at_other, at_same, compared, found_each, found_pid, put_less, put_more, put_same, put_there}
use Rattle.unix_calls.proofs.NumberLaws.{Numbered, boot_numbered}
use Rattle.unix_calls.proofs.EndLaws.{numbered_after}
use Rattle.unix_calls.proofs.HistoryLaws.{kept}
use Rattle.unix_frames.proofs.FrameLaws.{leaves_by}
use Rattle.unix_laws.specs.Asks.{Fetches, Leaves, Moves, Queues, Stays, Takes, ask_in, answered_of, asking_of, hand, is_ask, is_inside, is_master_in, line_of, made_by}
use Rattle.unix_laws.specs.Once.{AsksAreAnsweredOnce, AsksStandOnce, TheDeadStayDead, answers_of, asks_of, inside_of}
use Rattle.unix_laws.specs.Streams.{is_living_holder, leads_to}
use Rattle.unix_frames.proofs.EntryLaws.{Answers, Asks, Dies, Enters, Fails, IsAt, opened}
use Rattle.unix_frames.proofs.EntryLaws as entry
use Rattle.unix_laws.proofs.AnswerLaws.{said}
use Rattle.unix_laws.proofs.ReplyLaws.{Answer as Told, each_call}
use Rattle.unix_laws.proofs.SpreadLaws.{Doubles, Frees, Keeps, Opens, Own, Spreads, Stops, enters_each, has_device}
use Rattle.unix_laws.proofs.StreamLaws.{Each, IsBare, IsFree, Sound, alive_same, sound_after, sound_boot, sound_state, spreads}
use Rattle.unix_laws.proofs.BootLaws.{boot_processes}
use Rattle.unix_laws.proofs.DeviceLaws.{GoesOn, answers_in, device_place, enters_none, enters_on}

-- ---- the dead stay dead

all_false : (test : Process → Bool) (ps : List Process) → list_any test ps ≡ false → AllByRecursion (λ (p : Process). test p ≡ false) ps
all_false test [] h = tt
all_false test (p ∷ ps) h = ((or_parts (test p) (list_any test ps) h).0, all_false test ps (or_parts (test p) (list_any test ps) h).1)

-- a descriptor leads elsewhere
abbrev LeadsOn : ℕ → ℕ → Option ℕ → Type 0
LeadsOn place home d = leads_to place d ≡ false

none_leads : (place : ℕ) (ds : List (Option ℕ)) → list_any (leads_to place) ds ≡ false → (home : ℕ) → AllByRecursion (LeadsOn place home) ds
none_leads place [] h home = tt
none_leads place (d ∷ ds) h home = ((or_parts (leads_to place d) (list_any (leads_to place) ds) h).0, none_leads place ds (or_parts (leads_to place d) (list_any (leads_to place) ds) h).1 home)

leads_none : (place home : ℕ) (ds : List (Option ℕ)) → AllByRecursion (LeadsOn place home) ds → list_any (leads_to place) ds ≡ false
leads_none place home [] h = refl
leads_none place home (d ∷ ds) h = ap₂ (λ a b. a || b) h.0 (leads_none place home ds h.1)

free_leads : (place home : ℕ) (ds : List (Option ℕ)) → AllByRecursion IsFree ds → AllByRecursion (LeadsOn place home) ds
free_leads place home ds h = each_weaken IsFree (LeadsOn place home) ds (λ d free. ap (leads_to place) free) h

nobody_holds : (place : ℕ) (ps : List Process) → AllByRecursion (λ (p : Process). is_living_holder place p ≡ false) ps → AllByRecursion IsBare ps → AllByRecursion (Each (LeadsOn place)) ps
nobody_holds place [] h bare = tt
nobody_holds place (p ∷ ps) h bare = (by (lives p) refl, nobody_holds place ps h.1 bare.1)
  where
    by : (b : Bool) → lives p ≡ b → AllByRecursion (LeadsOn place (home_of p.pid)) p.descriptors
    by true alive = none_leads place p.descriptors (ap (λ b. b && list_any (leads_to place) p.descriptors) (sym alive) ∙ h.0) (home_of p.pid)
    by false dead = free_leads place (home_of p.pid) p.descriptors (bare.0 dead)

any_nobody : (place : ℕ) (ps : List Process) → AllByRecursion (Each (LeadsOn place)) ps → list_any (is_living_holder place) ps ≡ false
any_nobody place [] h = refl
any_nobody place (p ∷ ps) h = ap₂ (λ a b. a || b) (ap (λ b. lives p && b) (leads_none place (home_of p.pid) p.descriptors h.0) ∙ never (lives p)) (any_nobody place ps h.1)
  where
    never : (b : Bool) → (b && false) ≡ false
    never true = refl
    never false = refl

enters_dead : (c : Description) (u later : Unix) (e : Entry) (place : ℕ) → Enters c u e later → Sound u → has_device u.devices place ≡ true → is_alive u place ≡ false → AllByRecursion (Each (LeadsOn place)) later.processes
enters_dead c u later e place enters h there dead =
    enters_each (Each (LeadsOn place)) (Each (LeadsOn place)) c u later e enters
    (spreads (LeadsOn place) (LeadsOn place) u.streams later.streams u.entries e.pid
    (record {
      none = λ home. refl;
      stays = λ home d leads. leads;
      new = λ made. ne_eqb u.entries place (λ same. let is : u.entries ≡ place = same in true≢false (sym there ∙ h.shape.fresh_devices place (omega (arith, is))));
    }))
    (nobody_holds place u.processes (all_false (is_living_holder place) u.processes (sym (alive_same u h place there) ∙ dead)) h.bare)

-- a device that was there is there
still_device : (c : Description) (u v : Unix) (e : Entry) (place : ℕ) → after c u e ≡ Some v → has_device u.devices place ≡ true → has_device v.devices place ≡ true
still_device c u v e place is there = by (device_at u.devices place) refl there
  where
    by : (found : Option Device) → device_at u.devices place ≡ found → is_some found ≡ true → has_device v.devices place ≡ true
    by None e_is there = absurd (true≢false (sym there))
    by (Some before) e_is there =
        let o = opened c u v e is in
        let g = (enters_on c u o.later e place before o.enters e_is).goes in
        ap (λ (x : Unix). has_device x.devices place) o.whole ∙ ap (λ d. is_some d) g.there

pub dead_after : (c : Description) (u v : Unix) (e : Entry) (place : ℕ) → after c u e ≡ Some v → Sound u → has_device u.devices place ≡ true → is_alive u place ≡ false → is_alive v place ≡ false
dead_after c u v e place is h there dead =
    let o = opened c u v e is in
    alive_same v (sound_after c u v e is h) place (still_device c u v e place is there)
    ∙ ap (λ (x : Unix). list_any (is_living_holder place) x.processes) o.whole
    ∙ any_nobody place o.later.processes (enters_dead c u o.later e place o.enters h there dead)

pub the_dead_stay_dead : TheDeadStayDead
the_dead_stay_dead c journal u v e place was is there dead = dead_after c u v e place is (sound_state c journal u was) there dead

-- ---- who is inside

-- another process is where it was
asked_of : (place : ℕ) (p q : Option Process) → asking_of p ≡ asking_of q → inside_of place p ≡ inside_of place q
asked_of place p q same = ap (λ o. cond {A = ℕ} (is_inside place o) 1 0) same

each_known : (all ps : List Process) → ((p : Process) → is_some (process_at ps p.pid) ≡ true → is_some (process_at all p.pid) ≡ true) → AllByRecursion (λ (p : Process). is_some (process_at all p.pid) ≡ true) ps
each_known all [] on = tt
each_known all (p ∷ ps) on =
    (on p (ap (λ b. is_some (cond b (Some p) (process_at ps p.pid))) (eq-eqb p.pid p.pid refl)), each_known all ps (λ q known. on q (by q (p.pid == q.pid) known)))
  where
    by : (q : Process) (b : Bool) → is_some (process_at ps q.pid) ≡ true → is_some (cond b (Some p) (process_at ps q.pid)) ≡ true
    by q true known = refl
    by q false known = known

abbrev IsNew : Unix → ℕ → Process → Type 0
IsNew u pid r = r.pid ≢ pid → (r.asking ≡ None) ⊎ (is_some (process_at u.processes r.pid) ≡ true)

news : (u : Unix) (now : List Stream) (pid : ℕ) → Spreads (λ (p : Process). is_some (process_at u.processes p.pid) ≡ true) (IsNew u pid) u.streams now u.entries pid
news u now pid =
    record {
      image = λ p m h. h;
      own = λ p r mine alive h own apart. absurd (apart (own_pid p r own ∙ mine));
      marked = λ p killed waited h apart. inr h;
      born = λ p child h home parent fresh apart. inl fresh.asking;
    }
  where
    own_pid : (p r : Process) → Own u.streams now u.entries p r → r.pid ≡ p.pid
    own_pid p r (Keeps number parent end same) = number
    own_pid p r (Frees fd leads) = leads.alike.pid
    own_pid p r (Doubles fd free stream found leads) = leads.alike.pid
    own_pid p r (Opens fd there leads) = leads.alike.pid
    own_pid p r (Stops number parent none dead) = number

others_inside : (c : Description) (u v : Unix) (e : Entry) (place pid : ℕ) → after c u e ≡ Some v → Numbered u.processes → pid ≢ e.pid → inside_of place (process_at v.processes pid) ≡ inside_of place (process_at u.processes pid)
others_inside c u v e place pid is numbered apart = by (process_at u.processes pid) refl (process_at v.processes pid) refl
  where
    by : (was : Option Process) → process_at u.processes pid ≡ was → (now : Option Process) → process_at v.processes pid ≡ now → inside_of place now ≡ inside_of place was
    by (Some p) was_is now now_is =
        let mine : p.pid ≡ pid = found_pid u.processes pid p was_is in
        let k = (leaves_by c u v e numbered is).others p (ap (process_at u.processes) mine ∙ was_is) (λ same. apart (sym mine ∙ same)) in
        ap (inside_of place) (sym now_is ∙ ap (process_at v.processes) (sym mine) ∙ k.there) ∙ asked_of place (Some k.after) (Some p) (ap (λ (x : Process). x.asking) k.whole)
    by None was_is None now_is = refl
    by None was_is (Some r) now_is =
        let o = opened c u v e is in
        let all = enters_each (λ (p : Process). is_some (process_at u.processes p.pid) ≡ true) (IsNew u e.pid) c u o.later e o.enters (news u o.later.streams e.pid) (each_known u.processes u.processes (λ p known. known)) in
        let found : process_at o.later.processes pid ≡ Some r = sym (ap (λ (x : Unix). process_at x.processes pid) o.whole) ∙ now_is in
        let mine : r.pid ≡ pid = found_pid o.later.processes pid r found in
        elim (found_each (IsNew u e.pid) o.later.processes pid r all found (λ same. apart (sym mine ∙ same))) [
          | inl none ↦ asked_of place (Some r) None none
          | inr known ↦ absurd (true≢false (sym known ∙ ap (λ n. is_some (process_at u.processes n)) mine ∙ ap (λ o. is_some o) was_is))
        ]

-- what an entry does to its own process: it is inside nothing before and after; it goes into a device's operation; or it comes out of one
pub data Turn (u v : Unix) (e : Entry) : Type 0 where
  Idle : asking_of (process_at u.processes e.pid) ≡ None → asking_of (process_at v.processes e.pid) ≡ None → (e.part ≡ part.Ask → ⊥) → (e.part ≡ part.Done → ⊥) → Turn u v e
  Goes_in : (at : ℕ) → asking_of (process_at u.processes e.pid) ≡ None → asking_of (process_at v.processes e.pid) ≡ Some at → has_device u.devices at ≡ true → e.part ≡ part.Ask → is_some e.call ≡ true → Turn u v e
  Comes_out : (at : ℕ) (device : Device) → asking_of (process_at u.processes e.pid) ≡ Some at → asking_of (process_at v.processes e.pid) ≡ None → device_at u.devices at ≡ Some device → e.part ≡ part.Done → (answer_for e.pid device.answers ≡ None → is_alive v at ≡ true → ⊥) → Turn u v e

-- the caller is put last
put_last : (later w : Unix) (e : Entry) (r : Process) → r.pid ≡ e.pid → later ≡ with_process r w → asking_of (process_at later.processes e.pid) ≡ r.asking
put_last later w e r own is = ap asking_of (ap (λ (x : Unix). process_at x.processes e.pid) is ∙ ap (process_at (put_process r w.processes)) (sym own) ∙ put_there r w.processes)

pub own_pid : (c : Description) (u : Unix) (e : Entry) (q : Process) (called : Call) → IsAt c u e q called → q.pid ≡ e.pid
own_pid c u e q called at = ap (λ (p : Process). p.pid) at.whole ∙ found_pid u.processes e.pid at.before at.there

was_asking : (c : Description) (u : Unix) (e : Entry) (q : Process) (called : Call) → IsAt c u e q called → asking_of (process_at u.processes e.pid) ≡ q.asking
was_asking c u e q called at = ap asking_of at.there ∙ sym (ap (λ (p : Process). p.asking) at.whole)

pub no_ask_part : (e : Entry) → e.part ≡ part.Whole → e.part ≡ part.Ask → ⊥
no_ask_part e whole ask = let two : part.Whole ≡ part.Ask = sym whole ∙ ask in absurd (cc)

no_done_part : (e : Entry) → e.part ≡ part.Whole → e.part ≡ part.Done → ⊥
no_done_part e whole done = let two : part.Whole ≡ part.Done = sym whole ∙ done in absurd (cc)

-- where one takes the place of another that is alike
any_again_by : (test : Process → Bool) (q p x : Process) (ps : List Process) → Compared q.pid x.pid → test q ≡ test p → process_at (x ∷ ps) q.pid ≡ Some p → list_any test (put_process q (x ∷ ps)) ≡ false → (process_at ps q.pid ≡ Some p → list_any test (put_process q ps) ≡ false → list_any test ps ≡ false)
    → list_any test (x ∷ ps) ≡ false
any_again_by test q p x ps (Same e) same there h rest =
    let both : (test q || list_any test ps) ≡ false = sym (ap (list_any test) (put_same q x ps e)) ∙ h in
    let is : x ≡ p = some_is x p (sym (at_same x ps q.pid (sym e)) ∙ there) in
    ap₂ (λ a b. a || b) (ap test is ∙ sym same ∙ (or_parts (test q) (list_any test ps) both).0) (or_parts (test q) (list_any test ps) both).1
any_again_by test q p x ps (Less e) same there h rest =
    (or_parts (test q) (list_any test (x ∷ ps)) (sym (ap (list_any test) (put_less q x ps e)) ∙ h)).1
any_again_by test q p x ps (More e) same there h rest =
    let both : (test x || list_any test (put_process q ps)) ≡ false = sym (ap (list_any test) (put_more q x ps e)) ∙ h in
    let further : process_at ps q.pid ≡ Some p = sym (at_other x ps q.pid (λ (other : x.pid ≡ q.pid). omega (arith, other, e))) ∙ there in
    ap₂ (λ a b. a || b) (or_parts (test x) (list_any test (put_process q ps)) both).0 (rest further (or_parts (test x) (list_any test (put_process q ps)) both).1)

any_again : (test : Process → Bool) (q p : Process) (ps : List Process) → test q ≡ test p → process_at ps q.pid ≡ Some p → list_any test (put_process q ps) ≡ false → list_any test ps ≡ false
any_again test q p [] same there h = absurd (cc)
any_again test q p (x ∷ ps) same there h = any_again_by test q p x ps (compared q.pid x.pid) same there h (any_again test q p ps same)

-- who waits for an answer that wasn't left is let go only by a dead device
gone_dead : (c : Description) (u v : Unix) (e : Entry) (q : Process) (called : Call) (at : ℕ) (device : Device) (reply : Reply) → IsAt c u e q called → after c u e ≡ Some v → Sound u → device_at u.devices at ≡ Some device → answer_due (with_process q u) q device (answer_for q.pid device.answers) ≡ Some reply
    → answer_for e.pid device.answers ≡ None → is_alive v at ≡ true → ⊥
gone_dead c u v e q called at device reply is_at is h there due none alive =
    true≢false (sym alive ∙ dead_after c u v e at is h (ap (λ d. is_some d) there) was_dead)
  where
    own : device.place ≡ at
    own = device_place u.devices at device there

    q_dead : is_alive (with_process q u) at ≡ false
    q_dead = by (is_alive (with_process q u) at) (ap (λ n. cond (is_alive (with_process q u) n) None (Some (Error Rattle.sprite_ids.specs.declared.Errno.TheVariants.NoServer))) (sym own) ∙ ap (answer_due (with_process q u) q device) (sym (ap (λ n. answer_for n device.answers) (own_pid c u e q called is_at) ∙ none)) ∙ due)
      where
        by : (b : Bool) → cond b None (Some (Error Rattle.sprite_ids.specs.declared.Errno.TheVariants.NoServer)) ≡ Some reply → b ≡ false
        by true h = absurd (cc)
        by false h = refl

    same_test : holds_master_of u.streams at q ≡ holds_master_of u.streams at is_at.before
    same_test = ap (holds_master_of u.streams at) is_at.whole

    was_dead : is_alive u at ≡ false
    was_dead = any_again (holds_master_of u.streams at) q is_at.before u.processes same_test (ap (process_at u.processes) (own_pid c u e q called is_at) ∙ is_at.there) q_dead

pub turn_of : (c : Description) (u v : Unix) (e : Entry) → after c u e ≡ Some v → Sound u → Turn u v e
turn_of c u v e is h = by (opened c u v e is).later (opened c u v e is).enters (opened c u v e is).whole
  where
    by : (later : Unix) → Enters c u e later → v ≡ counted later → Turn u v e
    by later (Answers q called reply at whole given idle out) same =
        let a : Told called q reply later = said (Told called q) (outcome c (with_process q u) q called) reply later (each_call c (with_process q u) q called) out in
        Idle (was_asking c u e q called at ∙ idle)
        (ap (λ (x : Unix). asking_of (process_at x.processes e.pid)) same ∙ put_last later a.between e a.caller (a.pid ∙ own_pid c u e q called at) a.whole ∙ a.idle idle) (no_ask_part e whole) (no_done_part e whole)
    by later (Fails q called error at whole given idle may out) same =
        Idle (was_asking c u e q called at ∙ idle)
        (ap (λ (x : Unix). asking_of (process_at x.processes e.pid)) same ∙ put_last later (with_process q u) e (replied c q (Error error)) (own_pid c u e q called at) out) (no_ask_part e whole) (no_done_part e whole)
    by later (Asks q called at device is_at ask given idle goes there out) same =
        Goes_in at (was_asking c u e q called is_at ∙ idle)
        (ap (λ (x : Unix). asking_of (process_at x.processes e.pid)) same ∙ put_last later _ e (record q { asking = Some device.place }) (own_pid c u e q called is_at) out ∙ ap Some (device_place u.devices at device there))
        (ap (λ d. is_some d) there) ask (ap (λ o. is_some o) is_at.claimed)
    by later (entry.Fetches q called at device reply is_at done given busy there due out) same =
        Comes_out at device (was_asking c u e q called is_at ∙ busy)
        (ap (λ (x : Unix). asking_of (process_at x.processes e.pid)) same ∙ put_last later _ e (replied c q reply) (own_pid c u e q called is_at) out) there done
        (gone_dead c u v e q called at device reply is_at is h there due)
    by later (Dies p there alive killed idle dead none given out) same =
        Idle (ap asking_of there ∙ idle)
        (ap (λ (x : Unix). asking_of (process_at x.processes e.pid)) same ∙ put_last later u e _ (found_pid u.processes e.pid p there) out ∙ idle)
        (λ ask. let two : part.Death ≡ part.Ask = sym dead ∙ ask in absurd (cc)) (λ done. let two : part.Death ≡ part.Done = sym dead ∙ done in absurd (cc))

-- ---- counting

asks_more : (pid : ℕ) (xs ys : List Ask) → asks_of pid (xs ++ ys) ≡ asks_of pid xs + asks_of pid ys
asks_more pid [] ys = omega arith
asks_more pid (x ∷ xs) ys = let rest = asks_more pid xs ys in omega (arith, rest)

answers_more : (pid : ℕ) (xs ys : List Answer) → answers_of pid (xs ++ ys) ≡ answers_of pid xs + answers_of pid ys
answers_more pid [] ys = omega arith
answers_more pid (x ∷ xs) ys = let rest = answers_more pid xs ys in omega (arith, rest)

none_without : (pid : ℕ) (answers : List Answer) → answers_of pid (without_answer pid answers) ≡ 0
none_without pid [] = refl
none_without pid (a ∷ more) = by (a.pid == pid) refl (none_without pid more)
  where
    by : (b : Bool) → (a.pid == pid) ≡ b → answers_of pid (without_answer pid more) ≡ 0 → answers_of pid (cond (not b) (a ∷ without_answer pid more) (without_answer pid more)) ≡ 0
    by true e rest = rest
    by false e rest = let none : cond {A = ℕ} (a.pid == pid) 1 0 ≡ 0 = ap (λ b. cond {A = ℕ} b 1 0) e in omega (arith, none, rest)

others_without : (pid gone : ℕ) (answers : List Answer) → pid ≢ gone → answers_of pid (without_answer gone answers) ≡ answers_of pid answers
others_without pid gone [] apart = refl
others_without pid gone (a ∷ more) apart = by (a.pid == gone) refl (others_without pid gone more apart)
  where
    by : (b : Bool) → (a.pid == gone) ≡ b → answers_of pid (without_answer gone more) ≡ answers_of pid more → answers_of pid (cond (not b) (a ∷ without_answer gone more) (without_answer gone more)) ≡ cond {A = ℕ} (a.pid == pid) 1 0 + answers_of pid more
    by true e rest =
        let none : cond {A = ℕ} (a.pid == pid) 1 0 ≡ 0 = ap (λ b. cond {A = ℕ} b 1 0) (ne_eqb a.pid pid (λ same. apart (sym same ∙ eqb-true a.pid gone e))) in
        omega (arith, none, rest)
    by false e rest = ap (λ n. cond {A = ℕ} (a.pid == pid) 1 0 + n) rest

-- an answer that is there counts
answer_counts : (pid : ℕ) (answers : List Answer) → (answer_for pid answers ≡ None → ⊥) → 1 ≤ answers_of pid answers
answer_counts pid [] some = absurd (some refl)
answer_counts pid (a ∷ more) some = by (a.pid == pid) refl some (answer_counts pid more)
  where
    by : (b : Bool) → (a.pid == pid) ≡ b → (cond b (Some a.reply) (answer_for pid more) ≡ None → ⊥) → ((answer_for pid more ≡ None → ⊥) → 1 ≤ answers_of pid more) → 1 ≤ cond {A = ℕ} b 1 0 + answers_of pid more
    by true e some rest = omega arith
    by false e some rest = let more_so = rest some in omega (arith, more_so)

-- ---- one device behind one entry

-- what of it is asked by a process and not fetched
abbrev total : ℕ → Device → ℕ
total pid device = asks_of pid (line_of (Some device)) + answers_of pid device.answers

-- who takes or answers keeps the device alive
any_found : (test : Process → Bool) (ps : List Process) (pid : ℕ) (p : Process) → process_at ps pid ≡ Some p → test p ≡ true → list_any test ps ≡ true
any_found test [] pid p there so = absurd (cc)
any_found test (x ∷ ps) pid p there so = by (x.pid == pid) there (any_found test ps pid p)
  where
    or_true : (b : Bool) → (b || true) ≡ true
    or_true true = refl
    or_true false = refl

    by : (b : Bool) → cond b (Some x) (process_at ps pid) ≡ Some p → (process_at ps pid ≡ Some p → test p ≡ true → list_any test ps ≡ true) → (test x || list_any test ps) ≡ true
    by true there rest = ap (λ b. b || list_any test ps) (ap test (some_is x p there) ∙ so)
    by false there rest = ap (λ b. test x || b) (rest there so) ∙ or_true (test x)

pub master_alive : (u : Unix) (place pid : ℕ) → is_master_in u place (process_at u.processes pid) ≡ true → is_alive u place ≡ true
master_alive u place pid h = by (process_at u.processes pid) refl h
  where
    by : (o : Option Process) → process_at u.processes pid ≡ o → is_master_in u place o ≡ true → is_alive u place ≡ true
    by None e h = absurd (true≢false (sym h))
    by (Some p) e h = any_found (holds_master_of u.streams place) u.processes pid p e h

-- what an entry does to the counts of a process on a device
data Counts (u : Unix) (e : Entry) (place : ℕ) (pid : ℕ) (before device : Device) : Type 0 where
  -- as many, and as many answers
  Quiet : (e.part ≡ part.Ask → device ≡ before) → asks_of pid (line_of (Some device)) ≡ asks_of pid (line_of (Some before)) → answers_of pid device.answers ≡ answers_of pid before.answers → Counts u e place pid before device
  -- an ask more, of the entry's process
  Asked : e.part ≡ part.Ask → length (line_of (Some device)) ≡ length (line_of (Some before)) + 1 → asks_of pid (line_of (Some device)) ≡ asks_of pid (line_of (Some before)) + cond {A = ℕ} (e.pid == pid) 1 0 → answers_of pid device.answers ≡ answers_of pid before.answers
      → Counts u e place pid before device
  -- one that was in hand is answered, in a living device
  Answered_one : (n : ℕ) → e.part ≡ part.Whole → is_alive u place ≡ true → asks_of pid (line_of (Some before)) ≡ n + asks_of pid (line_of (Some device)) → answers_of pid device.answers ≡ answers_of pid before.answers + n → Counts u e place pid before device
  -- the answers of the entry's process are fetched
  Fetched : e.part ≡ part.Done → asks_of pid (line_of (Some device)) ≡ asks_of pid (line_of (Some before)) → device.answers ≡ without_answer e.pid before.answers → Counts u e place pid before device

counts_of : (u v : Unix) (e : Entry) (place pid : ℕ) (before device : Device) → device_at u.devices place ≡ Some before → Moves u e before device → Counts u e place pid before device
counts_of u v e place pid before device there (Stays is) =
    Quiet (λ ask. is) (ap (λ (d : Device). asks_of pid (line_of (Some d))) is) (ap (λ (d : Device). answers_of pid d.answers) is)
counts_of u v e place pid before device there (Queues ask is_ask_part called mine number is) =
    Asked is_ask_part
    (ap (λ (d : Device). length (line_of (Some d))) is ∙ longer (hand before.in_hand) before.asks)
    (ap (λ (d : Device). asks_of pid (line_of (Some d))) is ∙ more (hand before.in_hand) before.asks ∙ ap (λ n. asks_of pid (hand before.in_hand ++ before.asks) + cond {A = ℕ} (n == pid) 1 0) mine)
    (ap (λ (d : Device). answers_of pid d.answers) is)
  where
    longer : (xs ys : List Ask) → length (xs ++ (ys ++ ask ∷ [])) ≡ length (xs ++ ys) + 1
    longer xs ys = let a = length-append xs (ys ++ ask ∷ []) in let b = length-append ys (ask ∷ []) in let d = length-append xs ys in omega (arith, a, b, d)

    more : (xs ys : List Ask) → asks_of pid (xs ++ (ys ++ ask ∷ [])) ≡ asks_of pid (xs ++ ys) + cond {A = ℕ} (ask.pid == pid) 1 0
    more xs ys = let a = asks_more pid xs (ys ++ ask ∷ []) in let b = asks_more pid ys (ask ∷ []) in let d = asks_more pid xs ys in omega (arith, a, b, d)
counts_of u v e place pid before device there (Takes ask rest fd max whole called given free line master is) =
    let same : line_of (Some device) ≡ line_of (Some before) = ap (λ (d : Device). line_of (Some d)) is ∙ sym (ap₂ (λ o l. hand o ++ l) free line) in
    Quiet (λ ask_part. absurd (no_ask_part e whole ask_part)) (ap (asks_of pid) same) (ap (λ (d : Device). answers_of pid d.answers) is)
counts_of u v e place pid before device there (Leaves ask reply fd bytes number whole called held answer master is) =
    let more = answers_more pid before.answers (record { pid = ask.pid; reply = reply } ∷ []) in
    Answered_one (cond {A = ℕ} (ask.pid == pid) 1 0) whole (sym (ap (is_alive u) (device_place u.devices place before there)) ∙ master_alive u before.place e.pid master)
    (ap (λ o. asks_of pid (hand o ++ before.asks)) held ∙ ap (λ (d : Device). cond {A = ℕ} (ask.pid == pid) 1 0 + asks_of pid (line_of (Some d))) (sym is))
    (ap (λ (d : Device). answers_of pid d.answers) is ∙ more ∙ none (answers_of pid before.answers) (cond {A = ℕ} (ask.pid == pid) 1 0))
  where
    none : (a b : ℕ) → a + (b + 0) ≡ a + b
    none a b = omega arith
counts_of u v e place pid before device there (Fetches done is) =
    Fetched done (ap (λ (d : Device). asks_of pid (line_of (Some d))) is) (ap (λ (d : Device). d.answers) is)

-- how long the lines are
line_lengths : (u v : Unix) (e : Entry) (place : ℕ) (before : Device) (g : GoesOn u v e place before) → length (line_of (Some before)) + length (made_by place e v) ≡ length (answered_of before.in_hand g.goes.device.in_hand) + length (line_of (Some g.goes.device))
line_lengths u v e place before g =
    sym (length-append (line_of (Some before)) (made_by place e v)) ∙ ap (λ l. length l) g.line ∙ length-append (answered_of before.in_hand g.goes.device.in_hand) (line_of (Some g.goes.device))

-- ---- the states

pub inside_none : (place : ℕ) (o : Option Process) → asking_of o ≡ None → inside_of place o ≡ 0
inside_none place o none = ap (λ a. cond {A = ℕ} (is_inside place a) 1 0) none

inside_at : (place at : ℕ) (o : Option Process) → asking_of o ≡ Some at → inside_of place o ≡ cond {A = ℕ} (at == place) 1 0
inside_at place at o there = ap (λ a. cond {A = ℕ} (is_inside place a) 1 0) there

pub record Kept (u : Unix) : Type 0 where
  pub numbered : Numbered u.processes
  pub sound : Sound u
  pub once : AsksStandOnce u

-- nobody is inside what isn't there
nobody_inside : (u : Unix) (place pid : ℕ) → AsksStandOnce u → device_at u.devices place ≡ None → inside_of place (process_at u.processes pid) ≡ 0
nobody_inside u place pid h none = by (process_at u.processes pid) refl
  where
    at : (p : Process) → process_at u.processes pid ≡ Some p → (o : Option ℕ) → p.asking ≡ o → cond {A = ℕ} (is_inside place o) 1 0 ≡ 0
    at p there None is = refl
    at p there (Some k) is =
        elim (cases_Bool (k == place)) [
          | inl here ↦ absurd (true≢false (sym (h.there pid k p there is) ∙ ap (has_device u.devices) (eqb-true k place here) ∙ ap (λ o. is_some o) none))
          | inr off ↦ ap (λ b. cond {A = ℕ} b 1 0) off
        ]

    by : (o : Option Process) → process_at u.processes pid ≡ o → inside_of place o ≡ 0
    by None there = refl
    by (Some p) there = at p there p.asking refl

-- ---- a device that was there

-- all that is to be known of it
record There (u v : Unix) (e : Entry) (place pid : ℕ) (before : Device) (g : GoesOn u v e place before) : Type 0 where
  was : device_at u.devices place ≡ Some before
  counts : Counts u e place pid before g.goes.device
  living : is_alive u place ≡ true → total pid before ≡ inside_of place (process_at u.processes pid)
  left : answers_of pid before.answers ≤ inside_of place (process_at u.processes pid)

-- what is to be shown
record Goes (v : Unix) (place pid : ℕ) (device : Device) : Type 0 where
  living : is_alive v place ≡ true → total pid device ≡ inside_of place (process_at v.processes pid)
  left : answers_of pid device.answers ≤ inside_of place (process_at v.processes pid)

-- another process than the entry's
other_goes : (u v : Unix) (e : Entry) (place pid : ℕ) (before : Device) (g : GoesOn u v e place before) → There u v e place pid before g → (is_alive v place ≡ true → is_alive u place ≡ true) → pid ≢ e.pid → inside_of place (process_at v.processes pid) ≡ inside_of place (process_at u.processes pid) → Goes v place pid g.goes.device
other_goes u v e place pid before g t alive apart same = by t.counts
  where
    by : Counts u e place pid before g.goes.device → Goes v place pid g.goes.device
    by (Quiet still asks answers) =
        record { living = λ now. let was = t.living (alive now) in omega (arith, was, asks, answers, same); left = let few = t.left in omega (arith, few, answers, same) }
    by (Asked ask long asks answers) =
        let none : asks_of pid (line_of (Some g.goes.device)) ≡ asks_of pid (line_of (Some before)) + 0 =
        asks ∙ ap (λ b. asks_of pid (line_of (Some before)) + cond {A = ℕ} b 1 0) (ne_eqb e.pid pid (λ is. apart (sym is))) in
        record { living = λ now. let was = t.living (alive now) in omega (arith, was, none, answers, same); left = let few = t.left in omega (arith, few, answers, same) }
    by (Answered_one n whole lives_on asks answers) =
        let was = t.living lives_on in
        record { living = λ now. omega (arith, was, asks, answers, same); left = omega (arith, was, asks, answers, same) }
    by (Fetched done asks answers) =
        let still = ap (answers_of pid) answers ∙ others_without pid e.pid before.answers apart in
        record { living = λ now. let was = t.living (alive now) in omega (arith, was, asks, still, same); left = let few = t.left in omega (arith, few, still, same) }

-- the entry's process, which is inside nothing before and after
idle_goes : (u v : Unix) (e : Entry) (place pid : ℕ) (before : Device) (g : GoesOn u v e place before) → There u v e place pid before g → (is_alive v place ≡ true → is_alive u place ≡ true) → (e.part ≡ part.Ask → ⊥) → (e.part ≡ part.Done → ⊥)
    → inside_of place (process_at u.processes pid) ≡ 0 → inside_of place (process_at v.processes pid) ≡ 0 → Goes v place pid g.goes.device
idle_goes u v e place pid before g t alive no_ask no_done none still_none = by t.counts
  where
    by : Counts u e place pid before g.goes.device → Goes v place pid g.goes.device
    by (Quiet still asks answers) =
        record { living = λ now. let was = t.living (alive now) in omega (arith, was, asks, answers, none, still_none); left = let few = t.left in omega (arith, few, answers, none, still_none) }
    by (Asked ask long asks answers) = absurd (no_ask ask)
    by (Answered_one n whole lives_on asks answers) =
        let was = t.living lives_on in
        record { living = λ now. omega (arith, was, asks, answers, none, still_none); left = omega (arith, was, asks, answers, none, still_none) }
    by (Fetched done asks answers) = absurd (no_done done)

answered_same : (o : Option Ask) → length (answered_of o o) ≡ 0
answered_same None = refl
answered_same (Some ask) = refl

-- how many asks an ask's entry makes of a device
made_length : (v : Unix) (e : Entry) (place at : ℕ) → e.part ≡ part.Ask → is_some e.call ≡ true → asking_of (process_at v.processes e.pid) ≡ Some at → length (made_by place e v) ≡ cond {A = ℕ} (at == place) 1 0
made_length v e place at ask has now =
    ap (λ k. length (cond (is_ask k && is_inside place (asking_of (process_at v.processes e.pid))) (ask_in e e.call) [])) ask
    ∙ ap (λ o. length (cond (is_inside place o) (ask_in e e.call) [])) now
    ∙ one (at == place) e.call has
  where
    one : (b : Bool) (o : Option Call) → is_some o ≡ true → length (cond b (ask_in e o) []) ≡ cond {A = ℕ} b 1 0
    one true (Some called) has = refl
    one true None has = absurd (true≢false (sym has))
    one false o has = refl

-- it asks
asks_goes : (u v : Unix) (e : Entry) (place pid at : ℕ) (before : Device) (g : GoesOn u v e place before) → There u v e place pid before g → (is_alive v place ≡ true → is_alive u place ≡ true) → pid ≡ e.pid → e.part ≡ part.Ask → is_some e.call ≡ true → asking_of (process_at v.processes e.pid) ≡ Some at
    → inside_of place (process_at u.processes pid) ≡ 0 → inside_of place (process_at v.processes pid) ≡ cond {A = ℕ} (at == place) 1 0 → Goes v place pid g.goes.device
asks_goes u v e place pid at before g t alive mine ask has now none inside = by (at == place) (made_length v e place at ask has now) inside t.counts
  where
    lengths : length (line_of (Some before)) + length (made_by place e v) ≡ length (answered_of before.in_hand g.goes.device.in_hand) + length (line_of (Some g.goes.device))
    lengths = line_lengths u v e place before g

    by : (b : Bool) → length (made_by place e v) ≡ cond {A = ℕ} b 1 0 → inside_of place (process_at v.processes pid) ≡ cond {A = ℕ} b 1 0 → Counts u e place pid before g.goes.device → Goes v place pid g.goes.device
    by true made one (Quiet still asks answers) =
        let same : g.goes.device ≡ before = still ask in
        let here : length (line_of (Some before)) + length (made_by place e v) ≡ length (answered_of before.in_hand before.in_hand) + length (line_of (Some before)) =
        subst (λ (d : Device). length (line_of (Some before)) + length (made_by place e v) ≡ length (answered_of before.in_hand d.in_hand) + length (line_of (Some d))) same lengths in
        let nothing = answered_same before.in_hand in
        absurd (omega (arith, here, nothing, made))
    by true made one (Asked part_is long asks answers) =
        let more : asks_of pid (line_of (Some g.goes.device)) ≡ asks_of pid (line_of (Some before)) + 1 = asks ∙ ap (λ b. asks_of pid (line_of (Some before)) + cond {A = ℕ} b 1 0) (eq-eqb e.pid pid (sym mine)) in
        record { living = λ lives_on. let was = t.living (alive lives_on) in omega (arith, was, more, answers, none, one); left = let few = t.left in omega (arith, few, answers, none, one) }
    by false made one (Quiet still asks answers) =
        record { living = λ lives_on. let was = t.living (alive lives_on) in omega (arith, was, asks, answers, none, one); left = let few = t.left in omega (arith, few, answers, none, one) }
    by false made one (Asked part_is long asks answers) = absurd (omega (arith, lengths, made, long))
    by b made one (Answered_one n whole lives_on asks answers) = absurd (no_ask_part e whole ask)
    by b made one (Fetched done asks answers) = absurd (let two : part.Ask ≡ part.Done = sym ask ∙ done in cc)

-- it comes out
ends_goes : (u v : Unix) (e : Entry) (place pid at : ℕ) (before device : Device) (g : GoesOn u v e place before) → There u v e place pid before g → (is_alive v place ≡ true → is_alive u place ≡ true) → pid ≡ e.pid → e.part ≡ part.Done → asking_of (process_at u.processes e.pid) ≡ Some at
    → device_at u.devices at ≡ Some device → (answer_for e.pid device.answers ≡ None → is_alive v at ≡ true → ⊥) → inside_of place (process_at u.processes pid) ≡ cond {A = ℕ} (at == place) 1 0 → inside_of place (process_at v.processes pid) ≡ 0 → Goes v place pid g.goes.device
ends_goes u v e place pid at before device g t alive mine done was_in there let_go inside none = by (at == place) refl inside t.counts
  where
    by : (b : Bool) → (at == place) ≡ b → inside_of place (process_at u.processes pid) ≡ cond {A = ℕ} b 1 0 → Counts u e place pid before g.goes.device → Goes v place pid g.goes.device
    by true here one counts =
        let fetched : answers_of pid g.goes.device.answers ≡ 0 =
        ap (answers_of pid) (g.fetched done (ap (is_inside place) was_in ∙ here)) ∙ ap (λ n. answers_of pid (without_answer n before.answers)) (sym mine) ∙ none_without pid before.answers in
        let place_is : at ≡ place = eqb-true at place here in
        let same : device ≡ before = some_is device before (sym there ∙ ap (device_at u.devices) place_is ∙ t.was) in
        record {
          living = λ lives_on.
              let was = t.living (alive lives_on) in
              let answered : 1 ≤ answers_of pid before.answers =
              answer_counts pid before.answers (λ no_answer. let_go (ap (λ (d : Device). answer_for e.pid d.answers) same ∙ ap (λ n. answer_for n before.answers) (sym mine) ∙ no_answer) (ap (is_alive v) place_is ∙ lives_on)) in
              let asks : asks_of pid (line_of (Some g.goes.device)) ≡ asks_of pid (line_of (Some before)) = asks_same counts in
              omega (arith, was, answered, asks, fetched, one, none);
          left = omega (arith, fetched);
        }
      where
        asks_same : Counts u e place pid before g.goes.device → asks_of pid (line_of (Some g.goes.device)) ≡ asks_of pid (line_of (Some before))
        asks_same (Quiet still asks answers) = asks
        asks_same (Asked ask long asks answers) = absurd (let two : part.Ask ≡ part.Done = sym ask ∙ done in cc)
        asks_same (Answered_one n whole lives_on asks answers) = absurd (no_done_part e whole done)
        asks_same (Fetched done_is asks answers) = asks
    by false off one (Quiet still asks answers) =
        record { living = λ lives_on. let was = t.living (alive lives_on) in omega (arith, was, asks, answers, none, one); left = let few = t.left in omega (arith, few, answers, none, one) }
    by false off one (Asked ask long asks answers) = absurd (let two : part.Ask ≡ part.Done = sym ask ∙ done in cc)
    by false off one (Answered_one n whole lives_on asks answers) = absurd (no_done_part e whole done)
    by false off one (Fetched done_is asks answers) =
        let gone : answers_of pid g.goes.device.answers ≡ 0 = ap (answers_of pid) answers ∙ ap (λ n. answers_of pid (without_answer n before.answers)) (sym mine) ∙ none_without pid before.answers in
        record { living = λ lives_on. let was = t.living (alive lives_on) in omega (arith, was, asks, gone, none, one); left = omega (arith, gone) }

-- ---- an entry

device_goes : (c : Description) (u v : Unix) (e : Entry) (place pid : ℕ) (before : Device) (g : GoesOn u v e place before) → after c u e ≡ Some v → Kept u → device_at u.devices place ≡ Some before → Goes v place pid g.goes.device
device_goes c u v e place pid before g is h was =
    let t : There u v e place pid before g = record { was = was; counts = counts_of u v e place pid before g.goes.device was g.goes.moves; living = h.once.living place before pid was; left = h.once.left place before pid was } in
    elim (cases_Bool (pid == e.pid)) [
      | inl on ↦ own t (eqb-true pid e.pid on) (turn_of c u v e is h.sound)
      | inr off ↦
          let apart : pid ≢ e.pid = λ same. true≢false (sym (eq-eqb pid e.pid same) ∙ off) in
          other_goes u v e place pid before g t alive apart (others_inside c u v e place pid is h.numbered apart)
    ]
  where
    alive : is_alive v place ≡ true → is_alive u place ≡ true
    alive now =
        elim (cases_Bool (is_alive u place)) [
          | inl still ↦ still
          | inr dead ↦ absurd (true≢false (sym now ∙ dead_after c u v e place is h.sound (ap (λ d. is_some d) was) dead))
        ]

    own : There u v e place pid before g → pid ≡ e.pid → Turn u v e → Goes v place pid g.goes.device
    own t mine (Idle none still_none no_ask no_done) =
        idle_goes u v e place pid before g t alive no_ask no_done (inside_none place (process_at u.processes pid) (ap (λ n. asking_of (process_at u.processes n)) mine ∙ none)) (inside_none place (process_at v.processes pid) (ap (λ n. asking_of (process_at v.processes n)) mine ∙ still_none))
    own t mine (Goes_in at none now there ask has) =
        asks_goes u v e place pid at before g t alive mine ask has now (inside_none place (process_at u.processes pid) (ap (λ n. asking_of (process_at u.processes n)) mine ∙ none)) (inside_at place at (process_at v.processes pid) (ap (λ n. asking_of (process_at v.processes n)) mine ∙ now))
    own t mine (Comes_out at device was_in none there done let_go) =
        ends_goes u v e place pid at before device g t alive mine done was_in there let_go (inside_at place at (process_at u.processes pid) (ap (λ n. asking_of (process_at u.processes n)) mine ∙ was_in)) (inside_none place (process_at v.processes pid) (ap (λ n. asking_of (process_at v.processes n)) mine ∙ none))

-- a device that wasn't there
fresh_inside : (c : Description) (u v : Unix) (e : Entry) (place pid : ℕ) → after c u e ≡ Some v → Kept u → device_at u.devices place ≡ None → inside_of place (process_at v.processes pid) ≡ 0
fresh_inside c u v e place pid is h none =
    elim (cases_Bool (pid == e.pid)) [
      | inl on ↦ own (eqb-true pid e.pid on) (turn_of c u v e is h.sound)
      | inr off ↦ others_inside c u v e place pid is h.numbered (λ same. true≢false (sym (eq-eqb pid e.pid same) ∙ off)) ∙ nobody_inside u place pid h.once none
    ]
  where
    own : pid ≡ e.pid → Turn u v e → inside_of place (process_at v.processes pid) ≡ 0
    own mine (Idle was still_none no_ask no_done) = inside_none place (process_at v.processes pid) (ap (λ n. asking_of (process_at v.processes n)) mine ∙ still_none)
    own mine (Goes_in at was now there ask has) =
        inside_at place at (process_at v.processes pid) (ap (λ n. asking_of (process_at v.processes n)) mine ∙ now)
        ∙ ap (λ b. cond {A = ℕ} b 1 0) (ne_eqb at place (λ same. true≢false (sym there ∙ ap (has_device u.devices) same ∙ ap (λ d. is_some d) none)))
    own mine (Comes_out at device was_in still_none there done let_go) = inside_none place (process_at v.processes pid) (ap (λ n. asking_of (process_at v.processes n)) mine ∙ still_none)

fresh_goes : (c : Description) (u v : Unix) (e : Entry) (place pid : ℕ) (device : Device) → after c u e ≡ Some v → Kept u → device_at u.devices place ≡ None → device_at v.devices place ≡ Some device → Goes v place pid device
fresh_goes c u v e place pid device is h none there =
    let o = opened c u v e is in
    let n = (enters_none c u o.later e place o.enters none).empty in
    let same : device_at o.later.devices place ≡ Some device = sym (ap (λ (x : Unix). device_at x.devices place) o.whole) ∙ there in
    let no_line : asks_of pid (line_of (Some device)) ≡ 0 = ap (λ d. asks_of pid (line_of d)) (sym same) ∙ ap (asks_of pid) n.line in
    let no_answers : answers_of pid device.answers ≡ 0 = ap (λ d. answers_of pid (answers_in d)) (sym same) ∙ ap (answers_of pid) n.answers in
    let nobody = fresh_inside c u v e place pid is h none in
    record { living = λ alive. omega (arith, no_line, no_answers, nobody); left = omega (arith, no_answers, nobody) }

goes_for : (c : Description) (u v : Unix) (e : Entry) (place pid : ℕ) (device : Device) → after c u e ≡ Some v → Kept u → device_at v.devices place ≡ Some device → Goes v place pid device
goes_for c u v e place pid device is h there = by (device_at u.devices place) refl
  where
    by : (was : Option Device) → device_at u.devices place ≡ was → Goes v place pid device
    by None none = fresh_goes c u v e place pid device is h none there
    by (Some before) was =
        let o = opened c u v e is in
        let g : GoesOn u v e place before = subst (λ (x : Unix). GoesOn u x e place before) (sym o.whole) (enters_on c u o.later e place before o.enters was) in
        subst (Goes v place pid) (some_is g.goes.device device (sym g.goes.there ∙ there)) (device_goes c u v e place pid before g is h was)

-- who is inside a device is inside one that is there
pub one_inside : (place : ℕ) (o : Option Process) → inside_of place o ≡ 1 → asking_of o ≡ Some place
one_inside place o h = by (asking_of o) h
  where
    by : (a : Option ℕ) → cond {A = ℕ} (is_inside place a) 1 0 ≡ 1 → a ≡ Some place
    by None h = absurd (omega (arith, h))
    by (Some k) h =
        elim (cases_Bool (k == place)) [
          | inl on ↦ ap Some (eqb-true k place on)
          | inr off ↦ absurd (let zero_is : 0 ≡ 1 = ap (λ b. cond {A = ℕ} b 1 0) (sym off) ∙ h in omega (arith, zero_is))
        ]

there_for : (c : Description) (u v : Unix) (e : Entry) (pid place : ℕ) (p : Process) → after c u e ≡ Some v → Kept u → process_at v.processes pid ≡ Some p → p.asking ≡ Some place → has_device v.devices place ≡ true
there_for c u v e pid place p is h there asking =
    elim (cases_Bool (pid == e.pid)) [
      | inl on ↦ own (eqb-true pid e.pid on) (turn_of c u v e is h.sound)
      | inr off ↦
          let apart : pid ≢ e.pid = λ same. true≢false (sym (eq-eqb pid e.pid same) ∙ off) in
          let now : inside_of place (process_at v.processes pid) ≡ 1 = inside_at place place (process_at v.processes pid) (ap asking_of there ∙ asking) ∙ ap (λ b. cond {A = ℕ} b 1 0) (eq-eqb place place refl) in
          still_device c u v e place is (was (process_at u.processes pid) refl (one_inside place (process_at u.processes pid) (sym (others_inside c u v e place pid is h.numbered apart) ∙ now)))
    ]
  where
    was : (o : Option Process) → process_at u.processes pid ≡ o → asking_of o ≡ Some place → has_device u.devices place ≡ true
    was None e_is in_it = absurd (cc)
    was (Some q) e_is in_it = h.once.there pid place q e_is in_it

    asking_now : pid ≡ e.pid → asking_of (process_at v.processes e.pid) ≡ Some place
    asking_now mine = ap (λ n. asking_of (process_at v.processes n)) (sym mine) ∙ ap asking_of there ∙ asking

    own : pid ≡ e.pid → Turn u v e → has_device v.devices place ≡ true
    own mine (Idle before none no_ask no_done) = absurd (let two : Some place ≡ None = sym (asking_now mine) ∙ none in cc)
    own mine (Goes_in at before now known ask has) = still_device c u v e place is (ap (has_device u.devices) (some_is place at (sym (asking_now mine) ∙ now)) ∙ known)
    own mine (Comes_out at device was_in none known done let_go) = absurd (let two : Some place ≡ None = sym (asking_now mine) ∙ none in cc)

pub kept_after : (c : Description) (u v : Unix) (e : Entry) → after c u e ≡ Some v → Kept u → Kept v
kept_after c u v e is h =
    record {
      numbered = numbered_after c u v e is h.numbered;
      sound = sound_after c u v e is h.sound;
      once = record {
        there = λ pid place p there asking. there_for c u v e pid place p is h there asking;
        living = living;
        left = λ place device pid there. (goes_for c u v e place pid device is h there).left;
      };
    }
  where
    living : (place : ℕ) (device : Device) (pid : ℕ) → device_at v.devices place ≡ Some device → is_alive v place ≡ true → asks_of pid (line_of (Some device)) + answers_of pid device.answers ≡ inside_of place (process_at v.processes pid)
    living place device pid there alive = (goes_for c u v e place pid device is h there).living alive

pub kept_boot : (c : Description) → Numbered (boot_of c).processes → Kept (boot_of c)
kept_boot c numbered =
    record {
      numbered = numbered;
      sound = sound_boot c;
      once = record {
        there = λ pid place p there asking.
            let idle : p.asking ≡ None = found_each (λ (q : Process). q.asking ≡ None) (boot_of c).processes pid p (boot_processes (λ (q : Process). q.asking ≡ None) (λ number m. refl) c) there in
            absurd (let two : Some place ≡ None = sym asking ∙ idle in cc);
        living = λ place device pid there alive. absurd (let two : None ≡ Some device = there in cc);
        left = λ place device pid there. absurd (let two : None ≡ Some device = there in cc);
      };
    }

pub asks_are_answered_once : AsksAreAnsweredOnce
asks_are_answered_once c journal u few is = (kept c Kept (kept_after c) journal u (kept_boot c (boot_numbered c few)) is).once
