-- What is kept of the bursts of all processes, from one record of a trace to the next.
use Rattle.std.proofs.Common.{◌≡◌, ◌∙◌, ◌≢◌, ◌≤◌, ℕ, ◌+◌, ◌==◌, Bool, true, false, cond, ◌&&◌, ◌||◌, List, [], ◌∷◌, ◌++◌, Option, Some, None, le-leb, refl, sym, ap, ap₂, subst, arith, eqb-true, eq-eqb}
use Rattle.std.specs.Option.{is_none, is_some, option_and_then}
use Rattle.std.proofs.lemmas.Bool.{and_parts, true≢false}
use Rattle.process_machine.specs.declared.call.Call.{Call}
use Rattle.unix_calls.specs.declared.description.Description.{Description}
use Rattle.unix_calls.specs.declared.entry.Entry.{Entry}
use Rattle.unix_calls.specs.declared.event.Event.{Event}
use Rattle.unix_calls.specs.declared.event.Event.TheVariants as event
use Rattle.unix_calls.specs.declared.event.Rec.{Rec}
use Rattle.unix_calls.specs.declared.state.Process.{Process}
use Rattle.unix_calls.specs.Lawful.{Lawful}
use Rattle.unix_calls.specs.State.{Unix, process_at}
use Rattle.unix_calls.specs.Answers.{program_at}
use Rattle.unix_calls.specs.Boot.{boot_of}
use Rattle.unix_calls.specs.After.{after, state_from, state_of}
use Rattle.unix_calls.proofs.EndLaws.{others_stay}
use Rattle.unix_calls.proofs.HistoryLaws.{state_from-append}
use Rattle.unix_calls.proofs.ProcessLaws.{found_pid}
use Rattle.unix_world.specs.declared.World.{World}
use Rattle.unix_world.specs.Among.{Ascending}
use Rattle.unix_world.specs.Worlds.{unix_of}
use Rattle.unix_world.proofs.BootLaws.{lawful_boots}
use Rattle.one_kernel.specs.Verdicts.{way_of}
use Rattle.call_journal.specs.Matching.{has_event, is_entry, is_entry_of}
use Rattle.call_journal.specs.Past.{Past, each_from, no_past, past_with, since_last, state_by}
use Rattle.call_journal.specs.WorthBursts.{distance, distance_of, done_since_entry, due_in, instructions_in, instructions_of, is_at_most, is_exactly}
use Rattle.call_journal.proofs.GrowthLaws.{look_backs_grow}
use Rattle.trace_walk.specs.Walks as walks
use Rattle.trace_bursts.specs.declared.counting.Counts.{Counts}
use Rattle.trace_bursts.specs.declared.doing.Doing.{Doing}
use Rattle.trace_bursts.specs.Doing.{burst_behind, due_by, fresh, is_met, issue_behind, meets}
use Rattle.trace_bursts.specs.Reasons.{bursts_are_counted, keeps_count}
use Rattle.trace_bursts.specs.Counted.{CountsAll, CountsBefore, IsFresh}
use Rattle.trace_bursts.specs.Counting.{AreMet, Counting, CountsAt, EntersAt, EntersIf, IsIdle, Judges, JudgesEntry, JudgesIf, WentOn, all_met, doing_of, without}
use Rattle.trace_bursts.specs.DoingLaws.{Owes, burst_owes, issue_owes, met_none}
use Rattle.trace_bursts.specs.WayLaws.{due_is_way}

-- ---- instructions since an entry

more_in : (pid : ℕ) (xs : List Rec) (rec : Rec) → instructions_in pid (xs ++ rec ∷ []) ≡ instructions_in pid xs + instructions_of pid rec.event
more_in pid [] rec = omega arith
more_in pid (x ∷ xs) rec = let rest = more_in pid xs rec in omega (arith, rest)

done_more : (pid : ℕ) (records : List Rec) (rec : Rec) → done_since_entry pid (records ++ rec ∷ []) ≡ cond (is_entry_of pid rec.event) 0 (done_since_entry pid records + instructions_of pid rec.event)
done_more pid records rec =
    ap (instructions_in pid) (look_backs_grow.sinces (has_event (is_entry_of pid)) records rec) ∙ by (is_entry_of pid rec.event)
  where
    by : (b : Bool) → instructions_in pid (cond b [] (since_last (has_event (is_entry_of pid)) records ++ rec ∷ [])) ≡ cond b 0 (done_since_entry pid records + instructions_of pid rec.event)
    by true = refl
    by false = more_in pid (since_last (has_event (is_entry_of pid)) records) rec

none_more : (n : ℕ) → n ≡ n + 0
none_more n = omega arith

-- ---- what is to be met, from one record to the next

due_is : (c : Description) (world : World) (ps : List Process) (past : Past) (pid : ℕ) → past.unix ≡ Some (unix_of c world ps) → due_in c past pid ≡ due_by c ps pid
due_is c world ps past pid unix = ap (λ u. option_and_then (distance_of c) (option_and_then (λ (v : Unix). process_at v.processes pid) u)) unix

nobody_due : (c : Description) (ps : List Process) (pid : ℕ) (o : Option Process) → process_at ps pid ≡ o → is_some o ≡ false → due_by c ps pid ≡ None
nobody_due c ps pid None is none = ap (option_and_then (distance_of c)) is
nobody_due c ps pid (Some p) is none = absurd (cc (none))

pub due_without : (c : Description) (ps : List Process) (pid : ℕ) → process_at ps pid ≡ None → due_by c ps pid ≡ None
due_without c ps pid is = ap (option_and_then (distance_of c)) is

-- one process went on
before_one : (c : Description) (ps : List Process) (pid : ℕ) (later : Doing) (old new : List (ℕ × Doing)) (kept : Bool) → WentOn pid later old new → Owes kept (doing_of old pid) later (due_by c ps pid) → AreMet c ps new → (kept ≡ true) × AreMet c ps old
before_one c ps pid later old new kept went owes met = ((owes.on here).0, λ other. by other (pid == other) refl)
  where
    here : is_met later (due_by c ps pid) ≡ true
    here = sym (ap (λ (d : Doing). is_met d (due_by c ps pid)) went.one) ∙ met pid

    by : (other : ℕ) (b : Bool) → (pid == other) ≡ b → is_met (doing_of old other) (due_by c ps other) ≡ true
    by other true is = subst (λ (n : ℕ). is_met (doing_of old n) (due_by c ps n) ≡ true) (eqb-true pid other is) (owes.on here).1
    by other false is = sym (ap (λ (d : Doing). is_met d (due_by c ps other)) (went.others other is)) ∙ met other

behind_one : (c : Description) (ps : List Process) (pid : ℕ) (later : Doing) (old new : List (ℕ × Doing)) (kept : Bool) → WentOn pid later old new → Owes kept (doing_of old pid) later (due_by c ps pid) → kept ≡ true → AreMet c ps old → AreMet c ps new
behind_one c ps pid later old new kept went owes is_kept met other = by (pid == other) refl
  where
    by : (b : Bool) → (pid == other) ≡ b → is_met (doing_of new other) (due_by c ps other) ≡ true
    by true is = subst (λ (n : ℕ). is_met (doing_of new n) (due_by c ps n) ≡ true) (eqb-true pid other is) (ap (λ (d : Doing). is_met d (due_by c ps pid)) went.one ∙ owes.back is_kept (met pid))
    by false is = ap (λ (d : Doing). is_met d (due_by c ps other)) (went.others other is) ∙ met other

-- a fact of what each did, where one went on
one_keeps : (F : ℕ → Doing → Type 0) (pid : ℕ) (later : Doing) (old new : List (ℕ × Doing)) → WentOn pid later old new → ((other : ℕ) → F other (doing_of old other)) → F pid later → (other : ℕ) → F other (doing_of new other)
one_keeps F pid later old new went all one other = by (pid == other) refl
  where
    by : (b : Bool) → (pid == other) ≡ b → F other (doing_of new other)
    by true is = subst (λ (n : ℕ). F n (doing_of new n)) (eqb-true pid other is) (subst (λ (d : Doing). F pid d) (sym went.one) one)
    by false is = subst (λ (d : Doing). F other d) (sym (went.others other is)) (all other)

-- one process did so many more
one_counts : (records : List Rec) (rec : Rec) (pid more : ℕ) (later : Doing) (old new : List (ℕ × Doing)) → ((other : ℕ) → (doing_of old other).done ≡ done_since_entry other records) → WentOn pid later old new → later.done ≡ (doing_of old pid).done + more → ((other : ℕ) → is_entry_of other rec.event ≡ false) → ((other : ℕ) → instructions_of other rec.event ≡ cond (pid == other) more 0) → (other : ℕ) → (doing_of new other).done ≡ done_since_entry other (records ++ rec ∷ [])
one_counts records rec pid more later old new counts went count no_entry does other =
    by (pid == other) refl
    ∙ sym (done_more other records rec ∙ ap₂ (λ b n. cond b 0 (done_since_entry other records + n)) (no_entry other) (does other))
  where
    by : (b : Bool) → (pid == other) ≡ b → (doing_of new other).done ≡ done_since_entry other records + cond b more 0
    by true is =
        let same : pid ≡ other = eqb-true pid other is in
        subst (λ (n : ℕ). (doing_of new n).done ≡ done_since_entry n records + more) same (ap (λ (d : Doing). d.done) went.one ∙ (count ∙ ap (λ n. n + more) (counts pid)))
    by false is = ap (λ (d : Doing). d.done) (went.others other is) ∙ (counts other ∙ none_more (done_since_entry other records))

-- nobody did any
none_counts : (records : List Rec) (rec : Rec) (doings : List (ℕ × Doing)) → ((other : ℕ) → (doing_of doings other).done ≡ done_since_entry other records) → ((other : ℕ) → is_entry_of other rec.event ≡ false) → ((other : ℕ) → instructions_of other rec.event ≡ 0) → (other : ℕ) → (doing_of doings other).done ≡ done_since_entry other (records ++ rec ∷ [])
none_counts records rec doings counts no_entry does other =
    counts other
    ∙ (none_more (done_since_entry other records)
    ∙ sym (done_more other records rec ∙ ap₂ (λ b n. cond b 0 (done_since_entry other records + n)) (no_entry other) (does other)))

-- one begins anew
entry_counts : (records : List Rec) (kernel : ℕ) (entry : Entry) (old new : List (ℕ × Doing)) → ((other : ℕ) → (doing_of old other).done ≡ done_since_entry other records) → ((other : ℕ) → doing_of new other ≡ without entry.pid old other) → (other : ℕ) → (doing_of new other).done ≡ done_since_entry other (records ++ record { kernel = kernel; event = event.Enter entry } ∷ [])
entry_counts records kernel entry old new counts anew other =
    ap (λ (d : Doing). d.done) (anew other) ∙ (by (entry.pid == other) ∙ sym (done_more other records (record { kernel = kernel; event = event.Enter entry })))
  where
    by : (b : Bool) → (cond b fresh (doing_of old other)).done ≡ cond b 0 (done_since_entry other records + 0)
    by true = refl
    by false = counts other ∙ none_more (done_since_entry other records)

-- ---- what an entry leaves

idle_met : (doing : Doing) (due : Option ℕ) → IsIdle doing → is_met doing due ≡ true
idle_met doing due idle = ap₂ (λ n i. is_at_most n due && meets i due) idle.0 idle.1 ∙ none_met due
  where
    none_met : (o : Option ℕ) → (is_at_most 0 o && true) ≡ true
    none_met None = refl
    none_met (Some n) = ap (λ b. b && true) (le-leb 0 n (omega arith))

-- the others' images, and nobody goes
record Stays (c : Description) (ps ps_after : List Process) (pid : ℕ) : Type 0 where
  pub due : due_by c ps_after pid ≡ due_by c ps pid
  pub there : process_at ps_after pid ≡ None → process_at ps pid ≡ None

stays_by : (c : Description) (world world_after : World) (ps ps_after : List Process) (history : List Entry) (entry : Entry) (pid : ℕ) (p : Process) → Lawful c → state_of c history ≡ Some (unix_of c world ps) → after c (unix_of c world ps) entry ≡ Some (unix_of c world_after ps_after) → (entry.pid == pid) ≡ false → process_at ps pid ≡ Some p → Stays c ps ps_after pid
stays_by c world world_after ps ps_after history entry pid p lawful led after_is apart found =
    let number : p.pid ≡ pid = found_pid ps pid p found in
    let there : process_at ps p.pid ≡ Some p = ap (process_at ps) number ∙ found in
    let differs : p.pid ≢ entry.pid = λ (same : p.pid ≡ entry.pid). (let so : true ≡ false = sym (eq-eqb entry.pid pid (sym same ∙ number)) ∙ apart in absurd (cc (so))) in
    let stays = others_stay c history (unix_of c world ps) (unix_of c world_after ps_after) entry p (lawful_boots c lawful).0 led after_is there differs in
    let now : process_at ps_after pid ≡ Some stays.after = ap (process_at ps_after) (sym number) ∙ stays.there in
    record {
      due = ap (option_and_then (distance_of c)) now
          ∙ (ap (λ image. option_and_then (λ program. distance program image) (program_at c.programs image.number)) stays.image
          ∙ sym (ap (option_and_then (distance_of c)) found));
      there = λ none. let so = sym now ∙ none in absurd (cc (so));
    }

-- where a process was, or had nothing to meet
met_after : (c : Description) (world world_after : World) (ps ps_after : List Process) (history : List Entry) (entry : Entry) (pid : ℕ) (doing : Doing) (o : Option Process) → Lawful c → state_of c history ≡ Some (unix_of c world ps) → after c (unix_of c world ps) entry ≡ Some (unix_of c world_after ps_after) → (entry.pid == pid) ≡ false → (process_at ps pid ≡ None → IsIdle doing) → process_at ps pid ≡ o → is_met doing (due_by c ps_after pid) ≡ is_met doing (due_by c ps pid)
met_after c world world_after ps ps_after history entry pid doing None lawful led after_is apart absent is =
    idle_met doing (due_by c ps_after pid) (absent is) ∙ sym (idle_met doing (due_by c ps pid) (absent is))
met_after c world world_after ps ps_after history entry pid doing (Some p) lawful led after_is apart absent is =
    ap (is_met doing) (stays_by c world world_after ps ps_after history entry pid p lawful led after_is apart is).due

absent_after : (c : Description) (world world_after : World) (ps ps_after : List Process) (history : List Entry) (entry : Entry) (pid : ℕ) (o : Option Process) → Lawful c → state_of c history ≡ Some (unix_of c world ps) → after c (unix_of c world ps) entry ≡ Some (unix_of c world_after ps_after) → (entry.pid == pid) ≡ false → process_at ps pid ≡ o → process_at ps_after pid ≡ None → process_at ps pid ≡ None
absent_after c world world_after ps ps_after history entry pid None lawful led after_is apart is none = is
absent_after c world world_after ps ps_after history entry pid (Some p) lawful led after_is apart is none =
    (stays_by c world world_after ps ps_after history entry pid p lawful led after_is apart is).there none

-- ---- whether the process of an entry met what it did

record Settles (c : Description) (ps : List Process) (entry : Entry) (old new : List (ℕ × Doing)) (kept : Bool) : Type 0 where
  pub met : is_met (doing_of old entry.pid) (due_by c ps entry.pid) ≡ kept
  pub anew : (other : ℕ) → doing_of new other ≡ without entry.pid old other

settles_by : (c : Description) (world world_after : World) (ps ps_after : List Process) (entry : Entry) (call : Option Call) (way : ℕ) (old mid new : List (ℕ × Doing)) (kept : Bool) → entry.call ≡ call → JudgesEntry c ps entry call old true mid → way_of c (unix_of c world ps) entry ≡ way → after c (unix_of c world ps) entry ≡ Some (unix_of c world_after ps_after) → EntersAt entry way mid kept new → Settles c ps entry old new kept
settles_by c world world_after ps ps_after entry None way old mid new kept calls judges way_is after_is enters = record {
  met = sym judges.0 ∙ sym (enters.met ∙ ap (λ (k : Option Call). is_none k || is_met (doing_of mid entry.pid) (Some way)) calls);
  anew = λ other. enters.anew other ∙ ap (λ (m : List (ℕ × Doing)). without entry.pid m other) judges.1;
}
settles_by c world world_after ps ps_after entry (Some call) way old mid new kept calls judges way_is after_is enters = record {
  met =
      ap (is_met (doing_of old entry.pid)) (due_is_way c (unix_of c world ps) (unix_of c world_after ps_after) entry call calls after_is ∙ ap Some way_is)
      ∙ ap (λ (m : List (ℕ × Doing)). is_met (doing_of m entry.pid) (Some way)) (sym judges.1)
      ∙ sym (enters.met ∙ ap (λ (k : Option Call). is_none k || is_met (doing_of mid entry.pid) (Some way)) calls);
  anew = λ other. enters.anew other ∙ ap (λ (m : List (ℕ × Doing)). without entry.pid m other) judges.1;
}

settles : (c : Description) (world world_after : World) (ps ps_after : List Process) (entry : Entry) (way : ℕ) (old mid new : List (ℕ × Doing)) (kept : Bool) → JudgesEntry c ps entry entry.call old true mid → way_of c (unix_of c world ps) entry ≡ way → after c (unix_of c world ps) entry ≡ Some (unix_of c world_after ps_after) → EntersAt entry way mid kept new → Settles c ps entry old new kept
settles c world world_after ps ps_after entry way old mid new kept judges way_is after_is enters = settles_by c world world_after ps ps_after entry entry.call way old mid new kept refl judges way_is after_is enters

anew_keeps : (F : ℕ → Doing → Type 0) (pid : ℕ) (old new : List (ℕ × Doing)) → ((other : ℕ) → doing_of new other ≡ without pid old other) → ((other : ℕ) → (pid == other) ≡ false → F other (doing_of old other)) → ((other : ℕ) → F other fresh) → (other : ℕ) → F other (doing_of new other)
anew_keeps F pid old new anew all none other = subst (λ (d : Doing). F other d) (sym (anew other)) (by (pid == other) refl)
  where
    by : (b : Bool) → (pid == other) ≡ b → F other (cond b fresh (doing_of old other))
    by true is = none other
    by false is = all other is

-- ---- the loop

-- before the first record
counts_begin : (c : Description) (trace : List Rec) (doings : List (ℕ × Doing)) → doings ≡ [] → walks.Begins c trace (λ world ps past rest. CountsAt true c trace rest world ps past doings)
counts_begin c trace doings none = λ world ps boots ascends.
    subst (λ (m : List (ℕ × Doing)). Counting c trace trace world ps (no_past c) m) (sym none) (record {
      history = [];
      led = ap Some (sym boots);
      unix = ap Some (sym boots);
      counts = λ pid. refl;
      few = λ pid. omega arith;
      absent = λ pid nobody. (refl, refl);
      on = λ each met. each;
      back = λ counted. (counted, λ pid. idle_met fresh (due_by c ps pid) (refl, refl));
    })

never : (b : Bool) → (b ≡ true → ⊥) → false ≡ b
never true no_way = absurd (no_way refl)
never false no_way = refl

not_met : (c : Description) (trace rest : List Rec) (world : World) (ps : List Process) (past : Past) (doings : List (ℕ × Doing)) (pid : ℕ) → Counting c trace rest world ps past doings → is_met (doing_of doings pid) (due_by c ps pid) ≡ false → false ≡ bursts_are_counted c trace
not_met c trace rest world ps past doings pid here is =
    never (bursts_are_counted c trace) (λ counted. let so = sym is ∙ (here.back counted).1 pid in absurd (cc (so)))

-- at the death of a process that didn't meet what it did
dies_by : (c : Description) (ps : List Process) (entry : Entry) (call : Option Call) (old new : List (ℕ × Doing)) → JudgesEntry c ps entry call old false new → is_met (doing_of old entry.pid) (due_by c ps entry.pid) ≡ false
dies_by c ps entry None old new judges = sym judges.0
dies_by c ps entry (Some call) old new judges = let so = judges.0 in absurd (cc (so))

breaks_by : (c : Description) (kernel : ℕ) (trace rest : List Rec) (e : Event) (world : World) (ps : List Process) (past : Past) (old new : List (ℕ × Doing)) → Counting c trace (record { kernel = kernel; event = e } ∷ rest) world ps past old → Judges c ps e old false new → false ≡ bursts_are_counted c trace
breaks_by c kernel trace rest (event.Enter entry) world ps past old new here judges =
    not_met c trace (record { kernel = kernel; event = event.Enter entry } ∷ rest) world ps past old entry.pid here (dies_by c ps entry entry.call old new judges)
breaks_by c kernel trace rest (event.Burst pid count) world ps past old new here judges = let so = judges.0 in absurd (cc (so))
breaks_by c kernel trace rest (event.Issue pid number call) world ps past old new here judges = let so = judges.0 in absurd (cc (so))
breaks_by c kernel trace rest e world ps past old new here judges = let so = judges.0 in absurd (cc (so))

-- behind all
all_from : (c : Description) (ps all : List Process) (doings : List (ℕ × Doing)) → AreMet c ps doings → all_met c ps doings all ≡ true
all_from c ps [] doings met = refl
all_from c ps (p ∷ more) doings met = ap (λ b. b && all_met c ps doings more) (met p.pid) ∙ all_from c ps more doings met

found_met : (c : Description) (ps all : List Process) (doings : List (ℕ × Doing)) (pid : ℕ) (p : Process) → all_met c ps doings all ≡ true → process_at all pid ≡ Some p → is_met (doing_of doings pid) (due_by c ps pid) ≡ true
found_met c ps [] doings pid p met found = absurd (cc (found))
found_met c ps (q ∷ more) doings pid p met found = by (q.pid == pid) refl (found_met c ps more doings pid p parts.1) found
  where
    parts : (is_met (doing_of doings q.pid) (due_by c ps q.pid) ≡ true) × (all_met c ps doings more ≡ true)
    parts = and_parts (is_met (doing_of doings q.pid) (due_by c ps q.pid)) (all_met c ps doings more) met

    by : (b : Bool) → (q.pid == pid) ≡ b → (process_at more pid ≡ Some p → is_met (doing_of doings pid) (due_by c ps pid) ≡ true) → cond b (Some q) (process_at more pid) ≡ Some p → is_met (doing_of doings pid) (due_by c ps pid) ≡ true
    by true is further so = subst (λ (n : ℕ). is_met (doing_of doings n) (due_by c ps n) ≡ true) (eqb-true q.pid pid is) parts.0
    by false is further so = further so

met_all : (c : Description) (ps : List Process) (doings : List (ℕ × Doing)) → all_met c ps doings ps ≡ true → AreMet c ps doings
met_all c ps doings met pid = by (process_at ps pid) refl
  where
    by : (o : Option Process) → process_at ps pid ≡ o → is_met (doing_of doings pid) (due_by c ps pid) ≡ true
    by None is = ap (is_met (doing_of doings pid)) (due_without c ps pid is) ∙ met_none (doing_of doings pid)
    by (Some p) is = found_met c ps ps doings pid p met is

same_truth : (a b : Bool) → (a ≡ true → b ≡ true) → (b ≡ true → a ≡ true) → a ≡ b
same_truth true b on back = sym (on refl)
same_truth false true on back = back refl
same_truth false false on back = refl

pub counting_ends : (c : Description) (trace : List Rec) (world : World) (ps : List Process) (past : Past) (doings : List (ℕ × Doing)) → Counting c trace [] world ps past doings → all_met c ps doings ps ≡ bursts_are_counted c trace
counting_ends c trace world ps past doings here =
    same_truth (all_met c ps doings ps) (bursts_are_counted c trace) (λ met. here.on refl (met_all c ps doings met)) (λ counted. all_from c ps ps doings (here.back counted).1)

both_true : (a b : Bool) → a ≡ true → b ≡ true → (a && b) ≡ true
both_true true b is more = more
both_true false b is more = is

-- behind a record that is no entry
goes_other : (c : Description) (kernel : ℕ) (trace rest : List Rec) (e : Event) (world : World) (ps : List Process) (past : Past) (old new : List (ℕ × Doing)) → Counting c trace (record { kernel = kernel; event = e } ∷ rest) world ps past old → state_by c e past.unix ≡ past.unix → ((pid : ℕ) → (doing_of new pid).done ≡ done_since_entry pid (past.records ++ record { kernel = kernel; event = e } ∷ [])) → ((pid : ℕ) → (doing_of new pid).most ≤ (doing_of new pid).done) → ((pid : ℕ) → process_at ps pid ≡ None → IsIdle (doing_of new pid)) → (AreMet c ps new → (keeps_count c past e ≡ true) × AreMet c ps old) → (keeps_count c past e ≡ true → AreMet c ps old → AreMet c ps new) → Counting c trace rest world ps (past_with c (record { kernel = kernel; event = e }) past) new
goes_other c kernel trace rest e world ps past old new here stays counts few absent before behind =
    let rec : Rec = record { kernel = kernel; event = e } in
    record {
      history = here.history;
      led = here.led;
      unix = stays ∙ here.unix;
      counts = counts;
      few = few;
      absent = absent;
      on = λ each met. here.on (both_true (keeps_count c past e) (each_from c (λ p r behind. keeps_count c p r.event) (past_with c rec past) rest) (before met).0 each) (before met).1;
      back = λ counted.
          let h = here.back counted in
          let parts = and_parts (keeps_count c past e) (each_from c (λ p r behind. keeps_count c p r.event) (past_with c rec past) rest) h.0 in
          (parts.1, behind parts.0 h.1);
    }

-- behind an entry
goes_entry : (c : Description) (kernel way : ℕ) (trace rest : List Rec) (entry : Entry) (world later : World) (ps qs : List Process) (past : Past) (old new : List (ℕ × Doing)) → Lawful c → Counting c trace (walks.entering kernel entry ∷ rest) world ps past old → walks.Makes c world ps entry way later qs → Settles c ps entry old new true → Counting c trace rest later qs (past_with c (walks.entering kernel entry) past) new
goes_entry c kernel way trace rest entry world later ps qs past old new lawful here makes settled =
    record {
      history = here.history ++ entry ∷ [];
      led = state_from-append c (Some (boot_of c)) here.history (entry ∷ []) ∙ (ap (λ s. state_from c s (entry ∷ [])) here.led ∙ makes.after_is);
      unix = ap (λ s. option_and_then (λ w. after c w entry) s) here.unix ∙ makes.after_is;
      counts = entry_counts past.records kernel entry old new here.counts settled.anew;
      few = anew_keeps (λ pid (d : Doing). d.most ≤ d.done) entry.pid old new settled.anew (λ other is. here.few other) (λ other. omega arith);
      absent = anew_keeps (λ pid (d : Doing). process_at qs pid ≡ None → IsIdle d) entry.pid old new settled.anew (λ other is none. here.absent other (absent_after c world later ps qs here.history entry other (process_at ps other) lawful here.led makes.after_is is refl none)) (λ other none. (refl, refl));
      on = λ each met. here.on each (λ other. was_met met other (entry.pid == other) refl);
      back = λ counted.
          let h = here.back counted in
          (h.0, anew_keeps (λ pid (d : Doing). is_met d (due_by c qs pid) ≡ true) entry.pid old new settled.anew (λ other is. same other is ∙ h.1 other) (λ other. idle_met fresh (due_by c qs other) (refl, refl)));
    }
  where
    same : (other : ℕ) → (entry.pid == other) ≡ false → is_met (doing_of old other) (due_by c qs other) ≡ is_met (doing_of old other) (due_by c ps other)
    same other is = met_after c world later ps qs here.history entry other (doing_of old other) (process_at ps other) lawful here.led makes.after_is is (here.absent other) refl

    was_met : AreMet c qs new → (other : ℕ) (b : Bool) → (entry.pid == other) ≡ b → is_met (doing_of old other) (due_by c ps other) ≡ true
    was_met met other true is = subst (λ (n : ℕ). is_met (doing_of old n) (due_by c ps n) ≡ true) (eqb-true entry.pid other is) settled.met
    was_met met other false is =
        sym (same other is)
        ∙ (sym (ap (λ (d : Doing). is_met d (due_by c qs other)) (settled.anew other ∙ ap (λ b. cond b fresh (doing_of old other)) is))
        ∙ met other)

few_burst : (there : Bool) (count : ℕ) (doing : Doing) → doing.most ≤ doing.done → (burst_behind there count doing).most ≤ (burst_behind there count doing).done
few_burst true count doing few = omega (arith)
few_burst false count doing few = omega (arith, few)

idle_burst : (o : Option Process) (count : ℕ) (doing : Doing) → o ≡ None → IsIdle doing → IsIdle (burst_behind (is_some o) count doing)
idle_burst None count doing none idle = idle
idle_burst (Some p) count doing none idle = absurd (cc (none))

idle_issue : (o : Option Process) (doing : Doing) → o ≡ None → IsIdle doing → IsIdle (issue_behind (is_some o) doing)
idle_issue None doing none idle = idle
idle_issue (Some p) doing none idle = absurd (cc (none))

goes_by : (c : Description) (kernel : ℕ) (trace rest : List Rec) (e : Event) (world : World) (ps : List Process) (past : Past) (old new : List (ℕ × Doing)) → is_entry e ≡ false → Counting c trace (record { kernel = kernel; event = e } ∷ rest) world ps past old → Judges c ps e old true new → Counting c trace rest world ps (past_with c (record { kernel = kernel; event = e }) past) new
goes_by c kernel trace rest (event.Enter entry) world ps past old new other here judges = absurd (true≢false other)
goes_by c kernel trace rest (event.Burst pid count) world ps past old new other here judges =
    let there = is_some (process_at ps pid) in
    let doing = doing_of old pid in
    let later = burst_behind there count doing in
    let went : WentOn pid later old new = judges.1 in
    let kept_is : keeps_count c past (event.Burst pid count) ≡ is_at_most (doing.done + count) (due_by c ps pid) = ap₂ (λ n due. is_at_most (n + count) due) (sym (here.counts pid)) (due_is c world ps past pid here.unix) in
    let owes = burst_owes doing there count (due_by c ps pid) (here.few pid) (λ none. nobody_due c ps pid (process_at ps pid) refl none) in
    goes_other c kernel trace rest (event.Burst pid count) world ps past old new here refl
    (one_counts past.records (record { kernel = kernel; event = event.Burst pid count }) pid count later old new here.counts went refl (λ other. refl) (λ other. refl))
    (one_keeps (λ other (d : Doing). d.most ≤ d.done) pid later old new went here.few (few_burst there count doing (here.few pid)))
    (one_keeps (λ other (d : Doing). process_at ps other ≡ None → IsIdle d) pid later old new went here.absent (λ none. idle_burst (process_at ps pid) count doing none (here.absent pid none)))
    (λ met. let h = before_one c ps pid later old new (is_at_most (doing.done + count) (due_by c ps pid)) went owes met in (kept_is ∙ h.0, h.1))
    (λ kept met. behind_one c ps pid later old new (is_at_most (doing.done + count) (due_by c ps pid)) went owes (sym kept_is ∙ kept) met)
goes_by c kernel trace rest (event.Issue pid number call) world ps past old new other here judges =
    let there = is_some (process_at ps pid) in
    let doing = doing_of old pid in
    let later = issue_behind there doing in
    let went : WentOn pid later old new = judges.1 in
    let kept_is : keeps_count c past (event.Issue pid number call) ≡ is_exactly doing.done (due_by c ps pid) = ap₂ is_exactly (sym (here.counts pid)) (due_is c world ps past pid here.unix) in
    let owes = issue_owes doing there (due_by c ps pid) (λ none. nobody_due c ps pid (process_at ps pid) refl none) in
    goes_other c kernel trace rest (event.Issue pid number call) world ps past old new here refl
    (one_counts past.records (record { kernel = kernel; event = event.Issue pid number call }) pid 0 later old new here.counts went (none_more doing.done) (λ other. refl) (λ other. none_either (pid == other)))
    (one_keeps (λ other (d : Doing). d.most ≤ d.done) pid later old new went here.few (here.few pid))
    (one_keeps (λ other (d : Doing). process_at ps other ≡ None → IsIdle d) pid later old new went here.absent (λ none. idle_issue (process_at ps pid) doing none (here.absent pid none)))
    (λ met. let h = before_one c ps pid later old new (is_exactly doing.done (due_by c ps pid)) went owes met in (kept_is ∙ h.0, h.1))
    (λ kept met. behind_one c ps pid later old new (is_exactly doing.done (due_by c ps pid)) went owes (sym kept_is ∙ kept) met)
  where
    none_either : (b : Bool) → 0 ≡ cond {A = ℕ} b 0 0
    none_either true = refl
    none_either false = refl
goes_by c kernel trace rest e world ps past old new other here judges =
    subst (λ (m : List (ℕ × Doing)). Counting c trace rest world ps (past_with c (record { kernel = kernel; event = e }) past) m) (sym judges.1)
    (goes_other c kernel trace rest e world ps past old old here refl
    (none_counts past.records (record { kernel = kernel; event = e }) old here.counts (λ other. refl) (λ other. refl))
    here.few
    here.absent
    (λ met. (refl, met))
    (λ kept met. met))

-- ---- as long as all were met

passes_by : (c : Description) (kernel : ℕ) (trace rest : List Rec) (e : Event) (world : World) (ps : List Process) (past : Past) (kept later : Bool) (old new : List (ℕ × Doing)) → is_entry e ≡ false → CountsAt kept c trace (record { kernel = kernel; event = e } ∷ rest) world ps past old → JudgesIf kept c ps e old later new → CountsAt later c trace rest world ps (past_with c (record { kernel = kernel; event = e }) past) new
passes_by c kernel trace rest e world ps past true true old new other here judges = goes_by c kernel trace rest e world ps past old new other here judges
passes_by c kernel trace rest e world ps past true false old new other here judges = breaks_by c kernel trace rest e world ps past old new here judges
passes_by c kernel trace rest e world ps past false true old new other here judges = absurd (true≢false judges)
passes_by c kernel trace rest e world ps past false false old new other here judges = here

pub counts_pass : (c : Description) (trace : List Rec) (old new : Counts) (world : World) (ps : List Process) (past : Past) (rec : Rec) (rest : List Rec) → past.unix ≡ Some (unix_of c world ps) → Ascending ps → is_entry rec.event ≡ false → CountsAt old.kept c trace (rec ∷ rest) world ps past old.doings.entries → JudgesIf old.kept c ps rec.event old.doings.entries new.kept new.doings.entries → CountsAt new.kept c trace rest world ps (past_with c rec past) new.doings.entries
counts_pass c trace old new world ps past rec rest unix ascends other here judges =
    passes_by c rec.kernel trace rest rec.event world ps past old.kept new.kept old.doings.entries new.doings.entries other here judges

enters_by : (c : Description) (kernel way : ℕ) (trace rest : List Rec) (entry : Entry) (world later : World) (ps qs : List Process) (past : Past) (kept still last : Bool) (old mid new : List (ℕ × Doing)) → Lawful c → walks.Makes c world ps entry way later qs → CountsAt kept c trace (walks.entering kernel entry ∷ rest) world ps past old → JudgesIf kept c ps (event.Enter entry) old still mid → EntersIf still entry way mid last new → CountsAt last c trace rest later qs (past_with c (walks.entering kernel entry) past) new
enters_by c kernel way trace rest entry world later ps qs past true true true old mid new lawful makes here judges enters =
    goes_entry c kernel way trace rest entry world later ps qs past old new lawful here makes (settles c world later ps qs entry way old mid new true judges makes.way_is makes.after_is enters)
enters_by c kernel way trace rest entry world later ps qs past true true false old mid new lawful makes here judges enters =
    not_met c trace (walks.entering kernel entry ∷ rest) world ps past old entry.pid here (settles c world later ps qs entry way old mid new false judges makes.way_is makes.after_is enters).met
enters_by c kernel way trace rest entry world later ps qs past true false true old mid new lawful makes here judges enters = absurd (true≢false enters)
enters_by c kernel way trace rest entry world later ps qs past true false false old mid new lawful makes here judges enters = breaks_by c kernel trace rest (event.Enter entry) world ps past old mid here judges
enters_by c kernel way trace rest entry world later ps qs past false true last old mid new lawful makes here judges enters = absurd (true≢false judges)
enters_by c kernel way trace rest entry world later ps qs past false false true old mid new lawful makes here judges enters = absurd (true≢false enters)
enters_by c kernel way trace rest entry world later ps qs past false false false old mid new lawful makes here judges enters = here

pub counts_enter : (c : Description) (trace : List Rec) (old mid new : Counts) (world later : World) (ps qs : List Process) (past : Past) (kernel way : ℕ) (entry : Entry) (rest : List Rec) → Lawful c → past.unix ≡ Some (unix_of c world ps) → Ascending ps → walks.Makes c world ps entry way later qs → CountsAt old.kept c trace (walks.entering kernel entry ∷ rest) world ps past old.doings.entries → JudgesIf old.kept c ps (event.Enter entry) old.doings.entries mid.kept mid.doings.entries → EntersIf mid.kept entry way mid.doings.entries new.kept new.doings.entries → CountsAt new.kept c trace rest later qs (past_with c (walks.entering kernel entry) past) new.doings.entries
counts_enter c trace old mid new world later ps qs past kernel way entry rest lawful unix ascends makes here judges enters =
    enters_by c kernel way trace rest entry world later ps qs past old.kept mid.kept new.kept old.doings.entries mid.doings.entries new.doings.entries lawful makes here judges enters

-- before the first record
pub counts_begins : (c : Description) (trace : List Rec) (counts : Counts) → IsFresh counts → walks.Begins c trace (λ world ps past rest. CountsBefore c trace rest world ps past counts)
counts_begins c trace counts fresh = λ world ps boots ascends.
    subst (λ (b : Bool). CountsAt b c trace trace world ps (no_past c) counts.doings.entries) (sym fresh.kept) (counts_begin c trace counts.doings.entries fresh.doings world ps boots ascends)

-- behind the last record, by whether all were met so far
ended_by : (c : Description) (trace : List Rec) (world : World) (ps : List Process) (past : Past) (kept is : Bool) (doings : List (ℕ × Doing)) → kept ≡ is → CountsAt kept c trace [] world ps past doings → CountsAt is c trace [] world ps past doings
ended_by c trace world ps past kept is doings same here = subst (λ (b : Bool). CountsAt b c trace [] world ps past doings) same here

pub counts_break : (c : Description) (trace : List Rec) (ps : List Process) (counts : Counts) → counts.kept ≡ false → CountsAll c trace ps counts → false ≡ bursts_are_counted c trace
counts_break c trace ps counts broken end = ended_by c trace end.world ps end.past counts.kept false counts.doings.entries broken end.tells

pub counts_end : (c : Description) (trace : List Rec) (ps : List Process) (counts : Counts) → counts.kept ≡ true → CountsAll c trace ps counts → all_met c ps counts.doings.entries ps ≡ bursts_are_counted c trace
counts_end c trace ps counts kept end =
    counting_ends c trace end.world ps end.past counts.doings.entries (ended_by c trace end.world ps end.past counts.kept true counts.doings.entries kept end.tells)
