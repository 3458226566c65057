-- What a process's progress tells of how it stands in the one-kernel Unix.
use Rattle.std.proofs.Common.{◌≡◌, ◌≢◌, ◌∙◌, ◌≤◌, ℕ, ◌+◌, Bool, true, false, ◌&&◌, cond, List, [], ◌∷◌, ◌++◌, length, Option, Some, None, refl, sym, ap, subst, inl, inr}
use Rattle.std.specs.Prelude.{◌==◌, ◌⊎◌}
use Rattle.std.specs.List.{AllByRecursion}
use Rattle.std.proofs.lemmas.Bool.{and_parts, eqb-true, true≢false}
use Rattle.std.proofs.lemmas.Bool.Decides.{eqb_tells}
use Rattle.sprite_ids.proofs.ListLaws.{some_is}
use Rattle.process_machine.specs.declared.call.Call.{Call}
use Rattle.process_machine.specs.declared.call.Call.TheVariants as call
use Rattle.process_machine.specs.declared.call.Reply.{Reply}
use Rattle.process_machine.specs.declared.program.Program.{Program}
use Rattle.process_machine.specs.Fresh.{fresh_machine}
use Rattle.unix_calls.specs.declared.Description.{Description}
use Rattle.unix_calls.specs.declared.description.ProgramLine.{ProgramLine}
use Rattle.unix_calls.specs.declared.description.StartLine.{StartLine}
use Rattle.unix_calls.specs.declared.Entry.{Entry}
use Rattle.unix_calls.specs.declared.entry.Part.{Part}
use Rattle.unix_calls.specs.declared.entry.Part.TheVariants as part
use Rattle.unix_calls.specs.declared.Event.{Event}
use Rattle.unix_calls.specs.declared.Event.TheVariants as event
use Rattle.unix_calls.specs.declared.Rec.{Rec}
use Rattle.unix_calls.specs.declared.state.Process.{Process}
use Rattle.unix_calls.specs.State.{Unix, process_at, next_pid}
use Rattle.unix_calls.specs.Same.{same_reply}
use Rattle.unix_calls.specs.Answers.{program_at}
use Rattle.unix_calls.specs.Boot.{new_process, started_by, started, boot_of}
use Rattle.unix_calls.specs.After.{after}
use Rattle.unix_calls.specs.Laws.{is_last_call}
use Rattle.unix_calls.proofs.SameLaws.{call_is}
use Rattle.unix_calls.proofs.ProcessLaws.{each_put, found_each}
use Rattle.unix_calls.proofs.NumberLaws.{Numbered, boot_numbered}
use Rattle.unix_calls.proofs.EndLaws.{numbered_after}
use Rattle.call_journal.specs.Past.{Past, folded_from, state_by, past_with, past_from, no_past}
use Rattle.call_journal.specs.Once.{Progress, Between, Issued, Asked, Entered, Over, over_after, whole_of, entered_as, done_as, is_same_call, if_so, death_of, progress_after, is_call_event, progress_on, progress_step, progress_of, is_in_turn}
use Rattle.trace_laws.specs.Numbers.{Standing, stood, standing_of, standing_in, standing_at, one_more, standing_by, asks_well, StandsAs, ProgressTellsNumbers, IsSoFar, OnceTellsNumbers}
use Rattle.trace_laws.proofs.EntryLaws.{entry_counts}
use Rattle.trace_laws.proofs.TruthLaws.{not_true}

-- ---- one event of a process

-- a test was passed
pub passed : (b : Bool) (progress : Option Progress) (r : Progress) → if_so b progress ≡ Some r → (b ≡ true) × (progress ≡ Some r)
passed true progress r h = (refl, h)
passed false progress r h = absurd (cc)

same_in : (called : Call) (o : Option Call) → is_same_call called o ≡ true → Some called ≡ o
same_in called None h = absurd (true≢false (sym h))
same_in called (Some other) h = ap (λ (x : Call). Some x) (call_is called other h)

issue_stands : (s : Standing) (q r : Progress) (pid number : ℕ) (called : Call) → StandsAs q s → progress_after q (event.Issue pid number called) ≡ Some r → StandsAs r s
issue_stands s (Between n) r pid number called h is =
    let parts = passed (number == n + 1) (Some (Issued number called)) r is in
    subst (λ (p : Progress). StandsAs p s) (some_is (Issued number called) r parts.1) (ap one_more h ∙ ap (λ k. stood k false false) (sym (eqb-true number (n + 1) parts.0)))
issue_stands s (Issued n out) r pid number called h is = absurd (cc)
issue_stands s (Asked n out) r pid number called h is = absurd (cc)
issue_stands s (Entered n out reply) r pid number called h is = absurd (cc)
issue_stands s Over r pid number called h is = absurd (cc)

over_stands : (s : Standing) (n : ℕ) (called : Call) → s ≡ stood n false (is_last_call called) → StandsAs (over_after called n) s
over_stands s n (call.Exit code) h = (ap (λ (x : Standing). x.asks) h, ap (λ (x : Standing). x.ended) h)
over_stands s n call.BadStep h = (ap (λ (x : Standing). x.asks) h, ap (λ (x : Standing). x.ended) h)
over_stands s n _ h = h

return_stands : (s : Standing) (q r : Progress) (pid number : ℕ) (given : Reply) → StandsAs q s → progress_after q (event.Return pid number given) ≡ Some r → StandsAs r s
return_stands s (Entered n called reply) r pid number given h is =
    let parts = passed (number == n && same_reply reply given) (Some (over_after called n)) r is in
    subst (λ (p : Progress). StandsAs p s) (some_is (over_after called n) r parts.1) (over_stands s n called h)
return_stands s (Between n) r pid number given h is = absurd (cc)
return_stands s (Issued n called) r pid number given h is = absurd (cc)
return_stands s (Asked n called) r pid number given h is = absurd (cc)
return_stands s Over r pid number given h is = absurd (cc)

-- an entry of a process that is so far
dies : (s t : Standing) (n : ℕ) (kind : Part) (claimed : Option Call) (r : Progress) → t ≡ standing_by kind claimed s → death_of n kind ≡ Some r → StandsAs r t
dies s t n part.Death claimed r now is =
    subst (λ (p : Progress). StandsAs p t) (some_is Over r is) (ap (λ (x : Standing). x.asks) (now ∙ dead claimed), ap (λ (x : Standing). x.ended) (now ∙ dead claimed))
  where
    dead : (o : Option Call) → standing_by part.Death o s ≡ stood s.calls false true
    dead o = refl
dies s t n part.Whole claimed r now is = absurd (cc)
dies s t n part.Ask claimed r now is = absurd (cc)
dies s t n part.Done claimed r now is = absurd (cc)

-- behind the entry of the call that is out
counted_stands : (s t : Standing) (n : ℕ) (called : Call) (reply : Option Reply) (r : Progress) → t ≡ stood (s.calls + 1) false (is_last_call called) → s.calls + 1 ≡ n → whole_of n called reply ≡ Some r → StandsAs r t
counted_stands s t n called None r now calls is = absurd (cc)
counted_stands s t n called (Some reply) r now calls is =
    subst (λ (p : Progress). StandsAs p t) (some_is (Entered n called reply) r is) (now ∙ ap (λ k. stood k false (is_last_call called)) calls)

issued_stands : (s t : Standing) (n : ℕ) (called : Call) (kind : Part) (reply : Option Reply) (r : Progress) → StandsAs (Issued n called) s → t ≡ standing_by kind (Some called) s → asks_well kind (Some called) ≡ true → entered_as kind n called reply ≡ Some r → StandsAs r t
issued_stands s t n called part.Whole reply r h now asks is = counted_stands s t n called reply r now (ap (λ (x : Standing). x.calls) h) is
issued_stands s t n called part.Ask None r h now asks is =
    subst (λ (p : Progress). StandsAs p t) (some_is (Asked n called) r is) (ap one_more now ∙ ap (λ (x : Standing). stood x.calls true false) h, not_true (is_last_call called) asks)
issued_stands s t n called part.Ask (Some reply) r h now asks is = absurd (cc)
issued_stands s t n called part.Done reply r h now asks is = absurd (cc)
issued_stands s t n called part.Death reply r h now asks is = absurd (cc)

asked_stands : (s t : Standing) (n : ℕ) (called : Call) (kind : Part) (reply : Option Reply) (r : Progress) → StandsAs (Asked n called) s → t ≡ standing_by kind (Some called) s → done_as kind n called reply ≡ Some r → StandsAs r t
asked_stands s t n called part.Done reply r h now is =
    counted_stands s t n called reply r (now ∙ ap (λ b. stood (s.calls + 1) false b) (sym h.1)) (ap (λ (x : Standing). x.calls) h.0) is
asked_stands s t n called part.Whole reply r h now is = absurd (cc)
asked_stands s t n called part.Ask reply r h now is = absurd (cc)
asked_stands s t n called part.Death reply r h now is = absurd (cc)

enter_stands : (s t : Standing) (q r : Progress) (entry : Entry) → t ≡ standing_by entry.part entry.call s → asks_well entry.part entry.call ≡ true → StandsAs q s → progress_after q (event.Enter entry) ≡ Some r → StandsAs r t
enter_stands s t (Between n) r entry now asks h is =
    dies s t n entry.part entry.call r now (passed (entry.number == n + 1) (death_of n entry.part) r is).1
enter_stands s t (Issued n called) r entry now asks h is =
    let parts = passed (entry.number == n && is_same_call called entry.call) (entered_as entry.part n called entry.reply) r is in
    let same = sym (same_in called entry.call (and_parts (entry.number == n) (is_same_call called entry.call) parts.0).1) in
    issued_stands s t n called entry.part entry.reply r h (now ∙ ap (λ (o : Option Call). standing_by entry.part o s) same) (ap (λ (o : Option Call). asks_well entry.part o) (sym same) ∙ asks) parts.1
enter_stands s t (Asked n called) r entry now asks h is =
    let parts = passed (entry.number == n && is_same_call called entry.call) (done_as entry.part n called entry.reply) r is in
    let same = sym (same_in called entry.call (and_parts (entry.number == n) (is_same_call called entry.call) parts.0).1) in
    asked_stands s t n called entry.part entry.reply r h (now ∙ ap (λ (o : Option Call). standing_by entry.part o s) same) parts.1
enter_stands s t (Entered n called reply) r entry now asks h is = absurd (cc)
enter_stands s t Over r entry now asks h is = absurd (cc)

-- ---- one event of any process

-- the processes are numbered, and one of them stands as it is so far
pub record Fits (pid : ℕ) (u : Unix) (q : Progress) : Type 0 where
  pub numbered : Numbered u.processes
  pub stands : StandsAs q (standing_at u pid)

-- an event that is no entry, and not of the process
fits_same : (pid : ℕ) (u v : Unix) (q r : Progress) → Fits pid u q → Some u ≡ Some v → Some q ≡ Some r → Fits pid v r
fits_same pid u v q r f state so =
    subst (λ (w : Unix). Fits pid w r) (some_is u v state) (subst (λ (p : Progress). Fits pid u p) (some_is q r so) f)

issue_fits : (pid : ℕ) (u v : Unix) (q r : Progress) (p number : ℕ) (called : Call) (b : Bool) → Fits pid u q → Some u ≡ Some v → cond b (progress_after q (event.Issue p number called)) (Some q) ≡ Some r → Fits pid v r
issue_fits pid u v q r p number called true f state so =
    subst (λ (w : Unix). Fits pid w r) (some_is u v state) (record { numbered = f.numbered; stands = issue_stands (standing_at u pid) q r p number called f.stands so })
issue_fits pid u v q r p number called false f state so = fits_same pid u v q r f state so

return_fits : (pid : ℕ) (u v : Unix) (q r : Progress) (p number : ℕ) (given : Reply) (b : Bool) → Fits pid u q → Some u ≡ Some v → cond b (progress_after q (event.Return p number given)) (Some q) ≡ Some r → Fits pid v r
return_fits pid u v q r p number given true f state so =
    subst (λ (w : Unix). Fits pid w r) (some_is u v state) (record { numbered = f.numbered; stands = return_stands (standing_at u pid) q r p number given f.stands so })
return_fits pid u v q r p number given false f state so = fits_same pid u v q r f state so

entry_fits : (c : Description) (pid : ℕ) (u v : Unix) (q r : Progress) (entry : Entry) → ((entry.pid == pid) ≡ true × (entry.pid ≡ pid)) ⊎ ((entry.pid == pid) ≡ false × (entry.pid ≢ pid)) → Fits pid u q → after c u entry ≡ Some v → cond (entry.pid == pid) (progress_after q (event.Enter entry)) (Some q) ≡ Some r → Fits pid v r
entry_fits c pid u v q r entry (inl same) f state so =
    let counts = entry_counts c u v entry f.numbered state in
    let own : standing_at v pid ≡ standing_by entry.part entry.call (standing_at u pid) = subst (λ k. standing_at v k ≡ standing_by entry.part entry.call (standing_at u k)) same.1 counts.own in
    record {
      numbered = numbered_after c u v entry state f.numbered;
      stands = enter_stands (standing_at u pid) (standing_at v pid) q r entry own counts.asks f.stands (ap (λ b. cond b (progress_after q (event.Enter entry)) (Some q)) (sym same.0) ∙ so);
    }
entry_fits c pid u v q r entry (inr other) f state so =
    let counts = entry_counts c u v entry f.numbered state in
    let stays : Some q ≡ Some r = ap (λ b. cond b (progress_after q (event.Enter entry)) (Some q)) (sym other.0) ∙ so in
    record {
      numbered = numbered_after c u v entry state f.numbered;
      stands = subst (λ (p : Progress). StandsAs p (standing_at v pid)) (some_is q r stays) (subst (StandsAs q) (sym (counts.others pid (λ (same : pid ≡ entry.pid). other.1 (sym same)))) f.stands);
    }

event_fits : (c : Description) (pid : ℕ) (e : Event) (u v : Unix) (q r : Progress) → Fits pid u q → state_by c e (Some u) ≡ Some v → cond (is_call_event pid e) (progress_on (Some q) e) (Some q) ≡ Some r → Fits pid v r
event_fits c pid (event.Issue p number called) u v q r f state so = issue_fits pid u v q r p number called (p == pid) f state so
event_fits c pid (event.Return p number given) u v q r f state so = return_fits pid u v q r p number given (p == pid) f state so
event_fits c pid (event.Enter entry) u v q r f state so = entry_fits c pid u v q r entry (eqb_tells entry.pid pid) f state so
event_fits c pid _ u v q r f state so = fits_same pid u v q r f state so

-- where there was no state, or no progress, there is none
no_state : (c : Description) (e : Event) (v : Unix) → state_by c e None ≡ Some v → ⊥
no_state c (event.Enter entry) v h = absurd (cc)
no_state c _ v h = absurd (cc)

pub no_progress : (b : Bool) (e : Event) (r : Progress) → cond b (progress_on None e) None ≡ Some r → ⊥
no_progress true e r h = absurd (cc)
no_progress false e r h = absurd (cc)

some_fits : (c : Description) (pid : ℕ) (e : Event) (o : Option Unix) (p : Option Progress) (v : Unix) (r : Progress) → ((u : Unix) (q : Progress) → o ≡ Some u → p ≡ Some q → Fits pid u q) → state_by c e o ≡ Some v → cond (is_call_event pid e) (progress_on p e) p ≡ Some r → Fits pid v r
some_fits c pid e None p v r h state so = absurd (no_state c e v state)
some_fits c pid e (Some u) None v r h state so = absurd (no_progress (is_call_event pid e) e r so)
some_fits c pid e (Some u) (Some q) v r h state so = event_fits c pid e u v q r (h u q refl refl) state so

-- ---- all events

told_from : (c : Description) (pid : ℕ) (past : Past) (before rest : List Rec) (p : Option Progress) (v : Unix) (r : Progress) → ((u : Unix) (q : Progress) → past.unix ≡ Some u → p ≡ Some q → Fits pid u q) → (past_from c past rest).unix ≡ Some v → folded_from (progress_step pid) before p rest ≡ Some r → Fits pid v r
told_from c pid past before [] p v r h state so = h v r state so
told_from c pid past before (rec ∷ rest) p v r h state so =
    told_from c pid (past_with c rec past) (before ++ rec ∷ []) rest (progress_step pid before rec p) v r (λ u q here now. some_fits c pid rec.event past.unix p u q h here now) state so

-- ---- the start

abbrev IsNew : Process → Type 0
IsNew p = standing_of p ≡ stood 0 false false

started_new_by : (line : StartLine) (ps : List Process) (found : Option Program) → AllByRecursion IsNew ps → AllByRecursion IsNew (started_by line ps found)
started_new_by line ps None h = h
started_new_by line ps (Some program) h = each_put IsNew (new_process (next_pid ps line.host) (fresh_machine program line.arg)) ps refl h

started_new : (programs : List ProgramLine) (ps : List Process) (lines : List StartLine) → AllByRecursion IsNew ps → AllByRecursion IsNew (started programs ps lines)
started_new programs ps [] h = h
started_new programs ps (line ∷ lines) h =
    started_new programs (started_by line ps (program_at programs line.program)) lines (started_new_by line ps (program_at programs line.program) h)

new_stands : (ps : List Process) (pid : ℕ) (o : Option Process) → process_at ps pid ≡ o → AllByRecursion IsNew ps → standing_in o ≡ stood 0 false false
new_stands ps pid None is h = refl
new_stands ps pid (Some p) is h = found_each IsNew ps pid p h is

boot_stands : (c : Description) (pid : ℕ) → standing_at (boot_of c) pid ≡ stood 0 false false
boot_stands c pid = new_stands (boot_of c).processes pid (process_at (boot_of c).processes pid) refl (started_new c.programs [] c.starts tt)

boot_fits : (c : Description) (pid : ℕ) (u : Unix) (q : Progress) → length c.starts ≤ 200 → Some (boot_of c) ≡ Some u → Some (Between 0) ≡ Some q → Fits pid u q
boot_fits c pid u q few state so =
    fits_same pid (boot_of c) u (Between 0) q (record { numbered = boot_numbered c few; stands = boot_stands c pid }) state so

pub progress_tells_numbers : ProgressTellsNumbers
progress_tells_numbers c trace u pid progress few state so =
    (told_from c pid (no_past c) [] trace (Some (Between 0)) u progress (λ w q here now. boot_fits c pid w q few here now) state so).stands

so_far : (c : Description) (trace : List Rec) (u : Unix) (pid : ℕ) (o : Option Progress) → length c.starts ≤ 200 → (past_from c (no_past c) trace).unix ≡ Some u → progress_of pid trace ≡ o → is_in_turn o ≡ true → IsSoFar trace u pid
so_far c trace u pid None few state is turn = absurd (true≢false (sym turn))
so_far c trace u pid (Some progress) few state is turn =
    record { progress = progress; there = is; stands = progress_tells_numbers c trace u pid progress few state is }

pub once_tells_numbers : OnceTellsNumbers
once_tells_numbers c trace u few once state pid = so_far c trace u pid (progress_of pid trace) few state refl (once pid)
