-- Kills are told, from the last record to the first.
use Rattle.std.proofs.Common.{◌≡◌, ◌∙◌, ◌≤◌, ℕ, suc, ◌+◌, ◌==◌, Bool, true, false, cond, ◌&&◌, ◌||◌, not, List, [], ◌∷◌, ◌++◌, length, Option, Some, None, refl, sym, ap, ap₂, arith, append_assoc}
use Rattle.std.proofs.lemmas.Bool.{eqb-true, eq-eqb}
use Rattle.std.proofs.lemmas.List.{append-nil}
use Rattle.sprite_ids.specs.Pid.{home_of}
use Rattle.unix_calls.specs.declared.description.Description.{Description}
use Rattle.unix_calls.specs.declared.entry.Entry.{Entry}
use Rattle.unix_calls.specs.declared.event.Event.{Event}
use Rattle.unix_calls.specs.declared.event.Event.TheVariants as event
use Rattle.unix_calls.specs.declared.event.Rec.{Rec}
use Rattle.call_journal.specs.Past.{Past, each_from, holds, no_past, past_with, place_of}
use Rattle.call_journal.specs.WorthKills.{is_told, is_told_at, kills_well, killed_by}
use Rattle.kill_worth.specs.declared.keys.KillAt.{KillAt}
use Rattle.kill_worth.specs.declared.told.Told.{Told}
use Rattle.kill_worth.specs.Kills.{was_killed, settled_away, entry_told, kill_told}
use Rattle.kill_worth.specs.Told.{is_paid, kills_from, kills_of, are_paid, tells_well, kills_are_told, Listing, count_or, steps_kept, steps_of, mark_of, is_told_of, marks_behind, steps_behind, ToldOn, TellsTold}

-- ---- what the records tell

at_told : (entry : Entry) (pid : ℕ) (o : Option ℕ) (rest : List Rec) → is_told_at entry pid o rest ≡ is_paid (settled_away entry pid o) rest
at_told entry pid None rest = refl
at_told entry pid (Some at) rest = by (at == home_of pid)
  where
    by : (b : Bool) → (b || is_told (home_of pid) at entry.pid entry.number rest) ≡ is_paid (cond b None (Some (record { home = home_of pid; to = at; pid = entry.pid; number = entry.number }))) rest
    by true = refl
    by false = refl

first_told : (past : Past) (entry : Entry) (pid : ℕ) (rest : List Rec) (b : Bool) → cond (not b) (is_told_at entry pid (place_of past pid) rest) true ≡ is_paid (cond b None (settled_away entry pid (place_of past pid))) rest
first_told past entry pid rest true = refl
first_told past entry pid rest false = at_told entry pid (place_of past pid) rest

well_told : (past : Past) (entry : Entry) (o : Option ℕ) (rest : List Rec) → kills_well past entry o rest ≡ is_paid (entry_told past entry o) rest
well_told past entry None rest = refl
well_told past entry (Some pid) rest = first_told past entry pid rest (was_killed past pid)

event_told : (past : Past) (e : Event) (rest : List Rec) → tells_well past e rest ≡ is_paid (kill_told past e) rest
event_told past (event.Enter entry) rest = well_told past entry (killed_by entry.call entry.reply) rest
event_told past _ rest = refl

each_told : (c : Description) (past : Past) (rest : List Rec) → are_paid (kills_from c past rest) rest ≡ each_from c (λ p rec behind. tells_well p rec.event behind) past rest
each_told c past [] = refl
each_told c past (rec ∷ rest) = ap₂ (λ a b. a && b) (sym (event_told past rec.event rest)) (each_told c (past_with c rec past) rest)

-- whether the listed kills are told is whether all are
pub paid_told : (c : Description) (trace : List Rec) → are_paid (kills_of c trace) trace ≡ kills_are_told c trace
paid_told c trace = each_told c (no_past c) trace

count_from : (c : Description) (past : Past) (rest : List Rec) → length (kills_from c past rest) ≡ length rest
count_from c past [] = refl
count_from c past (rec ∷ rest) = ap suc (count_from c (past_with c rec past) rest)

pub kills_count : (c : Description) (trace : List Rec) → length (kills_of c trace) ≡ length trace
kills_count c trace = count_from c (no_past c) trace

-- ---- the list of the kills

pub listing_begins : (c : Description) (Tells : Past → Type 0) (kills : List (Option KillAt)) (trace : List Rec) → kills ≡ [] → Tells (no_past c) → Listing c Tells kills trace trace
listing_begins c Tells kills trace none told = record {
  past = no_past c;
  told = told;
  left = λ more is. ap (λ (ks : List (Option KillAt)). ks ++ more) none ∙ is;
}

pub listing_goes : (c : Description) (Tells More : Past → Type 0) (kills after : List (Option KillAt)) (kill : Option KillAt) (trace rest : List Rec) (rec : Rec) (here : Listing c Tells kills trace (rec ∷ rest)) → after ≡ kills ++ kill ∷ [] → kill ≡ kill_told here.past rec.event → More (past_with c rec here.past) → Listing c More after trace rest
listing_goes c Tells More kills after kill trace rest rec here grown is told = record {
  past = past_with c rec here.past;
  told = told;
  left = λ more same. ap (λ (ks : List (Option KillAt)). ks ++ more) grown ∙ append_assoc kills (kill ∷ []) more ∙ here.left (kill ∷ more) (ap₂ (λ (k : Option KillAt) ks. k ∷ ks) is same);
}

pub listing_ends : (c : Description) (Tells : Past → Type 0) (kills : List (Option KillAt)) (trace : List Rec) → Listing c Tells kills trace [] → kills ≡ kills_of c trace
listing_ends c Tells kills trace here = sym (append-nil kills) ∙ here.left [] refl

-- ---- what is kept

abbrev kept_in : Option ℕ → ℕ → Bool
kept_in mark steps = holds (λ count. count == steps) mark

-- a step more passes all marks
passed : (count steps : ℕ) (b : Bool) → (count == steps + 1) ≡ b → count ≤ steps → b ≡ false
passed count steps true is short = absurd (let same = eqb-true count (steps + 1) is in omega (arith, same, short))
passed count steps false is short = refl

above : (o : Option ℕ) (steps : ℕ) → count_or o ≤ steps → kept_in o (steps + 1) ≡ false
above None steps within = refl
above (Some count) steps within = passed count steps (count == steps + 1) refl within

-- behind a step of the kernel
stepped : (kernel home : ℕ) (before : List (ℕ × ℕ)) (o : Option ℕ) (told b : Bool) → (kernel == home) ≡ b → count_or o ≤ steps_of before home → kept_in o (steps_of before home) ≡ told → kept_in o (count_or (cond b (Some (steps_of before kernel + 1)) (steps_kept before home))) ≡ (b && false || (not (b && true) && told))
stepped kernel home before o told true is within same = ap (λ k. kept_in o (steps_of before k + 1)) (eqb-true kernel home is) ∙ above o (steps_of before home) within
stepped kernel home before o told false is within same = same

step_within : (kernel home : ℕ) (before : List (ℕ × ℕ)) (o : Option ℕ) (b : Bool) → (kernel == home) ≡ b → count_or o ≤ steps_of before home → count_or o ≤ count_or (cond b (Some (steps_of before kernel + 1)) (steps_kept before home))
step_within kernel home before o true is within = let same = ap (steps_of before) (eqb-true kernel home is) in omega (arith, same, within)
step_within kernel home before o false is within = within

-- behind a packet of the kernel
sent_by : (m : Option ℕ) (here there : ℕ) (told h to call : Bool) → (h ≡ true → here ≡ there) → kept_in m there ≡ told → kept_in (cond (h && (to && call)) (Some here) m) there ≡ (h && (call && to) || (not (h && false) && told))
sent_by m here there told true true true is same = eq-eqb here there (is refl)
sent_by m here there told true true false is same = same
sent_by m here there told true false true is same = same
sent_by m here there told true false false is same = same
sent_by m here there told false to call is same = same

sent_within : (m : Option ℕ) (here there : ℕ) (h b : Bool) → (h ≡ true → here ≡ there) → count_or m ≤ there → count_or (cond (h && b) (Some here) m) ≤ there
sent_within m here there true true is within = let same = is refl in omega (arith, same)
sent_within m here there true false is within = within
sent_within m here there false b is within = within

stays : (h told : Bool) → told ≡ (h && false || (not (h && false) && told))
stays true told = refl
stays false told = refl

-- what is kept of a kill behind an event
told_by : (kernel : ℕ) (e : Event) (steps : List (ℕ × ℕ)) (at : KillAt) (m : Option ℕ) (rest : List Rec) → count_or m ≤ steps_of steps at.home → kept_in m (steps_of steps at.home) ≡ is_told at.home at.to at.pid at.number rest → kept_in (marks_behind kernel e steps at m) (count_or (steps_behind kernel e steps at.home)) ≡ is_told at.home at.to at.pid at.number (record { kernel = kernel; event = e } ∷ rest)
told_by kernel (event.Send tx to None kind) steps at m rest within same = same ∙ stays (kernel == at.home) (is_told at.home at.to at.pid at.number rest)
told_by kernel (event.Send tx to (Some about) kind) steps at m rest within same =
    sent_by m (steps_of steps kernel) (steps_of steps at.home) (is_told at.home at.to at.pid at.number rest) (kernel == at.home) (to == at.to) (about.pid == at.pid && about.number == at.number) (λ is. ap (steps_of steps) (eqb-true kernel at.home is)) same
told_by kernel (event.Burst pid count) steps at m rest within same = stepped kernel at.home steps m (is_told at.home at.to at.pid at.number rest) (kernel == at.home) refl within same
told_by kernel (event.Deliver tx from reply about) steps at m rest within same = stepped kernel at.home steps m (is_told at.home at.to at.pid at.number rest) (kernel == at.home) refl within same
told_by kernel (event.Expire tx last) steps at m rest within same = stepped kernel at.home steps m (is_told at.home at.to at.pid at.number rest) (kernel == at.home) refl within same
told_by kernel _ steps at m rest within same = same ∙ stays (kernel == at.home) (is_told at.home at.to at.pid at.number rest)

within_by : (kernel : ℕ) (e : Event) (steps : List (ℕ × ℕ)) (at : KillAt) (m : Option ℕ) → count_or m ≤ steps_of steps at.home → count_or (marks_behind kernel e steps at m) ≤ count_or (steps_behind kernel e steps at.home)
within_by kernel (event.Send tx to None kind) steps at m within = within
within_by kernel (event.Send tx to (Some about) kind) steps at m within =
    sent_within m (steps_of steps kernel) (steps_of steps at.home) (kernel == at.home) (to == at.to && (about.pid == at.pid && about.number == at.number)) (λ is. ap (steps_of steps) (eqb-true kernel at.home is)) within
within_by kernel (event.Burst pid count) steps at m within = step_within kernel at.home steps m (kernel == at.home) refl within
within_by kernel (event.Deliver tx from reply about) steps at m within = step_within kernel at.home steps m (kernel == at.home) refl within
within_by kernel (event.Expire tx last) steps at m within = step_within kernel at.home steps m (kernel == at.home) refl within
within_by kernel _ steps at m within = within

-- behind the last record
pub told_begins : (told : Told) → told.steps.entries ≡ [] → told.marks.entries ≡ [] → TellsTold told []
told_begins told steps marks = record {
  is_told = λ at. ap (λ (m : List (KillAt × ℕ)). kept_in (mark_of m at) (steps_of told.steps.entries at.home)) marks;
  within = λ at. let none = ap (λ (m : List (KillAt × ℕ)). count_or (mark_of m at)) marks in omega (arith, none);
}

-- one record before
pub told_goes : (old new : Told) (rec : Rec) (rest : List Rec) → TellsTold old rest → ToldOn rec.kernel rec.event old new → TellsTold new (rec ∷ rest)
told_goes old new rec rest told goes = record {
  is_told = λ at.
      ap₂ (λ m n. kept_in m (count_or n)) (goes.marks at) (goes.steps at.home)
      ∙ told_by rec.kernel rec.event old.steps.entries at (mark_of old.marks.entries at) rest (told.within at) (told.is_told at);
  within = λ at.
      let marks = ap count_or (goes.marks at) in
      let steps = ap count_or (goes.steps at.home) in
      let short = within_by rec.kernel rec.event old.steps.entries at (mark_of old.marks.entries at) (told.within at) in
      omega (arith, marks, steps, short);
}

-- a kill is told by what is kept
pub is_kept : (told : Told) (kill : Option KillAt) (rest : List Rec) → TellsTold told rest → is_told_of told kill ≡ is_paid kill rest
is_kept told None rest kept = refl
is_kept told (Some at) rest kept = kept.is_told at

-- behind the last record all are
pub none_paid : (kills : List (Option KillAt)) (rest : List Rec) → rest ≡ [] → true ≡ are_paid kills rest
none_paid kills rest none = by kills ∙ sym (ap (are_paid kills) none)
  where
    by : (ks : List (Option KillAt)) → true ≡ are_paid ks []
    by [] = refl
    by (k ∷ ks) = refl
