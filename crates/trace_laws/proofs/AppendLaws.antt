-- A trace with more records at its end.
use Rattle.std.proofs.Common.{arith, ◌≡◌, ◌∙◌, ℕ, ◌+◌, Bool, true, false, ◌&&◌, ◌||◌, cond, not, List, [], ◌∷◌, ◌++◌, Option, Some, None, refl, sym, ap, append-nil, append_assoc}
use Rattle.std.specs.Prelude.{◌==◌}
use Rattle.unix_calls.specs.declared.Description.{Description}
use Rattle.unix_calls.specs.declared.Entry.{Entry}
use Rattle.unix_calls.specs.declared.Event.{Event}
use Rattle.unix_calls.specs.declared.Event.TheVariants as event
use Rattle.unix_calls.specs.declared.Rec.{Rec}
use Rattle.unix_calls.specs.declared.state.Stream.{Stream}
use Rattle.unix_calls.specs.State.{Unix}
use Rattle.call_journal.specs.Past.{Past, folded_from, state_by, seen_at, seen_from, past_with, past_from, past_of, no_past, each_from, each_record, some_from, count_from, some_then, since_from, opening_behind, holds, last_event, place_of}
use Rattle.call_journal.specs.Calls.{issued_by, issued_call, or_else}
use Rattle.call_journal.specs.Formed.{next_is, issue_step, is_grant_to, is_opened_well, is_written_well}
use Rattle.call_journal.specs.Matching.{is_about, is_at, is_send_about_to}
use Rattle.sprite_ids.specs.Pid.{home_of}
use Rattle.sprite_ids.specs.declared.names.FileId.{FileId}
use Rattle.sprite_ids.specs.declared.names.StreamNo.{StreamNo}
use Rattle.sprite_ids.specs.declared.names.Mode.{Mode}
use Rattle.std.proofs.lemmas.Bool.{and_parts}
use Rattle.call_journal.specs.Once.{progress_step}
use Rattle.call_journal.specs.Unreachable.{gave_up, gave_up_from, is_given_up, has_cause, may_give_up, keeps_cause}
use Rattle.call_journal.specs.EntryPlaces.{stands_well}
use Rattle.call_journal.specs.CachedCalls.{is_cached_call_well}
use Rattle.call_journal.specs.Operations.{goes_out_well}
use Rattle.call_journal.specs.Fetches.{fetches_well}
use Rattle.call_journal.specs.PrefixBroadcasts.{broadcasts_well}
use Rattle.call_journal.specs.Moves.{runs_well}
use Rattle.call_journal.specs.WriteBacks.{is_counted_step, writes_back_well}
use Rattle.call_journal.specs.WorthPackets.{packets_well}
use Rattle.call_journal.specs.WorthBursts.{instructions_in, counts_well}
use Rattle.call_journal.specs.WorthKills.{is_first_kill, killed_by, is_told, is_told_at, kills_well, heeds_kills}
use Rattle.trace_laws.specs.Appended.{ForwardRulesGoOn, PastsAppend, TestsAppend, IsKeptBehind, SeesTheNext, RulesGoOn, BackwardRulesGoOn, LookBacksAppend, LookAheadsAppend, with_more}
use Rattle.trace_laws.proofs.TruthLaws.{and_kept, and_parted, both_true, or_first, or_kept, or_parted}

-- ---- what stands behind

pub past_append : (c : Description) (past : Past) (before more : List Rec) → past_from c past (before ++ more) ≡ past_from c (past_from c past before) more
past_append c past [] more = refl
past_append c past (rec ∷ before) more = past_append c (past_with c rec past) before more

pub seen_append : (c : Description) (past : Past) (before more : List Rec) → seen_from c past.unix (before ++ more) ≡ seen_from c past.unix before ++ seen_from c (past_from c past before).unix more
seen_append c past [] more = refl
seen_append c past (rec ∷ before) more =
    ap (λ seen. seen_at past.unix rec (state_by c rec.event past.unix) ∷ seen) (seen_append c (past_with c rec past) before more)

pub pasts_append : PastsAppend
pasts_append = record {
  pasts = past_append;
  traces = λ c before more. past_append c (no_past c) before more;
  seen = λ c before more. seen_append c (no_past c) before more;
}

-- ---- tests

pub each_append : (c : Description) (test : Past → Rec → List Rec → Bool) (past : Past) (before more : List Rec) → each_from c test past (before ++ more) ≡ (each_from c (with_more more test) past before && each_from c test (past_from c past before) more)
each_append c test past [] more = refl
each_append c test past (rec ∷ before) more =
    and_parted (test past rec (before ++ more)) (each_from c test (past_with c rec past) (before ++ more)) (each_from c (with_more more test) (past_with c rec past) before) (each_from c test (past_from c (past_with c rec past) before) more) (each_append c test (past_with c rec past) before more)

pub some_append : (c : Description) (test : Past → Rec → List Rec → Bool) (past : Past) (before more : List Rec) → some_from c test past (before ++ more) ≡ (some_from c (with_more more test) past before || some_from c test (past_from c past before) more)
some_append c test past [] more = refl
some_append c test past (rec ∷ before) more =
    or_parted (test past rec (before ++ more)) (some_from c test (past_with c rec past) (before ++ more)) (some_from c (with_more more test) (past_with c rec past) before) (some_from c test (past_from c (past_with c rec past) before) more) (some_append c test (past_with c rec past) before more)

pub count_append : (c : Description) (test : Past → Rec → List Rec → Bool) (past : Past) (before more : List Rec) → count_from c test past (before ++ more) ≡ count_from c (with_more more test) past before + count_from c test (past_from c past before) more
count_append c test past [] more = omega arith
count_append c test past (rec ∷ before) more = (let rest = count_append c test (past_with c rec past) before more in omega (arith, rest))

pub tests_append : TestsAppend
tests_append = record { each = each_append; some = some_append; count = count_append }

-- ---- rules

-- a test that doesn't see the records behind one
pub behind_append : (c : Description) (test : Past → Rec → Bool) (past : Past) (before more : List Rec) → each_from c (λ p rec rest. test p rec) past (before ++ more) ≡ (each_from c (λ p rec rest. test p rec) past before && each_from c (λ p rec rest. test p rec) (past_from c past before) more)
behind_append c test past before more = each_append c (λ p rec rest. test p rec) past before more

-- a test that stays met
pub each_kept : (c : Description) (test : Past → Rec → List Rec → Bool) (past : Past) (before more : List Rec) → IsKeptBehind test → each_from c test past before ≡ true → each_from c test (past_from c past before) more ≡ true → each_from c test past (before ++ more) ≡ true
each_kept c test past [] more kept first second = second
each_kept c test past (rec ∷ before) more kept first second =
    and_kept (test past rec before) (test past rec (before ++ more)) (each_from c test (past_with c rec past) before) (each_from c test (past_with c rec past) (before ++ more)) (kept past rec before more) (λ rest. each_kept c test (past_with c rec past) before more kept rest second) first

-- a test that sees the next record alone: with one record behind the others, more change nothing
next_each : (c : Description) (test : Past → Rec → List Rec → Bool) (past : Past) (before : List Rec) (last : Rec) (more : List Rec) → SeesTheNext test → each_from c (with_more (last ∷ more) test) past before ≡ each_from c (with_more (last ∷ []) test) past before
next_each c test past [] last more sees = refl
next_each c test past (rec ∷ []) last more sees = ap (λ one. one && true) (sees past rec last [] more)
next_each c test past (rec ∷ next ∷ before) last more sees =
    ap₂ (λ one others. one && others) (ap (λ rest. test past rec (next ∷ rest)) (sym (append_assoc before (last ∷ []) more)) ∙ sees past rec next (before ++ last ∷ []) more) (next_each c test (past_with c rec past) (next ∷ before) last more sees)
  where
    ap₂ : (f : Bool → Bool → Bool) {a x b y : Bool} → a ≡ x → b ≡ y → f a b ≡ f x y
    ap₂ f p q = λ i. f (p i) (q i)

next_append : (c : Description) (test : Past → Rec → List Rec → Bool) (before : List Rec) (last : Rec) (more : List Rec) → SeesTheNext test → each_record c test (before ++ last ∷ more) ≡ (each_record c (with_more (last ∷ []) test) before && (test (past_of c before) last more && each_from c test (past_of c (before ++ last ∷ [])) more))
next_append c test before last more sees =
    each_append c test (no_past c) before (last ∷ more)
    ∙ (ap (λ first. first && (test (past_of c before) last more && each_from c test (past_with c last (past_of c before)) more)) (next_each c test (no_past c) before last more sees)
    ∙ ap (λ past. each_record c (with_more (last ∷ []) test) before && (test (past_of c before) last more && each_from c test past more)) (sym (past_append c (no_past c) before (last ∷ []))))

next_joined : (c : Description) (test : Past → Rec → List Rec → Bool) (before : List Rec) (last : Rec) (more : List Rec) → SeesTheNext test → each_record c test (before ++ last ∷ []) ≡ true → test (past_of c before) last more ≡ true → each_from c test (past_of c (before ++ last ∷ [])) more ≡ true → each_record c test (before ++ last ∷ more) ≡ true
next_joined c test before last more sees first at second =
    let others = and_parts (each_record c (with_more (last ∷ []) test) before) (test (past_of c before) last [] && true) (sym (next_append c test before last [] sees) ∙ first) in
    next_append c test before last more sees
    ∙ both_true (each_record c (with_more (last ∷ []) test) before) (test (past_of c before) last more && each_from c test (past_of c (before ++ last ∷ [])) more) others.0 (both_true (test (past_of c before) last more) (each_from c test (past_of c (before ++ last ∷ [])) more) at second)

pub rules_go_on : RulesGoOn
rules_go_on = record {
  behind = λ c test before more. behind_append c test (no_past c) before more;
  kept = λ c test before more kept first second. each_kept c test (no_past c) before more kept first second;
  next = next_append;
  joined = next_joined;
}

pub backward_rules_go_on : BackwardRulesGoOn
backward_rules_go_on = record {
  entries = λ c before more. behind_append c (λ past rec. stands_well c past rec.kernel rec.event) (no_past c) before more;
  cached_calls = λ c before more. behind_append c (λ past rec. is_cached_call_well c past rec.kernel rec.event) (no_past c) before more;
  operations = λ c before more. behind_append c (λ past rec. goes_out_well past rec.kernel rec.event) (no_past c) before more;
  fetches = λ c before more. behind_append c (λ past rec. fetches_well past rec.kernel rec.event) (no_past c) before more;
  broadcasts = λ c before more. behind_append c (λ past rec. broadcasts_well past rec.kernel rec.event) (no_past c) before more;
  moves = λ c before more. behind_append c (λ past rec. runs_well c past rec.kernel rec.event) (no_past c) before more;
  write_backs = λ c before more. behind_append c (λ past rec. writes_back_well c past rec.kernel rec.event) (no_past c) before more;
  causes = λ c before more. behind_append c (λ past rec. keeps_cause c past rec.kernel rec.event) (no_past c) before more;
  expires = λ c before more. behind_append c (λ past rec. packets_well c past rec.kernel rec.event) (no_past c) before more;
}

-- the rules that see the records behind one
opened_sees : (past : Past) (file : FileId) (stream : StreamNo) (to : ℕ) (m : Mode) (o : Option Stream) (next : Rec) (rest more : List Rec) → is_opened_well past file stream to m o (next ∷ rest ++ more) ≡ is_opened_well past file stream to m o (next ∷ rest)
opened_sees past file stream to m None next rest more = refl
opened_sees past file stream to m (Some made) next rest more = refl

written_sees : (c : Description) (past : Past) (kernel : ℕ) (e : Event) (next : Rec) (rest more : List Rec) → is_written_well c past kernel e (next ∷ rest ++ more) ≡ is_written_well c past kernel e (next ∷ rest)
written_sees c past kernel (event.Opened file stream to m) next rest more =
    ap (λ b. kernel == file.server && holds (is_grant_to file to) (last_event past.records) && b) (opened_sees past file stream to m (opening_behind c past.unix (next ∷ rest)) next rest more)
written_sees c past kernel (event.Grant file to stamp cached) next rest more = refl
written_sees c past kernel (event.Shared file stream) next rest more = refl
written_sees c past kernel _ next rest more = refl

bursts_see : (c : Description) (past : Past) (kernel : ℕ) (e : Event) (next : Rec) (rest more : List Rec) → counts_well c past kernel e (next ∷ rest ++ more) ≡ counts_well c past kernel e (next ∷ rest)
bursts_see c past kernel (event.Burst pid count) next rest more = refl
bursts_see c past kernel _ next rest more = refl

-- a kernel that was told of a kill was told of it
told_kept : (home to pid number : ℕ) (rest more : List Rec) → is_told home to pid number rest ≡ true → is_told home to pid number (rest ++ more) ≡ true
told_kept home to pid number [] more h = absurd (cc)
told_kept home to pid number (rec ∷ rest) more h =
    or_kept (is_at home (is_send_about_to pid number to) rec) (is_at home (is_send_about_to pid number to) rec) (not (is_at home is_counted_step rec) && is_told home to pid number rest) (not (is_at home is_counted_step rec) && is_told home to pid number (rest ++ more)) (λ same. same)
    (and_kept (not (is_at home is_counted_step rec)) (not (is_at home is_counted_step rec)) (is_told home to pid number rest) (is_told home to pid number (rest ++ more)) (λ same. same) (told_kept home to pid number rest more)) h

told_at_kept : (entry : Entry) (pid : ℕ) (o : Option ℕ) (rest more : List Rec) → is_told_at entry pid o rest ≡ true → is_told_at entry pid o (rest ++ more) ≡ true
told_at_kept entry pid None rest more h = refl
told_at_kept entry pid (Some at) rest more h =
    or_kept (at == home_of pid) (at == home_of pid) (is_told (home_of pid) at entry.pid entry.number rest) (is_told (home_of pid) at entry.pid entry.number (rest ++ more)) (λ same. same) (told_kept (home_of pid) at entry.pid entry.number rest more) h

if_kept : (b x y : Bool) → (x ≡ true → y ≡ true) → cond b x true ≡ true → cond b y true ≡ true
if_kept true x y kept h = kept h
if_kept false x y kept h = refl

kill_kept : (past : Past) (entry : Entry) (o : Option ℕ) (rest more : List Rec) → kills_well past entry o rest ≡ true → kills_well past entry o (rest ++ more) ≡ true
kill_kept past entry None rest more h = refl
kill_kept past entry (Some pid) rest more h =
    if_kept (is_first_kill past.records pid) (is_told_at entry pid (place_of past pid) rest) (is_told_at entry pid (place_of past pid) (rest ++ more)) (told_at_kept entry pid (place_of past pid) rest more) h

kills_kept : (c : Description) (past : Past) (kernel : ℕ) (e : Event) (rest more : List Rec) → heeds_kills c past kernel e rest ≡ true → heeds_kills c past kernel e (rest ++ more) ≡ true
kills_kept c past kernel (event.Enter entry) rest more h = kill_kept past entry (killed_by entry.call entry.reply) rest more h
kills_kept c past kernel (event.Issue pid number called) rest more h = h
kills_kept c past kernel _ rest more h = h

pub forward_rules_go_on : ForwardRulesGoOn
forward_rules_go_on = record {
  written = λ c past rec next rest more. written_sees c past rec.kernel rec.event next rest more;
  bursts = λ c past rec next rest more. bursts_see c past rec.kernel rec.event next rest more;
  kills = λ c past rec rest more h. kills_kept c past rec.kernel rec.event rest more h;
}

-- ---- look-backs

pub folded_append : {A : Type 0} {S : Type 0} (step : List A → A → S → S) (before : List A) (s : S) (xs ys : List A) → folded_from step before s (xs ++ ys) ≡ folded_from step (before ++ xs) (folded_from step before s xs) ys
folded_append step before s [] ys = ap (λ b. folded_from step b s ys) (sym (append-nil before))
folded_append step before s (x ∷ xs) ys =
    folded_append step (before ++ x ∷ []) (step before x s) xs ys
    ∙ ap (λ b. folded_from step b (folded_from step (before ++ x ∷ []) (step before x s) xs) ys) (append_assoc before (x ∷ []) xs)

since_by : (test : Rec → Bool) (b : Bool) (one other left right : List Rec) (ys : List Rec) → one ≡ since_from test left ys → other ≡ since_from test right ys → cond b one other ≡ since_from test (cond b left right) ys
since_by test true one other left right ys h k = h
since_by test false one other left right ys h k = k

pub since_append : (test : Rec → Bool) (kept xs ys : List Rec) → since_from test kept (xs ++ ys) ≡ since_from test (since_from test kept xs) ys
since_append test kept [] ys = refl
since_append test kept (x ∷ xs) ys =
    since_by test (test x) (since_from test [] (xs ++ ys)) (since_from test (kept ++ x ∷ []) (xs ++ ys)) (since_from test [] xs) (since_from test (kept ++ x ∷ []) xs) ys (since_append test [] xs ys) (since_append test (kept ++ x ∷ []) xs ys)

or_else_parted : {A : Type 0} (a b c : Option A) → or_else a (or_else b c) ≡ or_else (or_else a b) c
or_else_parted None b c = refl
or_else_parted (Some x) b c = refl

pub issued_append : (pid number : ℕ) (before more : List Rec) → issued_call pid number (before ++ more) ≡ or_else (issued_call pid number before) (issued_call pid number more)
issued_append pid number [] more = refl
issued_append pid number (rec ∷ before) more =
    ap (or_else (issued_by pid number rec.event)) (issued_append pid number before more)
    ∙ or_else_parted (issued_by pid number rec.event) (issued_call pid number before) (issued_call pid number more)

pub instructions_append : (pid : ℕ) (before more : List Rec) → instructions_in pid (before ++ more) ≡ instructions_in pid before + instructions_in pid more
instructions_append pid [] more = omega arith
instructions_append pid (rec ∷ before) more = (let rest = instructions_append pid before more in omega (arith, rest))

pub look_backs_append : LookBacksAppend
look_backs_append = record {
  calls = λ pid before more. folded_append (progress_step pid) [] _ before more;
  issues = λ pid before more. folded_append (issue_step pid) [] _ before more;
  sinces = λ test before more. since_append test [] before more;
  issued = issued_append;
  instructions = instructions_append;
}

-- ---- look-aheads

pub some_then_append : (test : Rec → List Rec → Bool) (before more : List Rec) → some_then test (before ++ more) ≡ (some_then (λ rec rest. test rec (rest ++ more)) before || some_then test more)
some_then_append test [] more = refl
some_then_append test (rec ∷ before) more =
    or_parted (test rec (before ++ more)) (some_then test (before ++ more)) (some_then (λ r rest. test r (rest ++ more)) before) (some_then test more) (some_then_append test before more)

next_kept : (test : Rec → Bool) (rest more : List Rec) → next_is test rest ≡ true → next_is test (rest ++ more) ≡ true
next_kept test [] more h = absurd (cc)
next_kept test (rec ∷ rest) more h = h

opening_kept : (c : Description) (u : Option Unix) (rest more : List Rec) (stream : Stream) → opening_behind c u rest ≡ Some stream → opening_behind c u (rest ++ more) ≡ Some stream
opening_kept c u [] more stream h = absurd (cc)
opening_kept c u (rec ∷ rest) more stream h = h

pub gave_up_append : (kernel tx to : ℕ) (between rest more : List Rec) → gave_up_from kernel tx to between (rest ++ more) ≡ (gave_up_from kernel tx to between rest || gave_up_from kernel tx to (between ++ rest) more)
gave_up_append kernel tx to between [] more = ap (λ records. gave_up_from kernel tx to records more) (sym (append-nil between))
gave_up_append kernel tx to between (rec ∷ rest) more =
    or_parted _ (gave_up_from kernel tx to (between ++ rec ∷ []) (rest ++ more)) (gave_up_from kernel tx to (between ++ rec ∷ []) rest) (gave_up_from kernel tx to (between ++ rec ∷ rest) more)
    (gave_up_append kernel tx to (between ++ rec ∷ []) rest more
    ∙ ap (λ records. gave_up_from kernel tx to (between ++ rec ∷ []) rest || gave_up_from kernel tx to records more) (append_assoc between (rec ∷ []) rest))

gave_up_kept : (kernel tx to : ℕ) (rest more : List Rec) → gave_up kernel tx to rest ≡ true → gave_up kernel tx to (rest ++ more) ≡ true
gave_up_kept kernel tx to rest more h =
    gave_up_append kernel tx to [] rest more ∙ or_first (gave_up kernel tx to rest) (gave_up_from kernel tx to rest more) h

given_up_kept : (c : Description) (kernel pid number : ℕ) (e : Event) (rest more : List Rec) → is_given_up c kernel pid number e rest ≡ true → is_given_up c kernel pid number e (rest ++ more) ≡ true
given_up_kept c kernel pid number (event.Send tx to about kind) rest more h =
    and_kept (is_about pid number about && may_give_up c to kind) (is_about pid number about && may_give_up c to kind) (gave_up kernel tx.0 to rest) (gave_up kernel tx.0 to (rest ++ more)) (λ same. same) (gave_up_kept kernel tx.0 to rest more) h
given_up_kept c kernel pid number _ rest more h = absurd (cc)

-- what is found in some records, by a test that stays met, is found in more
pub some_then_kept : (test : Rec → List Rec → Bool) (before more : List Rec) → ((rec : Rec) (rest : List Rec) → test rec rest ≡ true → test rec (rest ++ more) ≡ true) → some_then test before ≡ true → some_then test (before ++ more) ≡ true
some_then_kept test [] more kept h = absurd (cc)
some_then_kept test (rec ∷ before) more kept h =
    or_kept (test rec before) (test rec (before ++ more)) (some_then test before) (some_then test (before ++ more)) (kept rec before) (some_then_kept test before more kept) h

causes_kept : (c : Description) (past later : Past) (kernel : ℕ) (entry : Entry) (more : List Rec) → later.records ≡ past.records ++ more → has_cause c past kernel entry ≡ true → has_cause c later kernel entry ≡ true
causes_kept c past later kernel entry more is h =
    ap (λ records. some_then (λ (r : Rec) rest. r.kernel == kernel && is_given_up c kernel entry.pid entry.number r.event rest) records) is
    ∙ some_then_kept (λ (r : Rec) rest. r.kernel == kernel && is_given_up c kernel entry.pid entry.number r.event rest) past.records more (λ r rest found. and_kept (r.kernel == kernel) (r.kernel == kernel) (is_given_up c kernel entry.pid entry.number r.event rest) (is_given_up c kernel entry.pid entry.number r.event (rest ++ more)) (λ same. same) (given_up_kept c kernel entry.pid entry.number r.event rest more) found) h

pub look_aheads_append : LookAheadsAppend
look_aheads_append = record {
  some = some_then_append;
  next = next_kept;
  opening = opening_kept;
  gave_up = gave_up_append;
  causes = causes_kept;
}
