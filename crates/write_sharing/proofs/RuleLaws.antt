-- What is kept of files decides the rule, from one record to the next.
use Rattle.std.proofs.Common.{◌≡◌, ◌∙◌, ℕ, ◌==◌, Bool, true, false, cond, not, ◌&&◌, ◌||◌, List, [], ◌∷◌, ◌++◌, length, Option, Some, None, refl, sym, ap, ap₂, subst, arith}
use Rattle.std.specs.Option.{is_some, option_map, option_and_then}
use Rattle.std.proofs.lemmas.Bool.{true≢false, false≢true, and_parts, and_from, or_parts, eqb-true, eq-eqb}
use Rattle.sprite_ids.specs.declared.names.FileId.{FileId}
use Rattle.process_machine.specs.declared.call.Call.{Call}
use Rattle.process_machine.specs.declared.call.Call.TheVariants as call
use Rattle.unix_calls.specs.declared.description.Description.{Description}
use Rattle.unix_calls.specs.declared.entry.Entry.{Entry}
use Rattle.unix_calls.specs.declared.event.Event.{Event}
use Rattle.unix_calls.specs.declared.event.Event.TheVariants as event
use Rattle.unix_calls.specs.declared.event.Rec.{Rec}
use Rattle.call_journal.specs.Past.{Past, Tie, tied, state_by, seen_at, seen_from, made_by, entry_count, no_past, past_with}
use Rattle.call_journal.specs.Calls.{descriptor_of}
use Rattle.call_journal.specs.Matching.{same_file, is_off, is_stop, has_event}
use Rattle.call_journal.specs.Formed.{is_closed_of}
use Rattle.call_journal.specs.Sharing.{Watch, watch_of, watch_step, no_watch, is_called_back, turns_off, has_licence, is_write_shared, is_opened_later, is_waited_for, operation_on, tie_of_operation, stops_well}
use Rattle.call_journal.proofs.GrowthLaws.{look_backs_grow}
use Rattle.trace_rules.specs.Lists.{any_more}
use Rattle.trace_tables.specs.declared.tied.Tied.{Tied}
use Rattle.trace_tables.specs.Ties.{tied_by, tied_at}
use Rattle.write_sharing.specs.declared.kept.OpenedAt.{OpenedAt}
use Rattle.write_sharing.specs.declared.kept.Opening.{Opening}
use Rattle.write_sharing.specs.declared.kept.Sharing.{Sharing}
use Rattle.write_sharing.specs.declared.kept.StampAt.{StampAt}
use Rattle.write_sharing.specs.Kept.{opens_at, is_shared_in, has_file, shared_last, licence_behind, pays_last, has_stamp, stopped_behind, is_operation, is_free_in, is_well_stopped, licence_by, TakesSo, is_paid_in}
use Rattle.write_sharing.specs.Cuts.{cuts_at}
use Rattle.write_sharing.specs.Watched.{FileKept, fresh_by, fresh_for, file_at, opens_for, licence_for, file_behind, TellsFile, TellsSharing, is_due_in, is_owed_on, Owes}
use Rattle.write_sharing.proofs.FileLaws.{file_is, opens_moved, file_moved, same_kept}
use Rattle.write_sharing.proofs.ToldLaws.{before_shared, told_next, seen_as}
use Rattle.write_sharing.proofs.OwedLaws.{is_answered, settles, owed_next}

-- ---- stamps that turn caching off

turned : (f k s off : Bool) → (off && (f && (k && s))) ≡ (f && k && s && off)
turned true true true true = refl
turned true true true false = refl
turned true true false true = refl
turned true true false false = refl
turned true false s true = refl
turned true false s false = refl
turned false k s true = refl
turned false k s false = refl

stopped_more : (e : Event) (at : StampAt) (before : Bool) → stopped_behind e at before ≡ cond (turns_off at.file at.kernel at.stamp e) true before
stopped_more (event.Grant f to stamp mode) at before = ap (λ b. cond b true before) (turned (same_file f at.file) (to == at.kernel) (stamp == at.stamp) (is_off mode))
stopped_more (event.Callback f to stamp kind) at before = ap (λ b. cond b true before) (turned (same_file f at.file) (to == at.kernel) (stamp == at.stamp) (is_stop kind))
stopped_more _ at before = refl

-- ---- one record more is told

pub told_on : (c : Description) (rec : Rec) (tie : Option Tied) (fits : Bool) (old new : Sharing) (past : Past) → TellsSharing old past → TakesSo c rec tie (cuts_at c past rec) fits old new → TellsSharing new (past_with c rec past)
told_on c rec tie fits old new past told takes =
    let truncates = cuts_at c past rec in
    let later = state_by c rec.event past.unix in
    let made = made_by (entry_count past.unix) rec.event later in
    record {
      files = λ file.
          let s = watch_of file past.seen in
          let m = file_behind c rec.event truncates file (file_at old file) in
          let called = is_called_back file past.records in
          let next = told_next c (file_at old file) file s called truncates rec.kernel rec.event made (told.files file) refl in
          let by_calls = subst (λ (b : Bool). TellsFile m file (watch_step file [] (seen_as rec.kernel rec.event made) s) b) (sym (look_backs_grow.callbacks file past.records rec)) next in
          let by_watch = subst (λ (w : Watch). TellsFile m file w (is_called_back file (past.records ++ rec ∷ []))) (sym (look_backs_grow.licences file past.seen (seen_at past.unix rec later))) by_calls in
          subst (λ (k : FileKept). TellsFile k file (watch_of file (past.seen ++ seen_at past.unix rec later ∷ [])) (is_called_back file (past.records ++ rec ∷ []))) (sym (file_moved c rec tie truncates fits old new takes file)) by_watch;
      stopped_told = λ at.
          takes.stopped_on at
          ∙ stopped_more rec.event at (has_stamp old.stopped.keys at)
          ∙ ap (λ b. cond (turns_off at.file at.kernel at.stamp rec.event) true b) (told.stopped_told at)
          ∙ sym (any_more (has_event (turns_off at.file at.kernel at.stamp)) past.records rec);
    }

-- ---- the rule of one record

if_or : (b x : Bool) → (not b || x) ≡ cond b x true
if_or true x = refl
if_or false x = refl

free_told : (old : Sharing) (past : Past) (kernel : ℕ) (o : Option Tie) → TellsSharing old past → is_waited_for past kernel o ≡ is_free_in old.called.keys kernel (option_map tied_by o)
free_told old past kernel None told = refl
free_told old past kernel (Some tie) told = sym (ap (λ b. not (kernel == tie.file.server && b)) ((told.files tie.file).called_told))

-- the tie of an operation is that of its descriptor
operation_by : (old : Sharing) (past : Past) (kernel : ℕ) (entry : Entry) (o : Option Call) → TellsSharing old past → (not (is_operation o) || is_free_in old.called.keys kernel (option_map tied_by (option_and_then (tied past entry.pid) (option_and_then descriptor_of o)))) ≡ is_waited_for past kernel (tie_of_operation past entry (operation_on o))
operation_by old past kernel entry None told = refl
operation_by old past kernel entry (Some (call.Read fd many)) told = sym (free_told old past kernel (tied past entry.pid fd) told)
operation_by old past kernel entry (Some (call.Write fd bytes)) told = sym (free_told old past kernel (tied past entry.pid fd) told)
operation_by old past kernel entry (Some (call.Size fd)) told = sym (free_told old past kernel (tied past entry.pid fd) told)
operation_by old past kernel entry (Some (call.Seek fd offset)) told = sym (free_told old past kernel (tied past entry.pid fd) told)
operation_by old past kernel entry (Some _) told = refl

-- a licence that a record asks for, of the file that it names and of each
answered_by : (on has : FileId → Bool) (f file : FileId) (b : Bool) → same_file f file ≡ b → cond (on f) (has f) true ≡ true → (not (b && on file) || has file) ≡ true
answered_by on has f file false is h = refl
answered_by on has f file true is h = if_or (on file) (has file) ∙ sym (ap (λ (g : FileId). cond (on g) (has g) true) (file_is f file is)) ∙ h

file_self : (f : FileId) → same_file f f ≡ true
file_self f = and_from (f.server == f.server) (f.number == f.number) (eq-eqb f.server f.server refl) (eq-eqb f.number f.number refl)

answer_of : (on x b : Bool) → b ≡ true → (not (b && on) || x) ≡ true → cond on x true ≡ true
answer_of on x true is h = sym (if_or on x) ∙ h
answer_of on x false is h = absurd (false≢true is)

-- all that it asks of the records before it and of those that come
abbrev pub asks_all : Description → Past → Rec → List Rec → FileId → Bool
asks_all c past rec rest file = is_answered c file (watch_of file past.seen) rec.event (seen_from c past.unix (rec ∷ rest)) rest

well_on : (c : Description) (old : Sharing) (past : Past) (kernel : ℕ) (e : Event) (rest : List Rec) → TellsSharing old past → stops_well c past (record { kernel = kernel; event = e }) kernel e rest ≡ true → (is_well_stopped old.stopped.keys old.called.keys kernel e (tied_at past e) ≡ true) × ((file : FileId) → asks_all c past (record { kernel = kernel; event = e }) rest file ≡ true)
well_on c old past kernel (event.Mode file stamp mode) rest told h =
    (if_or (is_off mode) (has_stamp old.stopped.keys (record { file = file; kernel = kernel; stamp = stamp })) ∙ ap (λ b. cond (is_off mode) b true) (told.stopped_told (record { file = file; kernel = kernel; stamp = stamp })) ∙ h, λ f. refl)
well_on c old past kernel (event.Enter entry) rest told h = (operation_by old past kernel entry entry.call told ∙ h, λ f. refl)
well_on c old past kernel (event.Grant f to stamp mode) rest told h =
    (refl, λ file. answered_by (λ (g : FileId). is_off mode) (λ (g : FileId). has_licence c past g (record { kernel = kernel; event = event.Grant f to stamp mode }) rest) f file (same_file f file) refl h)
well_on c old past kernel (event.Callback f to stamp kind) rest told h =
    (refl, λ file. answered_by (λ (g : FileId). is_stop kind && is_opened_later g rest) (λ (g : FileId). has_licence c past g (record { kernel = kernel; event = event.Callback f to stamp kind }) rest) f file (same_file f file) refl h)
well_on c old past kernel _ rest told h = (refl, λ file. refl)

well_back : (c : Description) (old : Sharing) (past : Past) (kernel : ℕ) (e : Event) (rest : List Rec) → TellsSharing old past → is_well_stopped old.stopped.keys old.called.keys kernel e (tied_at past e) ≡ true → ((file : FileId) → asks_all c past (record { kernel = kernel; event = e }) rest file ≡ true) → stops_well c past (record { kernel = kernel; event = e }) kernel e rest ≡ true
well_back c old past kernel (event.Mode file stamp mode) rest told well answered =
    sym (if_or (is_off mode) (has_stamp old.stopped.keys (record { file = file; kernel = kernel; stamp = stamp })) ∙ ap (λ b. cond (is_off mode) b true) (told.stopped_told (record { file = file; kernel = kernel; stamp = stamp }))) ∙ well
well_back c old past kernel (event.Enter entry) rest told well answered = sym (operation_by old past kernel entry entry.call told) ∙ well
well_back c old past kernel (event.Grant f to stamp mode) rest told well answered =
    answer_of (is_off mode) (has_licence c past f (record { kernel = kernel; event = event.Grant f to stamp mode }) rest) (same_file f f) (file_self f) (answered f)
well_back c old past kernel (event.Callback f to stamp kind) rest told well answered =
    answer_of (is_stop kind && is_opened_later f rest) (has_licence c past f (record { kernel = kernel; event = event.Callback f to stamp kind }) rest) (same_file f f) (file_self f) (answered f)
well_back c old past kernel _ rest told well answered = refl

-- ---- the open before a record is paid for

settled_as : (o : Opening) (e : Event) (truncates : Bool) (file : FileId) (old new : List (FileId × List OpenedAt)) (b : Bool) → same_file o.file file ≡ b → b ≡ true → opens_at new file ≡ opens_for e file (opens_at old file) → (not (is_due_in (fresh_by o b)) || licence_for e truncates file (fresh_by o b) (opens_at old file) (opens_for e file (opens_at old file))) ≡ pays_last (Some o) (licence_behind (Some o) e truncates (is_shared_in (opens_at old o.file)) (is_shared_in (opens_at new o.file)))
settled_as o e truncates file old new false is there after = absurd (false≢true there)
settled_as o e truncates file old new true is there after =
    ap (λ xs. not o.is_due || licence_for e truncates file (fresh_by o true) (opens_at old file) xs) (sym after)
    ∙ sym (ap (λ (g : FileId). not o.is_due || cond (is_closed_of g o.stream e) (is_shared_in (opens_at new g)) (is_shared_in (opens_at old g) || o.was_open && truncates)) (file_is o.file file is))

settles_each : (o : Opening) (e : Event) (truncates : Bool) (file : FileId) (old new : List (FileId × List OpenedAt)) (b : Bool) → same_file o.file file ≡ b → opens_at new file ≡ opens_for e file (opens_at old file) → pays_last (Some o) (licence_behind (Some o) e truncates (is_shared_in (opens_at old o.file)) (is_shared_in (opens_at new o.file))) ≡ true → (not (is_due_in (fresh_by o b)) || licence_for e truncates file (fresh_by o b) (opens_at old file) (opens_for e file (opens_at old file))) ≡ true
settles_each o e truncates file old new false is after pays = refl
settles_each o e truncates file old new true is after pays = settled_as o e truncates file old new true is refl after ∙ pays

settles_on : (last : Option Opening) (e : Event) (truncates : Bool) (file : FileId) (old new : List (FileId × List OpenedAt)) → opens_at new file ≡ opens_for e file (opens_at old file) → pays_last last (licence_behind last e truncates (shared_last old last) (shared_last new last)) ≡ true → (not (is_due_in (fresh_for last file)) || licence_for e truncates file (fresh_for last file) (opens_at old file) (opens_for e file (opens_at old file))) ≡ true
settles_on None e truncates file old new after pays = refl
settles_on (Some o) e truncates file old new after pays = settles_each o e truncates file old new (same_file o.file file) refl after pays

pays_back : (last : Option Opening) (e : Event) (truncates : Bool) (old new : List (FileId × List OpenedAt)) → ((file : FileId) → opens_at new file ≡ opens_for e file (opens_at old file)) → ((file : FileId) → (not (is_due_in (fresh_for last file)) || licence_for e truncates file (fresh_for last file) (opens_at old file) (opens_for e file (opens_at old file))) ≡ true) → pays_last last (licence_behind last e truncates (shared_last old last) (shared_last new last)) ≡ true
pays_back None e truncates old new after settled = refl
pays_back (Some o) e truncates old new after settled =
    sym (settled_as o e truncates o.file old new (same_file o.file o.file) refl (file_self o.file) (after o.file)) ∙ settled o.file

-- ---- what is due

-- of one file, before the record and behind it
due_next : (c : Description) (rec : Rec) (tie : Option Tied) (fits : Bool) (old new : Sharing) (past : Past) (rest : List Rec) (file : FileId) → TellsSharing old past → TakesSo c rec tie (cuts_at c past rec) fits old new → (asks_all c past rec rest file && is_owed_on (file_at old file) file (watch_of file past.seen) (seen_from c past.unix (rec ∷ rest)) (rec ∷ rest)) ≡ (settles rec.event (cuts_at c past rec) file (file_at old file) && is_owed_on (file_at new file) file (watch_of file (past_with c rec past).seen) (seen_from c (past_with c rec past).unix rest) rest)
due_next c rec tie fits old new past rest file told takes =
    let truncates = cuts_at c past rec in
    let later = state_by c rec.event past.unix in
    let made = made_by (entry_count past.unix) rec.event later in
    owed_next c (file_at old file) file (watch_of file past.seen) (is_called_back file past.records) truncates rec.kernel rec.event made (seen_from c later rest) rest (told.files file) refl
    ∙ ap₂ (λ (m : FileKept) (s : Watch). settles rec.event truncates file (file_at old file) && is_owed_on m file s (seen_from c later rest) rest) (sym (file_moved c rec tie truncates fits old new takes file)) (sym (look_backs_grow.licences file past.seen (seen_at past.unix rec later)))

opens_are : (c : Description) (rec : Rec) (tie : Option Tied) (truncates fits : Bool) (old new : Sharing) → TakesSo c rec tie truncates fits old new → (file : FileId) → opens_at new.opens.entries file ≡ opens_for rec.event file (opens_at old.opens.entries file)
opens_are c rec tie truncates fits old new takes file = takes.opens_on file ∙ opens_moved rec.event old.opens.entries file

-- the open before is paid for, where a record keeps the rule and what was due is paid
pays_there : (c : Description) (rec : Rec) (tie : Option Tied) (fits : Bool) (old new : Sharing) (past : Past) (rest : List Rec) → TellsSharing old past → TakesSo c rec tie (cuts_at c past rec) fits old new → ((file : FileId) → asks_all c past rec rest file ≡ true) → Owes c old past (rec ∷ rest) → (file : FileId) → (settles rec.event (cuts_at c past rec) file (file_at old file) ≡ true) × (is_owed_on (file_at new file) file (watch_of file (past_with c rec past).seen) (seen_from c (past_with c rec past).unix rest) rest ≡ true)
pays_there c rec tie fits old new past rest told takes answered due file =
    and_parts (settles rec.event (cuts_at c past rec) file (file_at old file)) (is_owed_on (file_at new file) file (watch_of file (past_with c rec past).seen) (seen_from c (past_with c rec past).unix rest) rest) (sym (due_next c rec tie fits old new past rest file told takes) ∙ and_from (asks_all c past rec rest file) (is_owed_on (file_at old file) file (watch_of file past.seen) (seen_from c past.unix (rec ∷ rest)) (rec ∷ rest)) (answered file) (due file))

pub owes_on : (c : Description) (rec : Rec) (old new : Sharing) (past : Past) (rest : List Rec) → TellsSharing old past → TakesSo c rec (tied_at past rec.event) (cuts_at c past rec) true old new → stops_well c past rec rec.kernel rec.event rest ≡ true → Owes c old past (rec ∷ rest) → Owes c new (past_with c rec past) rest
owes_on c rec old new past rest told takes keeps due file =
    (pays_there c rec (tied_at past rec.event) true old new past rest told takes (well_on c old past rec.kernel rec.event rest told keeps).1 due file).1

pub owed_back : (c : Description) (rec : Rec) (old new : Sharing) (past : Past) (rest : List Rec) → TellsSharing old past → TakesSo c rec (tied_at past rec.event) (cuts_at c past rec) true old new → Owes c new (past_with c rec past) rest → (stops_well c past rec rec.kernel rec.event rest ≡ true) × Owes c old past (rec ∷ rest)
owed_back c rec old new past rest told takes left =
    let truncates = cuts_at c past rec in
    let tie = tied_at past rec.event in
    let pays = pays_last old.last (licence_by old rec.event truncates new.opens.entries) in
    let well = is_well_stopped old.stopped.keys old.called.keys rec.kernel rec.event tie in
    let fits = and_parts well pays (sym takes.fits_is) in
    let due : FileId → Bool = λ file. is_owed_on (file_at old file) file (watch_of file past.seen) (seen_from c past.unix (rec ∷ rest)) (rec ∷ rest) in
    let both : (file : FileId) → (asks_all c past rec rest file ≡ true) × (due file ≡ true) = λ file. and_parts (asks_all c past rec rest file) (due file) (due_next c rec tie true old new past rest file told takes ∙ and_from (settles rec.event truncates file (file_at old file)) (is_owed_on (file_at new file) file (watch_of file (past_with c rec past).seen) (seen_from c (past_with c rec past).unix rest) rest) (settles_on old.last rec.event truncates file old.opens.entries new.opens.entries (opens_are c rec tie truncates true old new takes file) fits.1) (left file)) in
    (well_back c old past rec.kernel rec.event rest told fits.0 (λ file. (both file).0), λ file. (both file).1)

pub sharing_breaks : (c : Description) (rec : Rec) (old new : Sharing) (past : Past) (rest : List Rec) → TellsSharing old past → TakesSo c rec (tied_at past rec.event) (cuts_at c past rec) false old new → stops_well c past rec rec.kernel rec.event rest ≡ true → Owes c old past (rec ∷ rest) → ⊥
sharing_breaks c rec old new past rest told takes keeps due =
    let truncates = cuts_at c past rec in
    let tie = tied_at past rec.event in
    let is = well_on c old past rec.kernel rec.event rest told keeps in
    let pays = pays_back old.last rec.event truncates old.opens.entries new.opens.entries (opens_are c rec tie truncates false old new takes) (λ file. (pays_there c rec tie false old new past rest told takes is.1 due file).0) in
    false≢true (takes.fits_is ∙ and_from (is_well_stopped old.stopped.keys old.called.keys rec.kernel rec.event tie) (pays_last old.last (licence_by old rec.event truncates new.opens.entries)) is.0 pays)

-- ---- before the first record, and behind the last one

abbrev nothing : FileKept
nothing = record { opens = []; licensed = false; grants = false; stops = false; called = false; fresh = None }

nothing_told : (file : FileId) → TellsFile nothing file no_watch false
nothing_told file = record {
  opens_told = refl;
  licensed_told = refl;
  none_waits = λ h. absurd (false≢true h);
  called_told = refl;
  open_told = λ h. absurd (false≢true h);
  leaving_told = λ e. refl;
  opening_told = refl;
  fresh_told = tt;
}

nothing_kept : (kept : Sharing) → kept.opens.entries ≡ [] → kept.licensed.keys ≡ [] → kept.grants.keys ≡ [] → kept.stops.keys ≡ [] → kept.called.keys ≡ [] → kept.last ≡ None → (file : FileId) → nothing ≡ file_at kept file
nothing_kept kept opens licensed grants stops called last file =
    sym (same_kept (opens_at kept.opens.entries file) [] (has_file kept.licensed.keys file) false (has_file kept.grants.keys file) false (has_file kept.stops.keys file) false (has_file kept.called.keys file) false (fresh_for kept.last file) None (ap (λ es. opens_at es file) opens) (ap (λ ks. has_file ks file) licensed) (ap (λ ks. has_file ks file) grants) (ap (λ ks. has_file ks file) stops) (ap (λ ks. has_file ks file) called) (ap (λ o. fresh_for o file) last))

pub sharing_starts : (c : Description) (kept : Sharing) → kept.opens.entries ≡ [] → kept.licensed.keys ≡ [] → kept.grants.keys ≡ [] → kept.stops.keys ≡ [] → kept.called.keys ≡ [] → kept.stopped.keys ≡ [] → kept.last ≡ None → TellsSharing kept (no_past c)
sharing_starts c kept opens licensed grants stops called stopped last = record {
  files = λ file. subst (λ (m : FileKept). TellsFile m file no_watch false) (nothing_kept kept opens licensed grants stops called last file) (nothing_told file);
  stopped_told = λ at. ap (λ ks. has_stamp ks at) stopped;
}

pub nothing_owed : (c : Description) (kept : Sharing) (trace : List Rec) → kept.opens.entries ≡ [] → kept.licensed.keys ≡ [] → kept.grants.keys ≡ [] → kept.stops.keys ≡ [] → kept.called.keys ≡ [] → kept.last ≡ None → Owes c kept (no_past c) trace
nothing_owed c kept trace opens licensed grants stops called last file =
    ap (λ (m : FileKept). is_owed_on m file no_watch (seen_from c (no_past c).unix trace) trace) (sym (nothing_kept kept opens licensed grants stops called last file))

and_false : (b : Bool) → (b && false) ≡ false
and_false true = refl
and_false false = refl

-- a file that waits for a licence isn't shared
waits_none : (g h w p : Bool) → g ≡ true → ((g || h) ≡ true → (w || p) ≡ false) → ((not (g || h && false) || w) ≡ true) → ⊥
waits_none true h w p is none owed = true≢false (sym owed ∙ (or_parts w p (none refl)).0)
waits_none false h w p is none owed = false≢true is

self_there : (f : FileId) (fs : List FileId) → has_file (f ∷ fs) f ≡ true
self_there f fs = ap (λ b. b || has_file fs f) (file_self f)

grants_by : (kept : Sharing) (past : Past) (keys : List FileId) → kept.grants.keys ≡ keys → TellsSharing kept past → ((file : FileId) → (not (has_file kept.grants.keys file || has_file kept.stops.keys file && false) || is_shared_in (opens_at kept.opens.entries file)) ≡ true) → (length keys == 0) ≡ true
grants_by kept past [] is told owed = refl
grants_by kept past (f ∷ fs) is told owed =
    absurd (waits_none (has_file kept.grants.keys f) (has_file kept.stops.keys f) (is_shared_in (opens_at kept.opens.entries f)) (is_some (fresh_for kept.last f)) (ap (λ ks. has_file ks f) is ∙ self_there f fs) (λ h. ap (λ w. w || is_some (fresh_for kept.last f)) (before_shared (file_at kept f) f (watch_of f past.seen) (is_called_back f past.records) (told.files f)) ∙ (told.files f).none_waits h) (owed f))

no_grants : (keys : List FileId) (file : FileId) → (length keys == 0) ≡ true → has_file keys file ≡ false
no_grants [] file none = refl
no_grants (f ∷ fs) file none = absurd (omega (arith, eqb-true (length (f ∷ fs)) 0 none))

pays_end : (last : Option Opening) (opens : List (FileId × List OpenedAt)) → ((file : FileId) → (not (is_due_in (fresh_for last file)) || is_shared_in (opens_at opens file)) ≡ true) → pays_last last (shared_last opens last) ≡ true
pays_end None opens owed = refl
pays_end (Some o) opens owed = by (same_file o.file o.file) (file_self o.file) (owed o.file)
  where
    by : (b : Bool) → b ≡ true → (not (is_due_in (fresh_by o b)) || is_shared_in (opens_at opens o.file)) ≡ true → (not o.is_due || is_shared_in (opens_at opens o.file)) ≡ true
    by true is h = h
    by false is h = absurd (false≢true is)

due_end : (o : Opening) (opens : List (FileId × List OpenedAt)) (file : FileId) (b : Bool) → same_file o.file file ≡ b → (not o.is_due || is_shared_in (opens_at opens o.file)) ≡ true → (not (is_due_in (fresh_by o b)) || is_shared_in (opens_at opens file)) ≡ true
due_end o opens file true is pays = sym (ap (λ (g : FileId). not o.is_due || is_shared_in (opens_at opens g)) (file_is o.file file is)) ∙ pays
due_end o opens file false is pays = refl

due_last : (last : Option Opening) (opens : List (FileId × List OpenedAt)) (file : FileId) → pays_last last (shared_last opens last) ≡ true → (not (is_due_in (fresh_for last file)) || is_shared_in (opens_at opens file)) ≡ true
due_last None opens file pays = refl
due_last (Some o) opens file pays = due_end o opens file (same_file o.file file) refl pays

waits_no_more : (g h w : Bool) → g ≡ false → (not (g || h && false) || w) ≡ true
waits_no_more true h w none = absurd (true≢false none)
waits_no_more false true w none = refl
waits_no_more false false w none = refl

pub sharing_ends : (c : Description) (kept : Sharing) (past : Past) → TellsSharing kept past → (Owes c kept past [] → is_paid_in kept ≡ true) × (is_paid_in kept ≡ true → Owes c kept past [])
sharing_ends c kept past told =
    let waits : FileId → Bool = λ file. not (has_file kept.grants.keys file || has_file kept.stops.keys file && false) in
    let due : FileId → Bool = λ file. not (is_due_in (fresh_for kept.last file)) in
    let shared : (file : FileId) → is_shared_in (opens_at kept.opens.entries file) ≡ is_write_shared (watch_of file past.seen).opens = λ file. before_shared (file_at kept file) file (watch_of file past.seen) (is_called_back file past.records) (told.files file) in (
      λ owed.
          let each : (file : FileId) → ((waits file || is_shared_in (opens_at kept.opens.entries file)) ≡ true) × ((due file || is_shared_in (opens_at kept.opens.entries file)) ≡ true) = λ file. and_parts (waits file || is_shared_in (opens_at kept.opens.entries file)) (due file || is_shared_in (opens_at kept.opens.entries file)) (ap (λ w. (waits file || w) && (due file || w)) (shared file) ∙ owed file) in
          and_from (length kept.grants.keys == 0) (pays_last kept.last (shared_last kept.opens.entries kept.last)) (grants_by kept past kept.grants.keys refl told (λ file. (each file).0)) (pays_end kept.last kept.opens.entries (λ file. (each file).1)),
      λ paid.
          let both = and_parts (length kept.grants.keys == 0) (pays_last kept.last (shared_last kept.opens.entries kept.last)) paid in
          λ file. sym (ap (λ w. (waits file || w) && (due file || w)) (shared file)) ∙ and_from (waits file || is_shared_in (opens_at kept.opens.entries file)) (due file || is_shared_in (opens_at kept.opens.entries file)) (waits_no_more (has_file kept.grants.keys file) (has_file kept.stops.keys file) (is_shared_in (opens_at kept.opens.entries file)) (no_grants kept.grants.keys file both.0)) (due_last kept.last kept.opens.entries file both.1),
    )
