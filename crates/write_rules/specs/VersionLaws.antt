-- The versions of the files that kernels hold are told record by record.
use Rattle.std.proofs.Common.{◌≡◌, ◌∙◌, ◌≤◌, ℕ, ◌+◌, ◌==◌, Bool, true, false, cond, not, ◌&&◌, ◌||◌, List, [], ◌∷◌, ◌++◌, Option, Some, None, nat_lt, refl, sym, ap, ap₂, arith, append_assoc}
use Rattle.std.specs.List.{list_any}
use Rattle.std.proofs.lemmas.Bool.{eqb-true, le-ltb, lt-ltb}
use Rattle.std.proofs.lemmas.List.{append-nil}
use Rattle.sprite_ids.specs.declared.names.FileId.{FileId}
use Rattle.unix_calls.specs.declared.description.Description.{Description}
use Rattle.unix_calls.specs.declared.event.Event.{Event}
use Rattle.unix_calls.specs.declared.event.Event.TheVariants as event
use Rattle.unix_calls.specs.declared.event.Rec.{Rec}
use Rattle.call_journal.specs.Past.{Past, Seen, folded_from, holds, last_event, no_past, past_with, seen_at, state_by}
use Rattle.call_journal.specs.Matching.{same_file, is_at, writes}
use Rattle.call_journal.specs.Files.{mode_by}
use Rattle.call_journal.specs.Calls.{is_truncating}
use Rattle.call_journal.specs.Drops.{before_filled, has_missed, is_filled, is_given, is_never_taken, is_opened_of, is_opened_to_write, is_outdated, is_taken, is_truncated, is_truncating_event, is_untaken, is_written_elsewhere, last_seen, last_stamp, missed_step, stamp_by}
use Rattle.call_journal.proofs.GrowthLaws.{look_backs_grow}
use Rattle.trace_rules.specs.declared.place.BlockAt.{BlockAt}
use Rattle.trace_rules.specs.declared.place.FileAt.{FileAt}
use Rattle.trace_rules.specs.declared.place.StampAt.{StampAt}
use Rattle.write_rules.specs.declared.versions.Change.{Change}
use Rattle.write_rules.specs.declared.versions.Filling.{Filling}
use Rattle.write_rules.specs.declared.versions.Last.{Last}
use Rattle.write_rules.specs.declared.versions.Last.TheVariants as last
use Rattle.write_rules.specs.declared.versions.Taken.{Taken}
use Rattle.write_rules.specs.declared.versions.Versions.{Versions}
use Rattle.trace_rules.specs.Lists.{or_false}
use Rattle.trace_rules.specs.Places.{same_place, same_use, same_stamp, file_of, has_stamp}
use Rattle.trace_rules.specs.PlaceLaws.{file_is, place_is, use_is}
use Rattle.write_rules.specs.Marks.{mark_by, mark_of}
use Rattle.write_rules.specs.Versions.{taken_at, stamp_or, stamp_at, mode_or, filled_at, filling_place, filling_stamp, change_of, change_for, place_or, given_at, missed_at, stamp_of, has_missed_in, ModesBy, FillsBy, PutsPlace, GivesBy, next_change, OpensIf, TruncatesIf, ChangesBy, is_untaken_in, MissesIf, MissesBy, VersionsOn, StartsOn, last_or, TellsVersions}

-- ---- small laws

folded_grows : {A : Type 0} {S : Type 0} (step : List A → A → S → S) (before : List A) (s : S) (xs : List A) (x : A) → folded_from step before s (xs ++ x ∷ []) ≡ step (before ++ xs) x (folded_from step before s xs)
folded_grows step before s [] x = ap (λ b. step b x s) (sym (append-nil before))
folded_grows step before s (y ∷ ys) x =
    folded_grows step (before ++ y ∷ []) (step before y s) ys x
    ∙ ap (λ b. step b x (folded_from step (before ++ y ∷ []) (step before y s) ys)) (append_assoc before (y ∷ []) ys)

or_true : (b : Bool) → (b || true) ≡ true
or_true true = refl
or_true false = refl

or_assoc : (a b d : Bool) → (a || (b || d)) ≡ ((a || b) || d)
or_assoc true b d = refl
or_assoc false b d = refl

and_false : (a : Bool) → (a && false) ≡ false
and_false true = refl
and_false false = refl

same_both : {A : Type 0} (b : Bool) (x : A) → x ≡ cond b x x
same_both true x = refl
same_both false x = refl

never_so : {A : Type 0} (a : Bool) (x y : A) → y ≡ cond (a && false) x y
never_so true x y = refl
never_so false x y = refl

-- of a place that is kept last, and one that breaks it off
placed : (f x : Bool) (place since at : ℕ) (found : Bool) → (f ≡ true → x ≡ false) → since ≤ place → at ≤ place → nat_lt since at ≡ found → nat_lt (cond f (place + 1) since) (cond x (place + 1) at) ≡ (not f && (found || x))
placed true true place since at found apart low high told = absurd (cc (apart refl))
placed true false place since at found apart low high told = le-ltb (place + 1) at (omega (arith, high))
placed false true place since at found apart low high told = lt-ltb since (place + 1) (omega (arith, low)) ∙ sym (or_true found)
placed false false place since at found apart low high told = told ∙ sym (or_false found)

placed_low : (x : Bool) (place at : ℕ) → at ≤ place → cond x (place + 1) at ≤ place + 1
placed_low true place at low = omega arith
placed_low false place at low = omega (arith, low)

-- ---- modes and stamps

mode_taken : (b d : Bool) (taken : Taken) (o : Option Taken) → mode_or (cond (b && d) (Some taken) o) ≡ cond b (cond d taken.mode (mode_or o)) (mode_or o)
mode_taken true true taken o = refl
mode_taken true false taken o = refl
mode_taken false d taken o = refl

mode_more : (kernel : ℕ) (e : Event) (at : FileAt) (old new : List (FileAt × Taken)) → ModesBy kernel e old new → mode_or (taken_at new at) ≡ cond (kernel == at.kernel) (mode_by at.file e (mode_or (taken_at old at))) (mode_or (taken_at old at))
mode_more kernel (event.Mode file stamp mode) at old new more =
    ap mode_or (more at) ∙ mode_taken (kernel == at.kernel) (same_file file at.file) (record { stamp = stamp; mode = mode }) (taken_at old at)
mode_more kernel e at old new more = ap (λ ms. mode_or (taken_at ms at)) more ∙ same_both (kernel == at.kernel) (mode_or (taken_at old at))

stamp_taken : (b d : Bool) (taken : Taken) (o : Option Taken) → stamp_or (cond (b && d) (Some taken) o) ≡ cond b (cond d (Some taken.stamp) (stamp_or o)) (stamp_or o)
stamp_taken true true taken o = refl
stamp_taken true false taken o = refl
stamp_taken false d taken o = refl

stamp_more : (kernel : ℕ) (e : Event) (at : FileAt) (old new : List (FileAt × Taken)) → ModesBy kernel e old new → stamp_at new at ≡ cond (kernel == at.kernel) (stamp_by at.file e (stamp_at old at)) (stamp_at old at)
stamp_more kernel (event.Mode file stamp mode) at old new more =
    ap stamp_or (more at) ∙ stamp_taken (kernel == at.kernel) (same_file file at.file) (record { stamp = stamp; mode = mode }) (taken_at old at)
stamp_more kernel e at old new more = ap (λ ms. stamp_at ms at) more ∙ same_both (kernel == at.kernel) (stamp_at old at)

-- ---- fillings

filled_more : (kernel : ℕ) (e : Event) (place : ℕ) (modes : List (FileAt × Taken)) (at : BlockAt) (old new : List (BlockAt × Filling)) → FillsBy kernel e place modes old new → filled_at new at ≡ cond (kernel == at.kernel && is_filled at.file at.block e) (Some (record { place = place; stamp = stamp_at modes (file_of at) })) (filled_at old at)
filled_more kernel (event.Filled file block) place modes at old new more = more at ∙ by (same_place (record { kernel = kernel; file = file; block = block }) at) refl
  where
    by : (b : Bool) → same_place (record { kernel = kernel; file = file; block = block }) at ≡ b → cond b (Some (record { place = place; stamp = stamp_at modes (record { kernel = kernel; file = file }) })) (filled_at old at) ≡ cond b (Some (record { place = place; stamp = stamp_at modes (file_of at) })) (filled_at old at)
    by true is = ap (λ (p : BlockAt). Some (record { place = place; stamp = stamp_at modes (file_of p) })) (place_is (record { kernel = kernel; file = file; block = block }) at is)
    by false is = refl
filled_more kernel e place modes at old new more = ap (λ fs. filled_at fs at) more ∙ never_so (kernel == at.kernel) (Some (record { place = place; stamp = stamp_at modes (file_of at) })) (filled_at old at)

place_filled : (b : Bool) (filling : Filling) (o : Option Filling) → filling_place (cond b (Some filling) o) ≡ cond b filling.place (filling_place o)
place_filled true filling o = refl
place_filled false filling o = refl

stamp_filled : (b : Bool) (filling : Filling) (o : Option Filling) → filling_stamp (cond b (Some filling) o) ≡ cond b filling.stamp (filling_stamp o)
stamp_filled true filling o = refl
stamp_filled false filling o = refl

-- the stamp before a block came in
stamp_before : (at : BlockAt) (b : Bool) (records earlier : List Rec) (stamp before : Option ℕ) → stamp ≡ last_stamp at.kernel at.file records → before ≡ last_stamp at.kernel at.file earlier → cond b stamp before ≡ last_stamp at.kernel at.file (cond b records earlier)
stamp_before at true records earlier stamp before is was = is
stamp_before at false records earlier stamp before is was = was

-- ---- changes

-- what the last record opened
abbrev is_opened_last : Last → FileId → Bool
is_opened_last (last.Opened file) other = same_file file other
is_opened_last _ other = false

opened_told : (file : FileId) (o : Option Event) → is_opened_last (last_or o) file ≡ holds (is_opened_of file) o
opened_told file None = refl
opened_told file (Some (event.Grant f to stamp mode)) = refl
opened_told file (Some (event.Opened f stream kernel mode)) = refl
opened_told file (Some e) = refl

-- an event changes a file for a kernel
abbrev changes : Event → Bool → Last → FileId → ℕ → Bool
changes e mark last file kernel = is_written_elsewhere file kernel e || (is_truncating_event e && mark && is_opened_last last file)

written_by : (same other : Bool) (place kept before : ℕ) (o : Option Change) (change : Change) → (same ≡ true → change_for (Some change) kept ≡ cond other (change_for o kept) place) → change_for (cond same (Some change) o) kept ≡ cond (same && not other && true) place (change_for o kept)
written_by true true place kept before o change is = is refl
written_by true false place kept before o change is = is refl
written_by false other place kept before o change is = refl

next_for : (b : Bool) (o : Option Change) (by place kernel : ℕ) → (by == kernel) ≡ b → change_for (Some (next_change o by place)) kernel ≡ cond b (change_for o kernel) place
next_for true o by place kernel is =
    ap (λ t. cond t (change_for o by) place) is ∙ ap (change_for o) (eqb-true by kernel is)
next_for false o by place kernel is = ap (λ t. cond t (change_for o by) place) is

opens_more : (w : Bool) (file : FileId) (by place : ℕ) (other : FileId) (kernel : ℕ) (old new : List (FileId × Change)) → OpensIf w file by place old new → change_for (change_of new other) kernel ≡ cond (same_file file other && not (by == kernel) && w) place (change_for (change_of old other) kernel)
opens_more true file by place other kernel old new more =
    ap (λ o. change_for o kernel) (more other)
    ∙ written_by (same_file file other) (by == kernel) place kernel 0 (change_of old other) (next_change (change_of old file) by place) (λ same. next_for (by == kernel) (change_of old file) by place kernel refl ∙ ap (λ f. cond (by == kernel) (change_for (change_of old f) kernel) place) (file_is file other same))
opens_more false file by place other kernel old new more =
    ap (λ cs. change_for (change_of cs other) kernel) more ∙ never_so (same_file file other && not (by == kernel)) place (change_for (change_of old other) kernel)

all_at : (b : Bool) (place kernel k : ℕ) (o : Option Change) → change_for (cond b (Some (record { kernel = kernel; place = place; other = place })) o) k ≡ cond b place (change_for o k)
all_at true place kernel k o = by (kernel == k)
  where
    by : (b : Bool) → cond b place place ≡ place
    by true = refl
    by false = refl
all_at false place kernel k o = refl

truncates_more : (t : Bool) (kernel place : ℕ) (last : Last) (other : FileId) (k : ℕ) (old new : List (FileId × Change)) → TruncatesIf t kernel place last old new → change_for (change_of new other) k ≡ cond (t && is_opened_last last other) place (change_for (change_of old other) k)
truncates_more true kernel place (last.Opened file) other k old new more =
    ap (λ o. change_for o k) (more other) ∙ all_at (same_file file other) place kernel k (change_of old other)
truncates_more true kernel place (last.Granted stamp) other k old new more = ap (λ cs. change_for (change_of cs other) k) more
truncates_more true kernel place last.Other other k old new more = ap (λ cs. change_for (change_of cs other) k) more
truncates_more false kernel place last other k old new more = ap (λ cs. change_for (change_of cs other) k) more

turned : (a b d : Bool) → (a && b && d) ≡ (b && a && d)
turned true true d = refl
turned true false d = refl
turned false true d = refl
turned false false d = refl

change_more : (kernel : ℕ) (e : Event) (mark : Bool) (place : ℕ) (last : Last) (file : FileId) (k : ℕ) (old new : List (FileId × Change)) → ChangesBy kernel e mark place last old new → change_for (change_of new file) k ≡ cond (changes e mark last file k) place (change_for (change_of old file) k)
change_more kernel (event.Opened f stream by mode) mark place last file k old new more =
    opens_more (writes mode) f by place file k old new more
    ∙ ap (λ b. cond b place (change_for (change_of old file) k)) (sym (or_false (same_file f file && not (by == k) && writes mode)))
change_more kernel (event.Enter entry) mark place last file k old new more =
    truncates_more (mark && is_truncating entry) kernel place last file k old new more
    ∙ ap (λ b. cond b place (change_for (change_of old file) k)) (turned mark (is_truncating entry) (is_opened_last last file))
change_more kernel e mark place last file k old new more = ap (λ cs. change_for (change_of cs file) k) more

-- what comes in changes no file
filled_apart : (file : FileId) (kernel : ℕ) (at : BlockAt) (e : Event) (mark : Bool) (last : Last) → (kernel == at.kernel && is_filled at.file at.block e) ≡ true → changes e mark last file at.kernel ≡ false
filled_apart file kernel at (event.Filled f b) mark last is = refl
filled_apart file kernel at e mark last is = absurd (cc (is, and_false (kernel == at.kernel)))

-- the mark of an entry tells whether it makes a stream of a file
truncated_told : (c : Description) (past : Past) (kernel : ℕ) (e : Event) (last : Last) (o : Option Event) (file : FileId) → is_opened_last last file ≡ holds (is_opened_of file) o → (is_truncating_event e && mark_by c past kernel e && is_opened_last last file) ≡ is_truncated file o (seen_at past.unix (record { kernel = kernel; event = e }) (state_by c e past.unix))
truncated_told c past kernel (event.Enter entry) last o file is =
    ap (λ b. is_truncating entry && mark_by c past kernel (event.Enter entry) && b) is
truncated_told c past kernel (event.Burst pid count) last o file is = refl
truncated_told c past kernel e last o file is = refl

-- ---- grants that are never taken

given_by : (a b d : Bool) → (a && (b && d)) ≡ (b && a && d)
given_by true true d = refl
given_by true false d = refl
given_by false true d = refl
given_by false false d = refl

place_given : (b : Bool) (place : ℕ) (o : Option ℕ) → place_or (cond b (Some place) o) ≡ cond b place (place_or o)
place_given true place o = refl
place_given false place o = refl

given_put : (to : ℕ) (file : FileId) (stamp place : ℕ) (at : FileAt) (s : ℕ) (old new : List (StampAt × ℕ)) → PutsPlace (record { kernel = to; file = file; stamp = stamp }) place old new → place_or (given_at new (stamp_of at s)) ≡ cond (same_file file at.file && to == at.kernel && stamp == s) place (place_or (given_at old (stamp_of at s)))
given_put to file stamp place at s old new more =
    ap place_or (more (stamp_of at s))
    ∙ place_given (same_stamp (record { kernel = to; file = file; stamp = stamp }) (stamp_of at s)) place (given_at old (stamp_of at s))
    ∙ ap (λ b. cond b place (place_or (given_at old (stamp_of at s)))) (given_by (to == at.kernel) (same_file file at.file) (stamp == s))

given_more : (e : Event) (place : ℕ) (at : FileAt) (s : ℕ) (old new : List (StampAt × ℕ)) → GivesBy e place old new → place_or (given_at new (stamp_of at s)) ≡ cond (is_given at.kernel at.file s e) place (place_or (given_at old (stamp_of at s)))
given_more (event.Grant file to stamp mode) place at s old new more = given_put to file stamp place at s old new more
given_more (event.Callback file to stamp kind) place at s old new more = given_put to file stamp place at s old new more
given_more e place at s old new more = ap (λ gs. place_or (given_at gs (stamp_of at s))) more

-- whether the last record gave what is never taken
untaken_by : (trace : List Rec) (taken : List StampAt) (at : FileAt) (to : ℕ) (file : FileId) (stamp : ℕ) (a b : Bool) → ((p : StampAt) → has_stamp taken p ≡ list_any (is_at p.kernel (is_taken p.file p.stamp)) trace) → (to == at.kernel) ≡ a → same_file file at.file ≡ b → (a && b && not (has_stamp taken (record { kernel = to; file = file; stamp = stamp }))) ≡ (b && a && is_never_taken at.kernel at.file stamp trace)
untaken_by trace taken at to file stamp true true told kernel same =
    ap not (ap₂ (λ k f. has_stamp taken (record { kernel = k; file = f; stamp = stamp })) (eqb-true to at.kernel kernel) (file_is file at.file same) ∙ told (record { kernel = at.kernel; file = at.file; stamp = stamp }))
untaken_by trace taken at to file stamp true false told kernel same = refl
untaken_by trace taken at to file stamp false true told kernel same = refl
untaken_by trace taken at to file stamp false false told kernel same = refl

untaken_told : (trace : List Rec) (taken : List StampAt) (at : FileAt) (o : Option Event) → ((p : StampAt) → has_stamp taken p ≡ list_any (is_at p.kernel (is_taken p.file p.stamp)) trace) → is_untaken_in (last_or o) taken at ≡ holds (is_untaken at.kernel at.file trace) o
untaken_told trace taken at None told = refl
untaken_told trace taken at (Some (event.Grant file to stamp mode)) told = untaken_by trace taken at to file stamp (to == at.kernel) (same_file file at.file) told refl refl
untaken_told trace taken at (Some (event.Opened file stream kernel mode)) told = refl
untaken_told trace taken at (Some e) told = refl

misses_by : (w u : Bool) (file : FileAt) (place : ℕ) (last : Last) (taken : List StampAt) (at : FileAt) (s : Bool) (old new : List (FileAt × ℕ)) → same_use file at ≡ s → is_untaken_in last taken file ≡ u → MissesIf (w && u) file place old new → place_or (missed_at new at) ≡ cond (s && w && is_untaken_in last taken at) place (place_or (missed_at old at))
misses_by true true file place last taken at true old new same is more =
    ap place_or (more at ∙ ap (λ b. cond b (Some place) (missed_at old at)) same)
    ∙ ap (λ b. cond b place (place_or (missed_at old at))) (sym (sym (ap (is_untaken_in last taken) (use_is file at same)) ∙ is))
misses_by true true file place last taken at false old new same is more =
    ap place_or (more at ∙ ap (λ b. cond b (Some place) (missed_at old at)) same)
misses_by true false file place last taken at true old new same is more =
    ap (λ ms. place_or (missed_at ms at)) more
    ∙ ap (λ b. cond b place (place_or (missed_at old at))) (sym (sym (ap (is_untaken_in last taken) (use_is file at same)) ∙ is))
misses_by true false file place last taken at false old new same is more = ap (λ ms. place_or (missed_at ms at)) more
misses_by false u file place last taken at true old new same is more = ap (λ ms. place_or (missed_at ms at)) more
misses_by false u file place last taken at false old new same is more = ap (λ ms. place_or (missed_at ms at)) more

use_turned : (a b d e : Bool) → ((a && b) && d && e) ≡ (b && a && d && e)
use_turned true true d e = refl
use_turned true false d e = refl
use_turned false true d e = refl
use_turned false false d e = refl

missed_more : (e : Event) (place : ℕ) (last : Last) (taken : List StampAt) (at : FileAt) (old new : List (FileAt × ℕ)) → MissesBy e place last taken old new → place_or (missed_at new at) ≡ cond (is_opened_to_write at.kernel at.file e && is_untaken_in last taken at) place (place_or (missed_at old at))
missed_more (event.Opened file stream kernel mode) place last taken at old new more =
    misses_by (writes mode) (is_untaken_in last taken (record { kernel = kernel; file = file })) (record { kernel = kernel; file = file }) place last taken at (same_use (record { kernel = kernel; file = file }) at) old new refl refl more
    ∙ ap (λ b. cond b place (place_or (missed_at old at))) (use_turned (kernel == at.kernel) (same_file file at.file) (writes mode) (is_untaken_in last taken at))
missed_more e place last taken at old new more = ap (λ ms. place_or (missed_at ms at)) more

-- what is given opens nothing
given_apart : (at : FileAt) (s : ℕ) (e : Event) (u : Bool) → is_given at.kernel at.file s e ≡ true → (is_opened_to_write at.kernel at.file e && u) ≡ false
given_apart at s (event.Grant file to stamp mode) u is = refl
given_apart at s (event.Callback file to stamp kind) u is = refl
given_apart at s e u is = absurd (cc (is))

-- ---- one record more

seen_more : (ss : List Seen) (s : Seen) → last_seen (ss ++ s ∷ []) ≡ Some s.rec.event
seen_more [] s = refl
seen_more (x ∷ []) s = refl
seen_more (x ∷ y ∷ rest) s = seen_more (y ∷ rest) s

last_more : (rs : List Rec) (r : Rec) → last_event (rs ++ r ∷ []) ≡ Some r.event
last_more [] r = refl
last_more (x ∷ []) r = refl
last_more (x ∷ y ∷ rest) r = last_more (y ∷ rest) r

outdated_more : (c : Description) (trace : List Rec) (old new : Versions) (past : Past) (kernel : ℕ) (e : Event) (at : BlockAt) → TellsVersions trace old past → VersionsOn kernel e (mark_by c past kernel e) old new → nat_lt (filling_place (filled_at new.filled.entries at)) (change_for (change_of new.changed.entries at.file) at.kernel) ≡ is_outdated at.kernel at.file at.block (past.seen ++ seen_at past.unix (record { kernel = kernel; event = e }) (state_by c e past.unix) ∷ [])
outdated_more c trace old new past kernel e at told more =
    let mark = mark_by c past kernel e in
    let f = kernel == at.kernel && is_filled at.file at.block e in
    let seen = seen_at past.unix (record { kernel = kernel; event = e }) (state_by c e past.unix) in
    let filling = ap filling_place (filled_more kernel e (old.place + 1) old.modes.entries at old.filled.entries new.filled.entries more.filled) ∙ place_filled f (record { place = old.place + 1; stamp = stamp_at old.modes.entries (file_of at) }) (filled_at old.filled.entries at) in
    let change = change_more kernel e mark (old.place + 1) old.last at.file at.kernel old.changed.entries new.changed.entries more.changed in
    let last : is_opened_last old.last at.file ≡ holds (is_opened_of at.file) (last_seen past.seen) = ap (λ l. is_opened_last l at.file) told.last_is ∙ opened_told at.file (last_event past.records) ∙ sym (ap (holds (is_opened_of at.file)) told.seen) in
    ap₂ nat_lt filling change
    ∙ placed f (changes e mark old.last at.file at.kernel) old.place (filling_place (filled_at old.filled.entries at)) (change_for (change_of old.changed.entries at.file) at.kernel) (is_outdated at.kernel at.file at.block past.seen) (λ is. filled_apart at.file kernel at e mark old.last is) (told.fillings_before at) (told.changes_before at.file at.kernel) (told.outdated at)
    ∙ ap (λ t. not f && (is_outdated at.kernel at.file at.block past.seen || (is_written_elsewhere at.file at.kernel e || t))) (truncated_told c past kernel e old.last (last_seen past.seen) at.file last)
    ∙ ap (λ b. not f && b) (or_assoc (is_outdated at.kernel at.file at.block past.seen) (is_written_elsewhere at.file at.kernel e) (is_truncated at.file (last_seen past.seen) seen))
    ∙ sym (look_backs_grow.versions at.kernel at.file at.block past.seen seen)

missed_told_on : (trace : List Rec) (old new : Versions) (past : Past) (kernel : ℕ) (e : Event) (mark : Bool) (at : FileAt) (stamp : ℕ) → TellsVersions trace old past → VersionsOn kernel e mark old new → has_missed_in new.given.entries new.missed.entries at stamp ≡ has_missed at.kernel at.file (Some stamp) (past.records ++ record { kernel = kernel; event = e } ∷ []) trace
missed_told_on trace old new past kernel e mark at stamp told more =
    let given = given_more e (old.place + 1) at stamp old.given.entries new.given.entries more.given in
    let missed = missed_more e (old.place + 1) old.last old.taken.keys at old.missed.entries new.missed.entries more.missed in
    let untaken : is_untaken_in old.last old.taken.keys at ≡ holds (is_untaken at.kernel at.file trace) (last_event past.records) = ap (λ l. is_untaken_in l old.taken.keys at) told.last_is ∙ untaken_told trace old.taken.keys at (last_event past.records) told.taken in
    ap₂ nat_lt given missed
    ∙ placed (is_given at.kernel at.file stamp e) (is_opened_to_write at.kernel at.file e && is_untaken_in old.last old.taken.keys at) old.place (place_or (given_at old.given.entries (stamp_of at stamp))) (place_or (missed_at old.missed.entries at)) (has_missed at.kernel at.file (Some stamp) past.records trace) (λ is. given_apart at stamp e (is_untaken_in old.last old.taken.keys at) is) (told.given_before (stamp_of at stamp)) (told.missed_before at) (told.missed at stamp)
    ∙ ap (λ b. not (is_given at.kernel at.file stamp e) && (has_missed at.kernel at.file (Some stamp) past.records trace || (is_opened_to_write at.kernel at.file e && b))) untaken
    ∙ sym (folded_grows (missed_step at.kernel at.file stamp trace) [] false past.records (record { kernel = kernel; event = e }))

-- a place that is kept of a stamp is no later than the last record
given_low : (kernel : ℕ) (e : Event) (mark : Bool) (old new : Versions) (o : StampAt) → VersionsOn kernel e mark old new → place_or (given_at old.given.entries o) ≤ old.place → place_or (given_at new.given.entries o) ≤ old.place + 1
given_low kernel e mark old new o more low =
    let at : FileAt = record { kernel = o.kernel; file = o.file } in
    let is = given_more e (old.place + 1) at o.stamp old.given.entries new.given.entries more.given in
    let near = placed_low (is_given o.kernel o.file o.stamp e) old.place (place_or (given_at old.given.entries o)) low in
    omega (arith, is, near)

pub versions_told_on : (c : Description) (trace : List Rec) (old new : Versions) (past : Past) (rec : Rec) → TellsVersions trace old past → VersionsOn rec.kernel rec.event (mark_of c past rec) old new → TellsVersions trace new (past_with c rec past)
versions_told_on c trace old new past rec told more = record {
  taken = λ at. ap (λ ks. has_stamp ks at) more.taken ∙ told.taken at;
  modes = λ at.
      mode_more rec.kernel rec.event at old.modes.entries new.modes.entries more.modes
      ∙ ap (λ m. cond (rec.kernel == at.kernel) (mode_by at.file rec.event m) m) (told.modes at)
      ∙ sym (look_backs_grow.modes at.kernel at.file past.records rec);
  stamps = λ at.
      stamp_more rec.kernel rec.event at old.modes.entries new.modes.entries more.modes
      ∙ ap (λ s. cond (rec.kernel == at.kernel) (stamp_by at.file rec.event s) s) (told.stamps at)
      ∙ sym (look_backs_grow.stamps at.kernel at.file past.records rec);
  fillings = λ at.
      ap filling_stamp (filled_more rec.kernel rec.event (old.place + 1) old.modes.entries at old.filled.entries new.filled.entries more.filled)
      ∙ stamp_filled (rec.kernel == at.kernel && is_filled at.file at.block rec.event) (record { place = old.place + 1; stamp = stamp_at old.modes.entries (file_of at) }) (filled_at old.filled.entries at)
      ∙ stamp_before at (rec.kernel == at.kernel && is_filled at.file at.block rec.event) past.records (before_filled at.kernel at.file at.block past.records) (stamp_at old.modes.entries (file_of at)) (filling_stamp (filled_at old.filled.entries at)) (told.stamps (file_of at)) (told.fillings at)
      ∙ sym (ap (last_stamp at.kernel at.file) (look_backs_grow.fills at.kernel at.file at.block past.records rec));
  outdated = λ at. outdated_more c trace old new past rec.kernel rec.event at told more;
  missed = λ at stamp. missed_told_on trace old new past rec.kernel rec.event (mark_of c past rec) at stamp told more;
  last_is = more.last_is ∙ sym (ap last_or (last_more past.records rec));
  seen = seen_more past.seen (seen_at past.unix rec (state_by c rec.event past.unix)) ∙ sym (last_more past.records rec);
  fillings_before = λ at.
      let is = ap filling_place (filled_more rec.kernel rec.event (old.place + 1) old.modes.entries at old.filled.entries new.filled.entries more.filled) ∙ place_filled (rec.kernel == at.kernel && is_filled at.file at.block rec.event) (record { place = old.place + 1; stamp = stamp_at old.modes.entries (file_of at) }) (filled_at old.filled.entries at) in
      let near = placed_low (rec.kernel == at.kernel && is_filled at.file at.block rec.event) old.place (filling_place (filled_at old.filled.entries at)) (told.fillings_before at) in
      let place = more.place_is in
      omega (arith, is, near, place);
  changes_before = λ file kernel.
      let is = change_more rec.kernel rec.event (mark_of c past rec) (old.place + 1) old.last file kernel old.changed.entries new.changed.entries more.changed in
      let near = placed_low (changes rec.event (mark_of c past rec) old.last file kernel) old.place (change_for (change_of old.changed.entries file) kernel) (told.changes_before file kernel) in
      let place = more.place_is in
      omega (arith, is, near, place);
  given_before = λ at.
      let near = given_low rec.kernel rec.event (mark_of c past rec) old new at more (told.given_before at) in
      let place = more.place_is in
      omega (arith, near, place);
  missed_before = λ at.
      let is = missed_more rec.event (old.place + 1) old.last old.taken.keys at old.missed.entries new.missed.entries more.missed in
      let near = placed_low (is_opened_to_write at.kernel at.file rec.event && is_untaken_in old.last old.taken.keys at) old.place (place_or (missed_at old.missed.entries at)) (told.missed_before at) in
      let place = more.place_is in
      omega (arith, is, near, place);
}

-- nothing is told before the first record
pub versions_start : (c : Description) (trace : List Rec) (versions : Versions) → StartsOn trace versions → TellsVersions trace versions (no_past c)
versions_start c trace versions starts = record {
  taken = starts.taken;
  modes = λ at. ap (λ ms. mode_or (taken_at ms at)) starts.modes;
  stamps = λ at. ap (λ ms. stamp_at ms at) starts.modes;
  fillings = λ at. ap (λ fs. filling_stamp (filled_at fs at)) starts.filled;
  outdated = λ at. ap₂ (λ fs cs. nat_lt (filling_place (filled_at fs at)) (change_for (change_of cs at.file) at.kernel)) starts.filled starts.changed;
  missed = λ at stamp. ap₂ (λ gs ms. has_missed_in gs ms at stamp) starts.given starts.missed;
  last_is = starts.last_is;
  seen = refl;
  fillings_before = λ at. let is = ap (λ fs. filling_place (filled_at fs at)) starts.filled in omega (arith, is);
  changes_before = λ file kernel. let is = ap (λ cs. change_for (change_of cs file) kernel) starts.changed in omega (arith, is);
  given_before = λ at. let is = ap (λ gs. place_or (given_at gs at)) starts.given in omega (arith, is);
  missed_before = λ at. let is = ap (λ ms. place_or (missed_at ms at)) starts.missed in omega (arith, is);
}
