-- When files were opened and called back is told record by record.
use Rattle.std.proofs.Common.{◌≡◌, ◌∙◌, ◌≤◌, ℕ, ◌+◌, ◌==◌, Bool, true, false, cond, ◌&&◌, not, List, [], nat_le, Option, Some, None, refl, sym, ap, ap₂, subst, arith}
use Rattle.std.proofs.lemmas.Bool.{and_parts, eqb-true, eq-eqb}
use Rattle.sprite_ids.specs.Lists.{one_if}
use Rattle.sprite_ids.specs.declared.names.FileId.{FileId}
use Rattle.unix_calls.specs.declared.description.Description.{Description}
use Rattle.unix_calls.specs.declared.event.SendKind.TheVariants as send
use Rattle.unix_calls.specs.declared.event.Event.{Event}
use Rattle.unix_calls.specs.declared.event.Event.TheVariants as event
use Rattle.unix_calls.specs.declared.event.Rec.{Rec}
use Rattle.call_journal.specs.Past.{Past, past_with}
use Rattle.call_journal.specs.Matching.{same_file, has_event}
use Rattle.call_journal.specs.Drops.{is_opened_of}
use Rattle.call_journal.specs.WorthRecords.{is_callback_to, was_opened}
use Rattle.trace_rules.specs.declared.place.FileAt.{FileAt}
use Rattle.record_worth.specs.declared.callbacks.Calls.{Calls}
use Rattle.trace_rules.specs.Lists.{no_more, count_more, any_counted, any_since}
use Rattle.trace_rules.specs.PlaceLaws.{file_is}
use Rattle.trace_rules.specs.Places.{same_use}
use Rattle.record_worth.specs.Parts.{calls_well}
use Rattle.record_worth.specs.Callbacks.{count_or, open_kept, open_count, call_kept, is_called, is_open_in, may_call, open_behind, call_behind, CallsOn, IsCalled, was_called, TellsCalls}

-- ---- looking

called_is : (o : Option ℕ) (opens : ℕ) (told : Bool) → IsCalled o opens told → is_called o opens ≡ told
called_is None opens told is = sym is
called_is (Some count) opens told is = is.1

open_told : (judge : Calls) (records : List Rec) (file : FileId) → TellsCalls judge records → was_opened file records ≡ is_open_in judge.opens.entries file
open_told judge records file told = sym (any_counted (has_event (is_opened_of file)) records) ∙ ap (nat_le 1) (sym (told.opens_told file))

event_told : (judge : Calls) (past : Past) (e : Event) → TellsCalls judge past.records → calls_well past e ≡ may_call judge e
event_told judge past (event.Callback file to stamp kind) told =
    let at : FileAt = record { kernel = to; file = file } in
    ap₂ (λ a b. not a && b) (sym (called_is (call_kept judge.called.entries at) (open_count judge.opens.entries file) (was_called at past.records) (told.called_told at))) (open_told judge past.records file told)
event_told judge past (event.Send tx to about (send.Fetch file block)) told = open_told judge past.records file told
event_told judge past (event.Send tx to about (send.Op file)) told = refl
event_told judge past _ told = refl

pub calls_told : (c : Description) (judge : Calls) (past : Past) (rec : Rec) → TellsCalls judge past.records → calls_well past rec.event ≡ may_call judge rec.event
calls_told c judge past rec told = event_told judge past rec.event told

-- ---- one record more

opened_by : (before : List (FileId × ℕ)) (file other : FileId) (b : Bool) → same_file file other ≡ b → count_or (cond b (Some (open_count before file + 1)) (open_kept before other)) ≡ open_count before other + one_if b
opened_by before file other true is = ap (λ f. open_count before f + 1) (file_is file other is)
opened_by before file other false is = no_more (open_count before other)

open_step : (e : Event) (before : List (FileId × ℕ)) (file : FileId) → count_or (open_behind e before file) ≡ open_count before file + one_if (is_opened_of file e)
open_step (event.Opened f stream kernel mode) before file = opened_by before f file (same_file f file) refl
open_step _ before file = no_more (open_count before file)

-- a count is none of those behind it
not_later : (m n : ℕ) (b : Bool) → m ≤ n → (m == n + 1) ≡ b → b ≡ false
not_later m n true le is = (let same = eqb-true m (n + 1) is in absurd (omega (arith, le, same)))
not_later m n false le is = refl

-- it is opened, or not
open_called : (o : Option ℕ) (opens : ℕ) (told b : Bool) → IsCalled o opens told → IsCalled o (opens + one_if b) (cond b false told)
open_called None opens told true is = refl
open_called None opens told false is = is
open_called (Some m) opens told true is = (let le = is.0 in (omega (arith, le), not_later m opens (m == opens + 1) is.0 refl))
open_called (Some m) opens told false is = subst (λ (n : ℕ). (m ≤ n) × ((m == n) ≡ told)) (no_more opens) is

-- it is called back, or not
call_called : (o : Option ℕ) (opens : ℕ) (told b : Bool) → IsCalled o opens told → IsCalled (cond b (Some opens) o) opens (cond b true told)
call_called o opens told true is = (omega arith, eq-eqb opens opens refl)
call_called o opens told false is = is

turned : (a b : Bool) → (a && b) ≡ (b && a)
turned true true = refl
turned true false = refl
turned false true = refl
turned false false = refl

use_count : (opens : List (FileId × ℕ)) (to : ℕ) (file : FileId) (at : FileAt) (b : Bool) → same_use (record { kernel = to; file = file }) at ≡ b → (o : Option ℕ) → cond b (Some (open_count opens file)) o ≡ cond b (Some (open_count opens at.file)) o
use_count opens to file at true is o =
    let same : same_file file at.file ≡ true = (and_parts (to == at.kernel) (same_file file at.file) is).1 in
    ap (λ f. Some (open_count opens f)) (file_is file at.file same)
use_count opens to file at false is o = refl

called_on : (e : Event) (opens : List (FileId × ℕ)) (at : FileAt) (o : Option ℕ) (told : Bool) → IsCalled o (open_count opens at.file) told → IsCalled (call_behind e opens at o) (open_count opens at.file + one_if (is_opened_of at.file e)) (cond (is_opened_of at.file e) false (cond (is_callback_to at.file at.kernel e) true told))
called_on (event.Opened f stream kernel mode) opens at o told is = open_called o (open_count opens at.file) told (same_file f at.file) is
called_on (event.Callback f to stamp kind) opens at o told is =
    let b = same_use (record { kernel = to; file = f }) at in
    let here = call_called o (open_count opens at.file) told b is in
    let named = subst (λ (x : Option ℕ). IsCalled x (open_count opens at.file) (cond b true told)) (sym (use_count opens to f at b refl o)) here in
    let there = subst (λ (t : Bool). IsCalled (cond b (Some (open_count opens f)) o) (open_count opens at.file) (cond t true told)) (turned (to == at.kernel) (same_file f at.file)) named in
    subst (λ (n : ℕ). IsCalled (cond b (Some (open_count opens f)) o) n (cond (same_file f at.file && to == at.kernel) true told)) (no_more (open_count opens at.file)) there
called_on _ opens at o told is = subst (λ (n : ℕ). IsCalled o n told) (no_more (open_count opens at.file)) is

pub calls_told_on : (c : Description) (old new : Calls) (past : Past) (rec : Rec) → TellsCalls old past.records → CallsOn rec.event old new → TellsCalls new (past_with c rec past).records
calls_told_on c old new past rec told more = record {
  opens_told = λ file.
      ap count_or (more.opens file)
      ∙ open_step rec.event old.opens.entries file
      ∙ ap (λ n. n + one_if (is_opened_of file rec.event)) (told.opens_told file)
      ∙ sym (count_more (has_event (is_opened_of file)) past.records rec);
  called_told = λ at.
      let here = called_on rec.event old.opens.entries at (call_kept old.called.entries at) (was_called at past.records) (told.called_told at) in
      let counted : open_count old.opens.entries at.file + one_if (is_opened_of at.file rec.event) ≡ open_count new.opens.entries at.file = sym (ap count_or (more.opens at.file) ∙ open_step rec.event old.opens.entries at.file) in
      let kept = subst (λ (o : Option ℕ). IsCalled o (open_count old.opens.entries at.file + one_if (is_opened_of at.file rec.event)) (cond (is_opened_of at.file rec.event) false (cond (is_callback_to at.file at.kernel rec.event) true (was_called at past.records)))) (sym (more.called at)) here in
      let now = subst (λ (n : ℕ). IsCalled (call_kept new.called.entries at) n (cond (is_opened_of at.file rec.event) false (cond (is_callback_to at.file at.kernel rec.event) true (was_called at past.records)))) counted kept in
      subst (λ (b : Bool). IsCalled (call_kept new.called.entries at) (open_count new.opens.entries at.file) b) (sym (any_since (has_event (is_opened_of at.file)) (has_event (is_callback_to at.file at.kernel)) past.records rec)) now;
}

-- before the first record
pub no_calls_told : (judge : Calls) → judge.opens.entries ≡ [] → judge.called.entries ≡ [] → TellsCalls judge []
no_calls_told judge opens called = record {
  opens_told = λ file. ap (λ (m : List (FileId × ℕ)). open_count m file) opens;
  called_told = λ at. subst (λ (m : List (FileAt × ℕ)). IsCalled (call_kept m at) (open_count judge.opens.entries at.file) false) (sym called) refl;
}
