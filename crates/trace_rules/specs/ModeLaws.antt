-- The modes that kernels took, and the shared streams, are told record by record.
use Rattle.std.proofs.Common.{◌≡◌, ◌∙◌, ℕ, ◌==◌, Bool, true, cond, ◌||◌, List, Option, Some, None, refl, sym, ap, ap₂}
use Rattle.std.specs.Option.{option_map}
use Rattle.sprite_ids.specs.declared.caching.CacheMode.{CacheMode}
use Rattle.sprite_ids.specs.declared.caching.CacheMode.TheVariants as cache
use Rattle.sprite_ids.specs.declared.names.StreamNo.{StreamNo}
use Rattle.unix_calls.specs.declared.description.Description.{Description}
use Rattle.unix_calls.specs.declared.event.SendKind.TheVariants as send
use Rattle.unix_calls.specs.declared.event.Event.{Event}
use Rattle.unix_calls.specs.declared.event.Event.TheVariants as event
use Rattle.unix_calls.specs.declared.event.Rec.{Rec}
use Rattle.call_journal.specs.Past.{Past, Tie, holds, past_with}
use Rattle.call_journal.specs.Matching.{same_file, is_off, has_event}
use Rattle.call_journal.specs.Files.{mode_by}
use Rattle.call_journal.specs.EntryPlaces.{is_shared_record, is_shared}
use Rattle.call_journal.specs.Operations.{stream_of_call, goes_out_well}
use Rattle.call_journal.proofs.GrowthLaws.{look_backs_grow}
use Rattle.trace_tables.specs.Ties.{tied_by, tied_at}
use Rattle.trace_rules.specs.declared.operations.Operations.{Operations}
use Rattle.trace_rules.specs.declared.place.FileAt.{FileAt}
use Rattle.trace_rules.specs.Lists.{any_more, same_both, taken}
use Rattle.trace_rules.specs.Modes.{mode_at, mode_or, is_off_or, has_stream, is_shared_tied, may_go_out, mode_behind, shared_behind, GoesOut, TellsUses}

off_or : (o : Option CacheMode) → is_off (mode_or o) ≡ is_off_or o
off_or None = refl
off_or (Some cache.On) = refl
off_or (Some cache.Off) = refl
off_or (Some cache.None) = refl

shared_by : (shared : List StreamNo) (past : Past) (o : Option Tie) → ((tie : Tie) → has_stream shared tie.stream ≡ is_shared past tie) → holds (is_shared past) o ≡ is_shared_tied shared (option_map tied_by o)
shared_by shared past None told = refl
shared_by shared past (Some tie) told = sym (told tie)

told_of : (judge : Operations) (past : Past) (kernel : ℕ) (e : Event) → TellsUses judge.modes.entries judge.shared.keys past → goes_out_well past kernel e ≡ may_go_out judge.modes.entries judge.shared.keys kernel e (tied_at past e)
told_of judge past kernel (event.Send tx to about (send.Op file)) told =
    ap₂ (λ a b. a || b) (sym (ap is_off (told.modes_told (record { kernel = kernel; file = file }))) ∙ off_or (mode_at judge.modes.entries (record { kernel = kernel; file = file }))) (shared_by judge.shared.keys past (stream_of_call past about) told.shared_told)
told_of judge past kernel (event.Send tx to about send.Other) told = refl
told_of judge past kernel _ told = refl

-- an operation is judged by what is kept
pub operations_told : (c : Description) (judge : Operations) (past : Past) (rec : Rec) → TellsUses judge.modes.entries judge.shared.keys past → goes_out_well past rec.kernel rec.event ≡ may_go_out judge.modes.entries judge.shared.keys rec.kernel rec.event (tied_at past rec.event)
operations_told c judge past rec told = told_of judge past rec.kernel rec.event told

-- ---- one record more

pub mode_more : (kernel : ℕ) (e : Event) (at : FileAt) (o : Option CacheMode) → mode_or (mode_behind kernel e at o) ≡ cond (kernel == at.kernel) (mode_by at.file e (mode_or o)) (mode_or o)
mode_more kernel (event.Mode f stamp mode) at o = taken mode_or (kernel == at.kernel) (same_file f at.file) mode o
mode_more kernel _ at o = same_both (kernel == at.kernel) (mode_or o)

shared_more : (e : Event) (tie : Tie) (before : Bool) → shared_behind e tie.stream before ≡ cond (is_shared_record tie e) true before
shared_more (event.Shared file s) tie before = refl
shared_more _ tie before = refl

pub uses_told_on : (c : Description) (old new : Operations) (past : Past) (rec : Rec) → TellsUses old.modes.entries old.shared.keys past → GoesOut rec old.modes.entries old.shared.keys new.modes.entries new.shared.keys → TellsUses new.modes.entries new.shared.keys (past_with c rec past)
uses_told_on c old new past rec told more = record {
  modes_told = λ at.
      ap mode_or (more.0 at)
      ∙ mode_more rec.kernel rec.event at (mode_at old.modes.entries at)
      ∙ ap (λ m. cond (rec.kernel == at.kernel) (mode_by at.file rec.event m) m) (told.modes_told at)
      ∙ sym (look_backs_grow.modes at.kernel at.file past.records rec);
  shared_told = λ tie.
      more.1 tie.stream
      ∙ shared_more rec.event tie (has_stream old.shared.keys tie.stream)
      ∙ ap (λ b. cond (is_shared_record tie rec.event) true b) (told.shared_told tie)
      ∙ sym (any_more (has_event (is_shared_record tie)) past.records rec);
}
