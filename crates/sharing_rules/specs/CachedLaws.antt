-- What is kept of caches and calls tells whether a record keeps the rule, from one record to the next.
use Rattle.std.proofs.Common.{◌≡◌, ◌∙◌, ℕ, zero, suc, ◌+◌, ◌-◌, ◌/◌, ◌==◌, Bool, true, false, cond, not, ◌&&◌, List, Option, Some, None, refl, sym, ap, ap₂}
use Rattle.sprite_ids.specs.declared.names.FileId.{FileId}
use Rattle.sprite_ids.specs.declared.caching.CacheMode.{CacheMode}
use Rattle.sprite_ids.specs.declared.caching.CacheMode.TheVariants as cache
use Rattle.unix_calls.specs.declared.description.Description.{Description}
use Rattle.unix_calls.specs.declared.event.About.{About}
use Rattle.unix_calls.specs.declared.event.Event.{Event}
use Rattle.unix_calls.specs.declared.event.Event.TheVariants as event
use Rattle.unix_calls.specs.declared.event.Rec.{Rec}
use Rattle.unix_calls.specs.declared.state.Stream.{Stream}
use Rattle.call_journal.specs.Past.{Past, Tie, stream_in, tied, no_past, past_with}
use Rattle.call_journal.specs.Matching.{is_on}
use Rattle.call_journal.specs.Files.{mode_by}
use Rattle.call_journal.specs.CachedCalls.{Range, FileUse, use_of, are_held_from, is_range_held, is_cached_well, uses_held, use_is_held, is_local, is_quiet, is_cached_call_well}
use Rattle.call_journal.proofs.GrowthLaws.{look_backs_grow}
use Rattle.trace_rules.specs.Modes.{mode_at, mode_or}
use Rattle.trace_rules.specs.ModeLaws.{mode_more}
use Rattle.sharing_rules.specs.declared.cached_calls.CachedCalls.{CachedCalls}
use Rattle.sharing_rules.specs.Facts.{span, span_on, use_at, local_at, facts_at}
use Rattle.sharing_rules.specs.Judging.{Pays}
use Rattle.trace_tables.specs.Calls.{has_call}
use Rattle.sharing_rules.specs.Cached.{is_on_or, are_held_in, is_range_held_in, is_within_cache, is_quiet_in, is_well_cached, held_behind, CachesOn, TellsCached}
use Rattle.sharing_rules.specs.HeldLaws.{held_more}
use Rattle.sharing_rules.specs.QuietLaws.{past_more, quiet_more}

-- ---- a record is judged by what is kept

on_or : (o : Option CacheMode) → is_on (mode_or o) ≡ is_on_or o
on_or None = refl
on_or (Some cache.On) = refl
on_or (Some cache.Off) = refl
on_or (Some cache.None) = refl

blocks_told : (c : Description) (judge : CachedCalls) (past : Past) (kernel : ℕ) (file : FileId) (count block : ℕ) → TellsCached c judge.modes.entries judge.held.keys judge.quiet.keys past → are_held_from kernel file past.records count block ≡ are_held_in judge.held.keys kernel file count block
blocks_told c judge past kernel file zero block told = refl
blocks_told c judge past kernel file (suc count) block told =
    ap₂ (λ a b. a && b) (sym (told.held_told (record { kernel = kernel; file = file; block = block }))) (blocks_told c judge past kernel file count (block + 1) told)

range_told : (c : Description) (judge : CachedCalls) (past : Past) (kernel : ℕ) (file : FileId) (range : Range) → TellsCached c judge.modes.entries judge.held.keys judge.quiet.keys past → is_range_held kernel file past.records range ≡ is_range_held_in judge.held.keys kernel (span file range)
range_told c judge past kernel file range told =
    ap (λ b. cond (range.length == 0) true b) (blocks_told c judge past kernel file ((range.from + range.length - 1) / 4096 + 1 - range.from / 4096) (range.from / 4096) told)

well_told : (c : Description) (judge : CachedCalls) (past : Past) (kernel : ℕ) (file : FileId) (range : Range) → TellsCached c judge.modes.entries judge.held.keys judge.quiet.keys past → is_cached_well past kernel file range ≡ is_within_cache judge.modes.entries judge.held.keys kernel (Some (span file range))
well_told c judge past kernel file range told =
    ap₂ (λ a b. a && b) (sym (ap is_on (told.modes_told (record { kernel = kernel; file = file }))) ∙ on_or (mode_at judge.modes.entries (record { kernel = kernel; file = file }))) (range_told c judge past kernel file range told)

span_told : (c : Description) (judge : CachedCalls) (past : Past) (kernel : ℕ) (used : FileUse) (o : Option Stream) (t : Option Tie) → TellsCached c judge.modes.entries judge.held.keys judge.quiet.keys past → uses_held past kernel used o t ≡ is_within_cache judge.modes.entries judge.held.keys kernel (span_on used o t)
span_told c judge past kernel used None t told = refl
span_told c judge past kernel used (Some s) None told = refl
span_told c judge past kernel used (Some s) (Some tie) told = well_told c judge past kernel tie.file (used.range s) told

use_told : (c : Description) (judge : CachedCalls) (past : Past) (kernel pid : ℕ) (o : Option FileUse) → TellsCached c judge.modes.entries judge.held.keys judge.quiet.keys past → use_is_held past kernel pid o ≡ is_within_cache judge.modes.entries judge.held.keys kernel (use_at past pid o)
use_told c judge past kernel pid None told = refl
use_told c judge past kernel pid (Some used) told = span_told c judge past kernel used (stream_in past pid used.fd) (tied past pid used.fd) told

entry_told : (c : Description) (judge : CachedCalls) (past : Past) (kernel pid : ℕ) (o : Option FileUse) (local : Bool) → TellsCached c judge.modes.entries judge.held.keys judge.quiet.keys past → cond local (use_is_held past kernel pid o) true ≡ is_within_cache judge.modes.entries judge.held.keys kernel (cond local (use_at past pid o) None)
entry_told c judge past kernel pid o true told = use_told c judge past kernel pid o told
entry_told c judge past kernel pid o false told = refl

quiet_told : (c : Description) (judge : CachedCalls) (past : Past) (o : Option About) → TellsCached c judge.modes.entries judge.held.keys judge.quiet.keys past → is_quiet c past o ≡ is_quiet_in judge.quiet.keys o
quiet_told c judge past None told = refl
quiet_told c judge past (Some about) told = sym (ap not (told.quiet_told (record { pid = about.pid; number = about.number })))

told_by : (c : Description) (judge : CachedCalls) (past : Past) (kernel : ℕ) (e : Event) → TellsCached c judge.modes.entries judge.held.keys judge.quiet.keys past → is_cached_call_well c past kernel e ≡ is_well_cached judge.modes.entries judge.held.keys judge.quiet.keys kernel e (local_at past kernel e)
told_by c judge past kernel (event.Enter entry) told = entry_told c judge past kernel entry.pid (use_of past.unix entry.call entry.reply) (is_local past kernel entry) told
told_by c judge past kernel (event.Send tx to about kind) told = quiet_told c judge past about told
told_by c judge past kernel _ told = refl

pub cached_breaks : (c : Description) (judge : CachedCalls) (past : Past) (rec : Rec) (rest : List Rec) → TellsCached c judge.modes.entries judge.held.keys judge.quiet.keys past → is_well_cached judge.modes.entries judge.held.keys judge.quiet.keys rec.kernel rec.event (facts_at c past rec).local ≡ false → is_cached_call_well c past rec.kernel rec.event ≡ true → Unit {0} → ⊥
cached_breaks c judge past rec rest told no_fit well due =
    let is = sym well ∙ told_by c judge past rec.kernel rec.event told ∙ no_fit in
    cc (is)

pub cached_keeps : (c : Description) (old new : CachedCalls) (past : Past) (rec : Rec) (rest : List Rec) → TellsCached c old.modes.entries old.held.keys old.quiet.keys past → is_well_cached old.modes.entries old.held.keys old.quiet.keys rec.kernel rec.event (facts_at c past rec).local ≡ true → CachesOn rec (facts_at c past rec).local old.modes.entries old.held.keys old.quiet.keys new.modes.entries new.held.keys new.quiet.keys → Pays (is_cached_call_well c past rec.kernel rec.event) (Unit {0}) (Unit {0})
cached_keeps c old new past rec rest told fits more = record {
  on = λ well due. tt;
  back = λ left. (told_by c old past rec.kernel rec.event told ∙ fits, tt);
}

pub cached_ends : (c : Description) (judge : CachedCalls) (past : Past) → TellsCached c judge.modes.entries judge.held.keys judge.quiet.keys past → (Unit {0} → true ≡ true) × (true ≡ true → Unit {0})
cached_ends c judge past told = (λ due. refl, λ paid. tt)

-- ---- one record more

pub cached_goes_on : (c : Description) (old new : CachedCalls) (past : Past) (rec : Rec) → TellsCached c old.modes.entries old.held.keys old.quiet.keys past → CachesOn rec (facts_at c past rec).local old.modes.entries old.held.keys old.quiet.keys new.modes.entries new.held.keys new.quiet.keys → TellsCached c new.modes.entries new.held.keys new.quiet.keys (past_with c rec past)
cached_goes_on c old new past rec told more = record {
  all = ap (past_with c rec) told.all ∙ sym (past_more c (no_past c) past.records rec);
  modes_told = λ at.
      ap mode_or (more.modes_on at)
      ∙ mode_more rec.kernel rec.event at (mode_at old.modes.entries at)
      ∙ ap (λ m. cond (rec.kernel == at.kernel) (mode_by at.file rec.event m) m) (told.modes_told at)
      ∙ sym (look_backs_grow.modes at.kernel at.file past.records rec);
  held_told = λ at.
      more.held_on at
      ∙ ap (λ b. held_behind rec.kernel rec.event at b) (told.held_told at)
      ∙ sym (held_more at past.records rec);
  quiet_told = λ at. more.quiet_on at ∙ quiet_more c at past rec (has_call old.quiet.keys at) told.all (told.quiet_told at);
}
