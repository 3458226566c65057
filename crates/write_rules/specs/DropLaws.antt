-- The causes of blocks that are dropped are told record by record.
use Rattle.std.proofs.Common.{◌≡◌, ◌∙◌, ℕ, ◌==◌, ◌||◌, List, Option, Some, None, refl, sym, ap, ap₂}
use Rattle.sprite_ids.specs.declared.caching.CacheMode.{CacheMode}
use Rattle.sprite_ids.specs.declared.caching.CacheMode.TheVariants as cache
use Rattle.unix_calls.specs.declared.description.Description.{Description}
use Rattle.unix_calls.specs.declared.event.DropCause.{DropCause}
use Rattle.unix_calls.specs.declared.event.DropCause.TheVariants as cause
use Rattle.unix_calls.specs.declared.event.Event.{Event}
use Rattle.unix_calls.specs.declared.event.Event.TheVariants as event
use Rattle.unix_calls.specs.declared.event.Rec.{Rec}
use Rattle.call_journal.specs.Past.{Past, past_with}
use Rattle.call_journal.specs.Matching.{is_off}
use Rattle.call_journal.specs.Drops.{drops_well, has_missed, is_cause}
use Rattle.write_rules.specs.declared.drops.Drops.{Drops}
use Rattle.trace_rules.specs.declared.place.BlockAt.{BlockAt}
use Rattle.write_rules.specs.declared.versions.Taken.{Taken}
use Rattle.write_rules.specs.declared.versions.Versions.{Versions}
use Rattle.trace_rules.specs.Places.{file_of}
use Rattle.write_rules.specs.Drops.{DropsOn, TellsDrops, has_drop_cause, is_drop_cause}
use Rattle.write_rules.specs.HeldLaws.{count_told, held_told_on}
use Rattle.write_rules.specs.Marks.{mark_of}
use Rattle.write_rules.specs.VersionLaws.{versions_told_on}
use Rattle.write_rules.specs.Versions.{TellsVersions, filled_at, filling_stamp, has_missed_since, is_off_or, is_off_taken, mode_or, taken_at}

off_mode : (mode : CacheMode) → is_off_or mode ≡ is_off mode
off_mode cache.On = refl
off_mode cache.Off = refl
off_mode cache.None = refl

off_taken : (o : Option Taken) → is_off_taken o ≡ is_off (mode_or o)
off_taken None = refl
off_taken (Some taken) = off_mode taken.mode

-- a grant was missed since the stamp before a block came in
missed_since : (trace : List Rec) (versions : Versions) (past : Past) (at : BlockAt) (o : Option ℕ) → TellsVersions trace versions past → has_missed_since versions.given.entries versions.missed.entries (file_of at) o ≡ has_missed at.kernel at.file o past.records trace
missed_since trace versions past at None told = refl
missed_since trace versions past at (Some stamp) told = told.missed (file_of at) stamp

cause_told : (c : Description) (trace : List Rec) (judge : Drops) (past : Past) (at : BlockAt) (is : DropCause) → TellsDrops trace judge past → is_cause c past at.kernel at.file at.block trace is ≡ is_drop_cause c judge at is
cause_told c trace judge past at cause.Full told = ap (λ n. n == c.cache) (sym (count_told judge.held past.records at.kernel told.held))
cause_told c trace judge past at cause.Stop told =
    ap is_off (sym (told.versions.modes (file_of at))) ∙ sym (off_taken (taken_at judge.versions.modes.entries (file_of at)))
cause_told c trace judge past at cause.Version told =
    sym (ap₂ (λ a b. a || b) (told.versions.outdated at) (missed_since trace judge.versions past at (filling_stamp (filled_at judge.versions.filled.entries at)) told.versions ∙ ap (λ o. has_missed at.kernel at.file o past.records trace) (told.versions.fillings at)))

told_of : (c : Description) (trace : List Rec) (judge : Drops) (past : Past) (kernel : ℕ) (e : Event) → TellsDrops trace judge past → drops_well c past kernel e trace ≡ has_drop_cause c judge kernel e
told_of c trace judge past kernel (event.Dropped file block is) told = cause_told c trace judge past (record { kernel = kernel; file = file; block = block }) is told
told_of c trace judge past kernel (event.Filled file block) told = refl
told_of c trace judge past kernel e told = refl

-- a block that is dropped is judged by what is kept
pub drops_told : (c : Description) (trace : List Rec) (judge : Drops) (past : Past) (rec : Rec) → TellsDrops trace judge past → drops_well c past rec.kernel rec.event trace ≡ has_drop_cause c judge rec.kernel rec.event
drops_told c trace judge past rec told = told_of c trace judge past rec.kernel rec.event told

-- one record more
pub drops_told_on : (c : Description) (trace : List Rec) (old new : Drops) (past : Past) (rec : Rec) → TellsDrops trace old past → DropsOn rec (mark_of c past rec) old new → TellsDrops trace new (past_with c rec past)
drops_told_on c trace old new past rec told more = record {
  held = held_told_on rec old.held new.held past.records told.held more.held;
  versions = versions_told_on c trace old.versions new.versions past rec told.versions more.versions;
}
