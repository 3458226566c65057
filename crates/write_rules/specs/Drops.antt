-- Blocks that are dropped, by what is kept of the records.
use Rattle.std.specs.Prelude.{ℕ, ◌==◌, Bool, true, List}
use Rattle.unix_calls.specs.declared.description.Description.{Description}
use Rattle.unix_calls.specs.declared.event.DropCause.{DropCause}
use Rattle.unix_calls.specs.declared.event.DropCause.TheVariants as cause
use Rattle.unix_calls.specs.declared.event.Event.{Event}
use Rattle.unix_calls.specs.declared.event.Event.TheVariants as event
use Rattle.unix_calls.specs.declared.event.Rec.{Rec}
use Rattle.call_journal.specs.Past.{Past}
use Rattle.write_rules.specs.declared.drops.Drops.{Drops}
use Rattle.trace_rules.specs.declared.place.BlockAt.{BlockAt}
use Rattle.trace_rules.specs.Places.{file_of}
use Rattle.write_rules.specs.Held.{HeldOn, TellsHeld, counts_at}
use Rattle.write_rules.specs.Versions.{TellsVersions, VersionsOn, is_off_in, is_old_version}

-- a block is dropped for that cause
abbrev pub is_drop_cause : Description → Drops → BlockAt → DropCause → Bool
is_drop_cause c judge at cause.Full = (counts_at judge.held.kernels.entries at.kernel).held == c.cache
is_drop_cause c judge at cause.Stop = is_off_in judge.versions.modes.entries (file_of at)
is_drop_cause c judge at cause.Version =
    is_old_version judge.versions.filled.entries judge.versions.changed.entries judge.versions.given.entries judge.versions.missed.entries at

abbrev pub has_drop_cause : Description → Drops → ℕ → Event → Bool
has_drop_cause c judge kernel (event.Dropped file block cause) = is_drop_cause c judge (record { kernel = kernel; file = file; block = block }) cause
has_drop_cause c judge kernel _ = true

-- what is kept behind a record
pub record DropsOn (rec : Rec) (mark : Bool) (old new : Drops) : Type 0 where
  pub held : HeldOn rec old.held new.held
  pub versions : VersionsOn rec.kernel rec.event mark old.versions new.versions

-- what is kept is what the records tell
pub record TellsDrops (trace : List Rec) (judge : Drops) (past : Past) : Type 0 where
  pub held : TellsHeld judge.held past.records
  pub versions : TellsVersions trace judge.versions past
