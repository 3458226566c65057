-- Blocks that are written back, by what is kept of the records.
use Rattle.std.specs.Prelude.{ℕ, Bool, true, ◌||◌, List}
use Rattle.unix_calls.specs.declared.description.Description.{Description}
use Rattle.unix_calls.specs.declared.event.SendKind.TheVariants as send
use Rattle.unix_calls.specs.declared.event.Event.{Event}
use Rattle.unix_calls.specs.declared.event.Event.TheVariants as event
use Rattle.unix_calls.specs.declared.event.Rec.{Rec}
use Rattle.write_rules.specs.declared.write_backs.WriteBacks.{WriteBacks}
use Rattle.write_rules.specs.Ages.{AgesOn, TellsAges, is_old_in}
use Rattle.write_rules.specs.Held.{HeldOn, TellsHeld, counts_at, is_pressed_in}

-- a block is written back for a cause
abbrev pub has_cause : Description → WriteBacks → ℕ → Event → Bool → Bool
has_cause c judge kernel (event.Send tx to about (send.WriteBack file block)) mark =
    is_pressed_in c (counts_at judge.held.kernels.entries kernel)
    || mark
    || is_old_in judge.ages.steps.entries judge.ages.dirtied.entries (record { kernel = kernel; file = file; block = block })
has_cause c judge kernel _ mark = true

-- what is kept behind a record
pub record WritesOn (rec : Rec) (old new : WriteBacks) : Type 0 where
  pub held : HeldOn rec old.held new.held
  pub ages : AgesOn rec old.ages.steps.entries old.ages.dirtied.entries new.ages.steps.entries new.ages.dirtied.entries

-- what is kept is what the records tell
pub record TellsWrites (judge : WriteBacks) (records : List Rec) : Type 0 where
  pub held : TellsHeld judge.held records
  pub ages : TellsAges judge.ages.steps.entries judge.ages.dirtied.entries records
