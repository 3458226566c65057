-- The causes of blocks that are written back are told record by record.
use Rattle.std.proofs.Common.{◌≡◌, ℕ, ◌||◌, List, refl, sym, ap₂}
use Rattle.unix_calls.specs.declared.description.Description.{Description}
use Rattle.unix_calls.specs.declared.event.SendKind.TheVariants as send
use Rattle.unix_calls.specs.declared.event.Event.{Event}
use Rattle.unix_calls.specs.declared.event.Event.TheVariants as event
use Rattle.unix_calls.specs.declared.event.Rec.{Rec}
use Rattle.call_journal.specs.Past.{Past, past_with}
use Rattle.call_journal.specs.WriteBacks.{is_synced, writes_back_well}
use Rattle.write_rules.specs.declared.write_backs.WriteBacks.{WriteBacks}
use Rattle.write_rules.specs.AgeLaws.{age_told, ages_told_on}
use Rattle.write_rules.specs.HeldLaws.{held_told_on, pressed_told}
use Rattle.write_rules.specs.Marks.{mark_by, mark_of}
use Rattle.write_rules.specs.WriteBacks.{TellsWrites, WritesOn, has_cause}

told_of : (c : Description) (judge : WriteBacks) (past : Past) (kernel : ℕ) (e : Event) → TellsWrites judge past.records → writes_back_well c past kernel e ≡ has_cause c judge kernel e (mark_by c past kernel e)
told_of c judge past kernel (event.Send tx to about (send.WriteBack file block)) told =
    ap₂ (λ a b. a || is_synced past kernel file || b) (sym (pressed_told c judge.held past.records kernel told.held)) (sym (age_told judge.ages.steps.entries judge.ages.dirtied.entries past.records (record { kernel = kernel; file = file; block = block }) told.ages))
told_of c judge past kernel (event.Send tx to about (send.Op file)) told = refl
told_of c judge past kernel _ told = refl

-- a block that is written back is judged by what is kept
pub write_backs_told : (c : Description) (trace : List Rec) (judge : WriteBacks) (past : Past) (rec : Rec) → TellsWrites judge past.records → writes_back_well c past rec.kernel rec.event ≡ has_cause c judge rec.kernel rec.event (mark_of c past rec)
write_backs_told c trace judge past rec told = told_of c judge past rec.kernel rec.event told

-- one record more
pub writes_told_on : (c : Description) (trace : List Rec) (old new : WriteBacks) (past : Past) (rec : Rec) → TellsWrites old past.records → WritesOn rec old new → TellsWrites new (past_with c rec past).records
writes_told_on c trace old new past rec told more = record {
  held = held_told_on rec old.held new.held past.records told.held more.held;
  ages = ages_told_on rec old.ages.steps.entries new.ages.steps.entries old.ages.dirtied.entries new.ages.dirtied.entries past.records told.ages more.ages;
}
