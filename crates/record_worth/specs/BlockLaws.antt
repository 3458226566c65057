-- What kernels hold is told record by record.
use Rattle.std.proofs.Common.{◌≡◌, ℕ, not, List, refl, sym, ap}
use Rattle.unix_calls.specs.declared.description.Description.{Description}
use Rattle.unix_calls.specs.declared.event.Event.{Event}
use Rattle.unix_calls.specs.declared.event.Event.TheVariants as event
use Rattle.unix_calls.specs.declared.event.Rec.{Rec}
use Rattle.call_journal.specs.Past.{Past, past_with}
use Rattle.trace_rules.specs.declared.place.BlockAt.{BlockAt}
use Rattle.trace_rules.specs.Places.{HoldsOn, TellsHeld}
use Rattle.trace_rules.specs.PlaceLaws.{holds_more}
use Rattle.record_worth.specs.declared.blocks.Blocks.{Blocks}
use Rattle.record_worth.specs.Parts.{comes_and_goes}
use Rattle.record_worth.specs.Blocks.{may_come_or_go}

event_told : (held : List BlockAt) (past : Past) (kernel : ℕ) (e : Event) → TellsHeld held past.records → comes_and_goes past kernel e ≡ may_come_or_go held kernel e
event_told held past kernel (event.Filled file block) told = ap not (sym (told (record { kernel = kernel; file = file; block = block })))
event_told held past kernel (event.Dropped file block cause) told = sym (told (record { kernel = kernel; file = file; block = block }))
event_told held past kernel _ told = refl

-- a block is judged by what is held
pub held_told : (c : Description) (judge : Blocks) (past : Past) (rec : Rec) → TellsHeld judge.held.keys past.records → comes_and_goes past rec.kernel rec.event ≡ may_come_or_go judge.held.keys rec.kernel rec.event
held_told c judge past rec told = event_told judge.held.keys past rec.kernel rec.event told

-- one record more
pub held_told_on : (c : Description) (old new : Blocks) (past : Past) (rec : Rec) → TellsHeld old.held.keys past.records → HoldsOn rec old.held.keys new.held.keys → TellsHeld new.held.keys (past_with c rec past).records
held_told_on c old new past rec told more = holds_more rec old.held.keys new.held.keys past.records told more
