-- Short bursts have their reason directly behind them.
use Rattle.std.specs.Prelude.{ℕ, ◌+◌, ◌==◌, Bool, true, false, ◌&&◌, ◌||◌, List, [], ◌∷◌, nat_lt, Option, Some, None}
use Rattle.unix_calls.specs.declared.description.Description.{Description}
use Rattle.unix_calls.specs.declared.event.Event.{Event}
use Rattle.unix_calls.specs.declared.event.Event.TheVariants as event
use Rattle.unix_calls.specs.declared.event.Rec.{Rec}
use Rattle.call_journal.specs.Past.{Past, each_record}
use Rattle.call_journal.specs.WorthBursts.{done_since_entry, due_in, is_at_most, is_exactly, is_reason}

-- the first of the records behind a place
abbrev pub first : List Rec → Option Rec
first [] = None
first (rec ∷ rest) = Some rec

abbrev pub is_reason_if : ℕ → ℕ → Option Rec → Bool
is_reason_if kernel pid None = false
is_reason_if kernel pid (Some rec) = is_reason kernel pid rec

-- a burst is whole, or the next record is its reason
abbrev pub is_whole_at : ℕ → Event → Option Rec → Bool
is_whole_at kernel (event.Burst pid count) next = count == 10000 || (nat_lt count 10000 && is_reason_if kernel pid next)
is_whole_at kernel _ next = true

abbrev pub are_whole : List Rec → Bool
are_whole [] = true
are_whole (rec ∷ rest) = is_whole_at rec.kernel rec.event (first rest) && are_whole rest

-- a burst does no more instructions than there are before its process's call, and at the call's issue exactly these are done
abbrev pub keeps_count : Description → Past → Event → Bool
keeps_count c past (event.Burst pid count) = is_at_most (done_since_entry pid past.records + count) (due_in c past pid)
keeps_count c past (event.Issue pid number call) = is_exactly (done_since_entry pid past.records) (due_in c past pid)
keeps_count c past _ = true

abbrev pub bursts_are_counted : Description → List Rec → Bool
bursts_are_counted c trace = each_record c (λ past rec rest. keeps_count c past rec.event) trace
