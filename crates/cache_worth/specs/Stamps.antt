-- The stamps of files that kernels were given and took.
use Rattle.std.specs.Prelude.{◌≡◌, ℕ, Bool, true, ◌&&◌, if◌then◌else◌, List, Option, Some}
use Rattle.std.specs.List.{list_any, list_all}
use Rattle.std.specs.Map.{lookup}
use Rattle.unix_calls.specs.declared.event.Event.{Event}
use Rattle.unix_calls.specs.declared.event.Event.TheVariants as event
use Rattle.unix_calls.specs.declared.event.Rec.{Rec}
use Rattle.call_journal.specs.Matching.{has_event}
use Rattle.call_journal.specs.Drops.{is_given}
use Rattle.call_journal.specs.WorthCaches.{took_less}
use Rattle.trace_rules.specs.declared.place.FileAt.{FileAt}
use Rattle.trace_rules.specs.declared.place.StampAt.{StampAt}
use Rattle.trace_rules.specs.Greatest.{is_less, later}
use Rattle.trace_rules.specs.Places.{same_use, same_stamp, has_stamp}

-- the greatest stamp of a file that a kernel took
abbrev pub greatest : List (FileAt × ℕ) → FileAt → Option ℕ
greatest taken at = lookup (same_use at) taken

-- a kernel may take a stamp of a file
abbrev pub may_take : List (FileAt × ℕ) → List StampAt → ℕ → Event → Bool
may_take taken given kernel (event.Mode file stamp mode) =
    is_less (greatest taken (record { kernel = kernel; file = file })) stamp
    && has_stamp given (record { kernel = kernel; file = file; stamp = stamp })
may_take taken given kernel _ = true

-- what is kept behind an event of a kernel
abbrev pub greatest_behind : ℕ → Event → List (FileAt × ℕ) → FileAt → Option ℕ
greatest_behind kernel (event.Mode file stamp mode) taken at =
    if same_use (record { kernel = kernel; file = file }) at
    then Some (later stamp (greatest taken (record { kernel = kernel; file = file })))
    else greatest taken at
greatest_behind kernel _ taken at = greatest taken at

abbrev pub given_behind : Event → StampAt → Bool → Bool
given_behind (event.Grant file to stamp mode) at before =
    if same_stamp (record { kernel = to; file = file; stamp = stamp }) at then true else before
given_behind (event.Callback file to stamp kind) at before =
    if same_stamp (record { kernel = to; file = file; stamp = stamp }) at then true else before
given_behind _ at before = before

pub record TakesOn (rec : Rec) (taken taken_after : List (FileAt × ℕ)) (given given_after : List StampAt) : Type 0 where
  pub takes : (at : FileAt) → greatest taken_after at ≡ greatest_behind rec.kernel rec.event taken at
  pub gives : (at : StampAt) → has_stamp given_after at ≡ given_behind rec.event at (has_stamp given at)

-- what is kept is what the records tell
abbrev pub takes_less : FileAt → ℕ → Rec → Bool
takes_less at stamp rec = took_less at.kernel at.file stamp rec.kernel rec.event

pub record TellsStamps (taken : List (FileAt × ℕ)) (given : List StampAt) (records : List Rec) : Type 0 where
  pub taken_told : (at : FileAt) (stamp : ℕ) → is_less (greatest taken at) stamp ≡ list_all (takes_less at stamp) records
  pub given_told : (at : StampAt) → has_stamp given at ≡ list_any (has_event (is_given at.kernel at.file at.stamp)) records
