-- The rule that a server is called unreachable for a cause, by the records before each place alone.
use Rattle.std.specs.Prelude.{ℕ, ◌==◌, Bool, true, ◌&&◌, if◌then◌else◌, List, [], ◌∷◌, ◌++◌, count_by}
use Rattle.unix_calls.specs.declared.description.Description.{Description}
use Rattle.unix_calls.specs.declared.event.Event.{Event}
use Rattle.unix_calls.specs.declared.event.Event.TheVariants as event
use Rattle.unix_calls.specs.declared.event.Rec.{Rec}
use Rattle.call_journal.specs.Past.{some_then}
use Rattle.call_journal.specs.Matching.{is_at, is_expire, is_last_expire}
use Rattle.call_journal.specs.Unreachable.{is_given_up, is_unreachable_entry, lost_eight}

-- a record is the eighth expiry of a send, the last one, behind these and lost packets
abbrev pub ends_tries : ℕ → ℕ → ℕ → List Rec → Rec → Bool
ends_tries kernel tx to between rec =
    is_at kernel (is_last_expire tx) rec && count_by (is_at kernel (is_expire tx)) between == 7 && lost_eight kernel tx to between

-- a record of the kernel is a send for the sake of the call that was given up in those behind it
abbrev pub is_cause : Description → ℕ → ℕ → ℕ → Rec → List Rec → Bool
is_cause c kernel pid number rec behind = rec.kernel == kernel && is_given_up c kernel pid number rec.event behind

-- an event of the kernel keeps the rule behind these records
abbrev pub keeps_behind : Description → List Rec → ℕ → Event → Bool
keeps_behind c before kernel (event.Enter entry) =
    if is_unreachable_entry entry then some_then (is_cause c kernel entry.pid entry.number) before else true
keeps_behind c before kernel _ = true

-- each of some records does, which stand behind those
abbrev pub each_keeps : Description → List Rec → List Rec → Bool
each_keeps c before [] = true
each_keeps c before (rec ∷ rest) = keeps_behind c before rec.kernel rec.event && each_keeps c (before ++ rec ∷ []) rest
