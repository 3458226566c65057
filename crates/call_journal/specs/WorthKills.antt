-- A kill is heeded: a process for which one was entered issues no call any more where that is known.
use Rattle.std.specs.Prelude.{ℕ, ◌==◌, Bool, true, false, ◌&&◌, ◌||◌, not, if◌then◌else◌, List, [], ◌∷◌, Option, Some, None}
use Rattle.std.specs.List.{list_any}
use Rattle.sprite_ids.specs.Pid.{home_of}
use Rattle.process_machine.specs.declared.call.Call.{Call}
use Rattle.process_machine.specs.declared.call.Call.TheVariants.{Kill}
use Rattle.process_machine.specs.declared.call.Reply.{Reply}
use Rattle.process_machine.specs.declared.call.Reply.TheVariants.{Value}
use Rattle.unix_calls.specs.declared.description.Description.{Description}
use Rattle.unix_calls.specs.declared.entry.Entry.{Entry}
use Rattle.unix_calls.specs.declared.event.Event.{Event}
use Rattle.unix_calls.specs.declared.event.Event.TheVariants as event
use Rattle.unix_calls.specs.declared.event.Rec.{Rec}
use Rattle.call_journal.specs.Past.{Past, holds, place_of, each_record, some_from, some_record, past_with}
use Rattle.call_journal.specs.Matching.{is_at, has_event, is_send_about_to, is_request}
use Rattle.call_journal.specs.Calls.{is_kill_of}
use Rattle.call_journal.specs.WriteBacks.{is_counted_step}

-- the process that an entry kills
abbrev pub killed_by : Option Call → Option Reply → Option ℕ
killed_by (Some (Kill pid)) (Some (Value first second bytes)) = Some pid
killed_by _ _ = None

-- a kill of a process is the first one that was entered
abbrev pub is_first_kill : List Rec → ℕ → Bool
is_first_kill records pid = not (list_any (has_event (is_kill_of pid)) records)

-- the kernel sends a packet about a call to another one, before its next burst, delivery or try that is over
abbrev pub is_told : ℕ → ℕ → ℕ → ℕ → List Rec → Bool
is_told home to pid number [] = false
is_told home to pid number (rec ∷ rest) =
    is_at home (is_send_about_to pid number to) rec
    || (not (is_at home is_counted_step rec) && is_told home to pid number rest)

-- where a process is away from its home at the first kill, its kernel is told
abbrev pub is_told_at : Entry → ℕ → Option ℕ → List Rec → Bool
is_told_at entry pid None rest = true
is_told_at entry pid (Some at) rest = at == home_of pid || is_told (home_of pid) at entry.pid entry.number rest

abbrev pub kills_well : Past → Entry → Option ℕ → List Rec → Bool
kills_well past entry None rest = true
kills_well past entry (Some pid) rest =
    if is_first_kill past.records pid then is_told_at entry pid (place_of past pid) rest else true

-- at that kernel a request with that number is taken for the first time, where the process is
abbrev pub is_met : Past → ℕ → ℕ → ℕ → Rec → Bool
is_met past pid kernel tx rec =
    is_at kernel (is_request tx) rec && holds (λ at. at == kernel) (place_of past pid)
    && not (list_any (is_at kernel (is_request tx)) past.records)

-- a send of the home about that kill to the kernel, which was taken where the process was
abbrev pub is_met_send : Description → Past → ℕ → ℕ → Entry → Rec → Event → List Rec → Bool
is_met_send c past pid kernel entry rec (event.Send tx to about kind) rest =
    is_at (home_of pid) (is_send_about_to entry.pid entry.number kernel) rec
    && some_from c (λ later r behind. is_met later pid kernel tx.0 r) (past_with c rec past) rest
is_met_send c past pid kernel entry rec _ rest = false

-- the first kill of the process, entered where it was at that kernel, and a send about it that met it there
abbrev pub is_met_kill : Description → Past → ℕ → ℕ → Rec → Event → List Rec → Bool
is_met_kill c past pid kernel rec (event.Enter entry) rest =
    is_kill_of pid (event.Enter entry) && is_first_kill past.records pid && holds (λ at. at == kernel) (place_of past pid)
    && not (kernel == home_of pid)
    && some_from c (λ later r behind. is_met_send c later pid kernel entry r r.event behind) (past_with c rec past) rest
is_met_kill c past pid kernel rec _ rest = false

abbrev pub knows_kill : Description → List Rec → ℕ → ℕ → Bool
knows_kill c records pid kernel = some_record c (λ earlier r rest. is_met_kill c earlier pid kernel r r.event rest) records

-- a process issues a call at its home only where no kill of it was entered, and elsewhere only where none is known
abbrev pub is_alive_at : Description → Past → ℕ → ℕ → Bool
is_alive_at c past pid kernel =
    if kernel == home_of pid
    then not (list_any (has_event (is_kill_of pid)) past.records)
    else not (knows_kill c past.records pid kernel)

abbrev pub heeds_kills : Description → Past → ℕ → Event → List Rec → Bool
heeds_kills c past kernel (event.Enter entry) rest = kills_well past entry (killed_by entry.call entry.reply) rest
heeds_kills c past kernel (event.Issue pid number call) rest = is_alive_at c past pid kernel
heeds_kills c past kernel _ rest = true

abbrev pub kills_are_heeded : Description → List Rec → Bool
kills_are_heeded c trace = each_record c (λ past rec rest. heeds_kills c past rec.kernel rec.event rest) trace
