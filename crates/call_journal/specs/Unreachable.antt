-- A server is called unreachable only where packets to it or from it were lost in that call.
use Rattle.std.specs.Prelude.{ℕ, ◌==◌, Bool, true, false, ◌&&◌, ◌||◌, not, if◌then◌else◌, List, [], ◌∷◌, ◌++◌, nat_le, count_by}
use Rattle.std.specs.List.{list_any}
use Rattle.unix_calls.specs.declared.description.Description.{Description}
use Rattle.unix_calls.specs.declared.entry.Entry.{Entry}
use Rattle.unix_calls.specs.declared.event.SendKind.{SendKind}
use Rattle.unix_calls.specs.declared.event.SendKind.TheVariants as send
use Rattle.unix_calls.specs.declared.event.Event.{Event}
use Rattle.unix_calls.specs.declared.event.Event.TheVariants as event
use Rattle.unix_calls.specs.declared.event.Rec.{Rec}
use Rattle.call_journal.specs.Past.{Past, each_record, some_then}
use Rattle.call_journal.specs.Matching.{is_about, is_at, has_event, is_loss, is_expire, is_last_expire, is_reply_from}
use Rattle.call_journal.specs.Calls.{is_whole, error_in, is_unreachable_error, is_domain, server_of}

-- a send may end in that: an echo goes so, or the broadcast of a prefix that the receiver serves
abbrev pub may_give_up : Description → ℕ → SendKind → Bool
may_give_up c to send.Other = true
may_give_up c to (send.Broadcast prefix) = is_domain c prefix && server_of c prefix == to
may_give_up c to _ = false

-- between a send and its last try at least eight packets between the two kernels were lost, and no reply came
abbrev pub lost_eight : ℕ → ℕ → ℕ → List Rec → Bool
lost_eight kernel tx to between =
    nat_le 8 (count_by (has_event (is_loss kernel to)) between) && not (list_any (is_at kernel (is_reply_from tx to)) between)

-- the eighth try is over, the last one, behind a send, with these records between the two
abbrev pub gave_up_from : ℕ → ℕ → ℕ → List Rec → List Rec → Bool
gave_up_from kernel tx to between [] = false
gave_up_from kernel tx to between (rec ∷ rest) =
    (is_at kernel (is_last_expire tx) rec && count_by (is_at kernel (is_expire tx)) between == 7 && lost_eight kernel tx to between)
    || gave_up_from kernel tx to (between ++ rec ∷ []) rest

abbrev pub gave_up : ℕ → ℕ → ℕ → List Rec → Bool
gave_up kernel tx to rest = gave_up_from kernel tx to [] rest

-- a send at the kernel for the sake of the call was given up
abbrev pub is_given_up : Description → ℕ → ℕ → ℕ → Event → List Rec → Bool
is_given_up c kernel pid number (event.Send tx to about kind) rest =
    is_about pid number about && may_give_up c to kind && gave_up kernel tx.0 to rest
is_given_up c kernel pid number _ rest = false

-- an entry that calls a server unreachable has such a send before it
abbrev pub has_cause : Description → Past → ℕ → Entry → Bool
has_cause c past kernel entry =
    some_then (λ (r : Rec) rest. r.kernel == kernel && is_given_up c kernel entry.pid entry.number r.event rest) past.records

abbrev pub is_unreachable_entry : Entry → Bool
is_unreachable_entry entry = is_whole entry.part && is_unreachable_error (error_in entry.reply)

abbrev pub keeps_cause : Description → Past → ℕ → Event → Bool
keeps_cause c past kernel (event.Enter entry) = if is_unreachable_entry entry then has_cause c past kernel entry else true
keeps_cause c past kernel _ = true

-- each of them has
abbrev pub unreachable_for_cause : Description → List Rec → Bool
unreachable_for_cause c trace = each_record c (λ past rec rest. keeps_cause c past rec.kernel rec.event) trace
