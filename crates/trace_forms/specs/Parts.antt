-- How records are written, in three parts: the packets, the records of files' servers, and the entries that open files.
use Rattle.std.specs.Prelude.{ℕ, ◌==◌, Bool, true, ◌&&◌, not, List}
use Rattle.std.specs.List.{list_any}
use Rattle.unix_calls.specs.declared.description.Description.{Description}
use Rattle.unix_calls.specs.declared.event.Event.{Event}
use Rattle.unix_calls.specs.declared.event.Event.TheVariants as event
use Rattle.unix_calls.specs.declared.event.Rec.{Rec}
use Rattle.call_journal.specs.Past.{Past, holds, each_record, state_by, last_event, stream_made, entry_count, opening_behind}
use Rattle.call_journal.specs.Matching.{is_once, is_send, is_at}
use Rattle.call_journal.specs.Formed.{is_for_a_call, is_first_sending, is_delivered_well, next_is, is_opened_for, is_grant_of, is_grant_to, is_opened_well, opens_well}

-- a packet's record is
abbrev pub is_packet_well : Past → ℕ → Event → Bool
is_packet_well past kernel (event.Send tx to about kind) = is_for_a_call kind about && is_first_sending past kernel tx.0 to about kind
is_packet_well past kernel (event.Deliver tx from reply about) = is_delivered_well past kernel tx.0 from reply about
is_packet_well past kernel (event.Expire tx last) = list_any (is_at kernel (is_send tx.0)) past.records
is_packet_well past kernel (event.Fault a b met) = not (is_once met)
is_packet_well past kernel _ = true

abbrev pub packets_are_formed : Description → List Rec → Bool
packets_are_formed c trace = each_record c (λ past rec rest. is_packet_well past rec.kernel rec.event) trace

-- a record of a file's server is, with the one behind it
abbrev pub is_use_well : Description → Past → ℕ → Event → List Rec → Bool
is_use_well c past kernel (event.Grant file to stamp mode) rest =
    kernel == file.server && next_is (is_at kernel (is_opened_for file to)) rest
is_use_well c past kernel (event.Opened file stream to mode) rest =
    kernel == file.server && holds (is_grant_to file to) (last_event past.records)
    && is_opened_well past file stream to mode (opening_behind c past.unix rest) rest
is_use_well c past kernel (event.Closed file stream to mode) rest = kernel == file.server
is_use_well c past kernel (event.Callback file to stamp kind) rest = kernel == file.server
is_use_well c past kernel (event.Shared file stream) rest =
    kernel == file.server && next_is (is_at kernel (is_grant_of file)) rest
is_use_well c past kernel _ rest = true

abbrev pub uses_are_formed : Description → List Rec → Bool
uses_are_formed c trace = each_record c (λ past rec rest. is_use_well c past rec.kernel rec.event rest) trace

-- an entry's record is
abbrev pub is_entry_well : Description → Past → ℕ → Event → Bool
is_entry_well c past kernel (event.Enter entry) =
    opens_well c past kernel entry (stream_made (entry_count past.unix) (state_by c (event.Enter entry) past.unix))
is_entry_well c past kernel _ = true

abbrev pub entries_are_formed : Description → List Rec → Bool
entries_are_formed c trace = each_record c (λ past rec rest. is_entry_well c past rec.kernel rec.event) trace
