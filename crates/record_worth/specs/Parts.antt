-- What records are made of, one part after the other.
use Rattle.std.specs.Prelude.{ℕ, ◌==◌, Bool, true, ◌&&◌, not, List}
use Rattle.std.specs.List.{list_any, list_all}
use Rattle.unix_calls.specs.declared.description.Description.{Description}
use Rattle.unix_calls.specs.declared.event.SendKind.TheVariants as send
use Rattle.unix_calls.specs.declared.event.Event.{Event}
use Rattle.unix_calls.specs.declared.event.Event.TheVariants as event
use Rattle.unix_calls.specs.declared.event.Rec.{Rec}
use Rattle.call_journal.specs.Past.{Past, is_moving, each_record}
use Rattle.call_journal.specs.Matching.{has_event}
use Rattle.call_journal.specs.Files.{is_opened_at, opens_of, holds_block}
use Rattle.call_journal.specs.Calls.{is_domain, server_of}
use Rattle.call_journal.specs.Formed.{is_shared_stream}
use Rattle.call_journal.specs.PrefixBroadcasts.{has_learned}
use Rattle.call_journal.specs.WorthRecords.{is_stamp_new, is_first_callback, was_opened, is_opened_stream}

-- a block comes in where it isn't held, and leaves where it is
abbrev pub comes_and_goes : Past → ℕ → Event → Bool
comes_and_goes past kernel (event.Filled file block) = not (holds_block kernel file block past.records)
comes_and_goes past kernel (event.Dropped file block cause) = holds_block kernel file block past.records
comes_and_goes past kernel _ = true

abbrev pub blocks_come_and_go : Description → List Rec → Bool
blocks_come_and_go c trace = each_record c (λ past rec rest. comes_and_goes past rec.kernel rec.event) trace

-- the stamps of a file's grants and callbacks rise
abbrev pub stamps_well : Past → Event → Bool
stamps_well past (event.Grant file to stamp mode) = is_stamp_new file stamp past.records
stamps_well past (event.Callback file to stamp kind) = is_stamp_new file stamp past.records
stamps_well past _ = true

abbrev pub stamps_rise : Description → List Rec → Bool
stamps_rise c trace = each_record c (λ past rec rest. stamps_well past rec.event) trace

-- a file is called back, or a block of it fetched, where it was opened; called back to a kernel once since it last was
abbrev pub calls_well : Past → Event → Bool
calls_well past (event.Callback file to stamp kind) = is_first_callback file to past.records && was_opened file past.records
calls_well past (event.Send tx to about (send.Fetch file block)) = was_opened file past.records
calls_well past _ = true

abbrev pub callbacks_are_first : Description → List Rec → Bool
callbacks_are_first c trace = each_record c (λ past rec rest. calls_well past rec.event) trace

-- a stream becomes shared once, after it was opened, and closes where it is open
abbrev pub streams_well : Past → Event → Bool
streams_well past (event.Shared file stream) =
    list_any (has_event (is_opened_stream file stream)) past.records
    && not (list_any (has_event (is_shared_stream stream)) past.records)
streams_well past (event.Closed file stream at mode) = list_any (is_opened_at stream at mode) (opens_of file past.records)
streams_well past _ = true

abbrev pub streams_are_opened : Description → List Rec → Bool
streams_are_opened c trace = each_record c (λ past rec rest. streams_well past rec.event) trace

-- a prefix that is learned begins a domain of that server
abbrev pub is_served_at : Description → Event → Bool
is_served_at c (event.Learned prefix server) = is_domain c prefix && server_of c prefix == server
is_served_at c _ = true

abbrev pub prefixes_are_served : Description → List Rec → Bool
prefixes_are_served c trace = list_all (λ (rec : Rec). is_served_at c rec.event) trace

-- a kernel learns a prefix once
abbrev pub learns_once : Past → ℕ → Event → Bool
learns_once past kernel (event.Learned prefix server) = not (has_learned kernel prefix past.records)
learns_once past kernel _ = true

abbrev pub prefixes_are_learned_once : Description → List Rec → Bool
prefixes_are_learned_once c trace = each_record c (λ past rec rest. learns_once past rec.kernel rec.event) trace

-- a process is frozen where it isn't on its way, and thawed where it is
abbrev pub moves_well : Past → Event → Bool
moves_well past (event.Freeze pid) = not (is_moving past pid)
moves_well past (event.Thaw pid) = is_moving past pid
moves_well past _ = true

abbrev pub moves_begin_and_end : Description → List Rec → Bool
moves_begin_and_end c trace = each_record c (λ past rec rest. moves_well past rec.event) trace
