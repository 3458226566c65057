-- Records are made of what is there: blocks, opens, stamps that rise, domains, moves.
use Rattle.std.specs.Prelude.{ℕ, ◌+◌, ◌*◌, ◌==◌, Bool, true, false, ◌&&◌, not, if◌then◌else◌, List, [], ◌∷◌, nat_le, nat_lt, count_by}
use Rattle.std.specs.List.{list_any, list_all}
use Rattle.std.specs.Option.{is_some}
use Rattle.sprite_ids.specs.declared.names.FileId.{FileId}
use Rattle.sprite_ids.specs.declared.names.StreamNo.{StreamNo}
use Rattle.unix_calls.specs.declared.description.Description.{Description}
use Rattle.unix_calls.specs.declared.event.SendKind.TheVariants as send
use Rattle.unix_calls.specs.declared.event.Event.{Event}
use Rattle.unix_calls.specs.declared.event.Event.TheVariants as event
use Rattle.unix_calls.specs.declared.event.Rec.{Rec}
use Rattle.call_journal.specs.Past.{Past, Seen, is_moving, each_record, since_last, opening_of, seen_of}
use Rattle.call_journal.specs.Matching.{same_file, same_stream, has_event}
use Rattle.call_journal.specs.Files.{is_opened_at, opens_of, holds_block}
use Rattle.call_journal.specs.Calls.{is_domain, server_of}
use Rattle.call_journal.specs.Formed.{is_shared_stream}
use Rattle.call_journal.specs.Drops.{is_opened_of}
use Rattle.call_journal.specs.PrefixBroadcasts.{has_learned}

-- an earlier grant or callback of the file has a lesser stamp
abbrev pub has_lesser_stamp : FileId → ℕ → Event → Bool
has_lesser_stamp file stamp (event.Grant f to s mode) = if same_file f file then nat_lt s stamp else true
has_lesser_stamp file stamp (event.Callback f to s kind) = if same_file f file then nat_lt s stamp else true
has_lesser_stamp file stamp _ = true

abbrev pub is_stamp_new : FileId → ℕ → List Rec → Bool
is_stamp_new file stamp records = list_all (has_event (has_lesser_stamp file stamp)) records

-- a callback of the file to that kernel
abbrev pub is_callback_to : FileId → ℕ → Event → Bool
is_callback_to file kernel (event.Callback f to stamp kind) = same_file f file && to == kernel
is_callback_to file kernel _ = false

-- since the file's last Opened none went to it
abbrev pub is_first_callback : FileId → ℕ → List Rec → Bool
is_first_callback file kernel records =
    not (list_any (has_event (is_callback_to file kernel)) (since_last (has_event (is_opened_of file)) records))

-- the file, or its stream, was opened
abbrev pub was_opened : FileId → List Rec → Bool
was_opened file records = list_any (has_event (is_opened_of file)) records

abbrev pub is_opened_stream : FileId → StreamNo → Event → Bool
is_opened_stream file stream (event.Opened f s kernel mode) = same_file f file && same_stream s stream
is_opened_stream file stream _ = false

abbrev pub is_made_of : Description → Past → ℕ → Event → Bool
is_made_of c past kernel (event.Filled file block) = not (holds_block kernel file block past.records)
is_made_of c past kernel (event.Dropped file block cause) = holds_block kernel file block past.records
is_made_of c past kernel (event.Grant file to stamp mode) = is_stamp_new file stamp past.records
is_made_of c past kernel (event.Callback file to stamp kind) =
    is_stamp_new file stamp past.records && is_first_callback file to past.records && was_opened file past.records
is_made_of c past kernel (event.Shared file stream) =
    list_any (has_event (is_opened_stream file stream)) past.records
    && not (list_any (has_event (is_shared_stream stream)) past.records)
is_made_of c past kernel (event.Send tx to about (send.Fetch file block)) = was_opened file past.records
is_made_of c past kernel (event.Learned prefix server) =
    is_domain c prefix && server_of c prefix == server && not (has_learned kernel prefix past.records)
is_made_of c past kernel (event.Freeze pid) = not (is_moving past pid)
is_made_of c past kernel (event.Thaw pid) = is_moving past pid
is_made_of c past kernel (event.Closed file stream at mode) = list_any (is_opened_at stream at mode) (opens_of file past.records)
is_made_of c past kernel _ = true

-- any Opened, any freeze
abbrev pub is_any_opened : Event → Bool
is_any_opened (event.Opened file stream kernel mode) = true
is_any_opened _ = false

abbrev pub is_any_freeze : Event → Bool
is_any_freeze (event.Freeze pid) = true
is_any_freeze _ = false

-- how many Openeds no entry that makes a stream of a file follows directly: those of moves
abbrev pub is_opening_next : List Seen → Bool
is_opening_next [] = false
is_opening_next (seen ∷ rest) = is_some (opening_of seen)

abbrev pub moved_opens : List Seen → ℕ
moved_opens [] = 0
moved_opens (seen ∷ rest) =
    (if is_any_opened seen.rec.event && not (is_opening_next rest) then 1 else 0) + moved_opens rest

-- in the whole trace at most sixteen for each freeze
abbrev pub are_moved_opens_few : Description → List Rec → Bool
are_moved_opens_few c trace = nat_le (moved_opens (seen_of c trace)) (16 * count_by (has_event is_any_freeze) trace)

abbrev pub records_are_worth : Description → List Rec → Bool
records_are_worth c trace = each_record c (λ past rec rest. is_made_of c past rec.kernel rec.event) trace && are_moved_opens_few c trace
