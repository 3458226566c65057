-- How records are written: which stand together, and where.
use Rattle.std.specs.Prelude.{ℕ, ◌+◌, ◌==◌, Bool, true, false, ◌&&◌, ◌||◌, not, if◌then◌else◌, List, [], ◌∷◌, Option, Some, None, slice_get}
use Rattle.std.specs.List.{list_any, list_all}
use Rattle.std.specs.Option.{is_some}
use Rattle.sprite_ids.specs.declared.names.FileId.{FileId}
use Rattle.sprite_ids.specs.declared.names.StreamNo.{StreamNo}
use Rattle.sprite_ids.specs.declared.names.Mode.{Mode}
use Rattle.unix_calls.specs.declared.description.Description.{Description}
use Rattle.unix_calls.specs.declared.description.FileLine.{FileLine}
use Rattle.unix_calls.specs.declared.entry.Entry.{Entry}
use Rattle.unix_calls.specs.declared.event.About.{About}
use Rattle.unix_calls.specs.declared.event.SendKind.{SendKind}
use Rattle.unix_calls.specs.declared.event.SendKind.TheVariants as send
use Rattle.unix_calls.specs.declared.event.Event.{Event}
use Rattle.unix_calls.specs.declared.event.Event.TheVariants as event
use Rattle.unix_calls.specs.declared.event.Rec.{Rec}
use Rattle.unix_calls.specs.declared.state.FileName.{FileName}
use Rattle.unix_calls.specs.declared.state.FileName.TheVariants.{Boot, Made}
use Rattle.unix_calls.specs.Tree.{same_path}
use Rattle.unix_calls.specs.declared.state.Object.{Object}
use Rattle.unix_calls.specs.declared.state.Stream.{Stream}
use Rattle.unix_calls.specs.declared.state.Object.TheVariants.{OfFile}
use Rattle.unix_calls.specs.State.{same_file as same_name}
use Rattle.call_journal.specs.Past.{Past, Tie, holds, folded, kernel_of, each_record, state_by, last_event, event_before_last, stream_made, entry_count, opening_behind}
use Rattle.call_journal.specs.Matching.{same_file, same_stream, same_mode, same_about, is_once, is_send, is_at, has_event, is_freeze_of}
use Rattle.call_journal.specs.Files.{OpenStream, is_opened_at, opens_of}
use Rattle.call_journal.specs.Calls.{server_of}

-- the same prefix is asked for
abbrev pub same_broadcast : SendKind → SendKind → Bool
same_broadcast (send.Broadcast prefix) (send.Broadcast other) = same_path prefix other
same_broadcast _ _ = false

-- an earlier send of a number is the same broadcast by the same kernel for the same call, to another receiver
abbrev pub is_other_receiver : ℕ → ℕ → ℕ → Option About → SendKind → ℕ → Event → Bool
is_other_receiver kernel tx to about kind at (event.Send t s a k) =
    if t.0 == tx then at == kernel && not (s == to) && same_broadcast kind k && same_about about a else true
is_other_receiver kernel tx to about kind at _ = true

-- a send is the first one of its number to that receiver, and only a broadcast has several
abbrev pub is_first_sending : Past → ℕ → ℕ → ℕ → Option About → SendKind → Bool
is_first_sending past kernel tx to about kind =
    list_all (λ (r : Rec). is_other_receiver kernel tx to about kind r.kernel r.event) past.records

-- an operation and a broadcast go for the sake of a call; any other request may go for that of none
abbrev pub is_for_a_call : SendKind → Option About → Bool
is_for_a_call (send.Op file) about = is_some about
is_for_a_call (send.Broadcast prefix) about = is_some about
is_for_a_call _ about = true

-- the number of a process's last issue; 0 before the first
abbrev pub issue_number : ℕ → Event → ℕ → ℕ
issue_number pid (event.Issue p n call) before = if p == pid then n else before
issue_number pid _ before = before

abbrev pub issue_step : ℕ → List Rec → Rec → ℕ → ℕ
issue_step pid before rec number = issue_number pid rec.event number

abbrev pub last_issue : ℕ → List Rec → ℕ
last_issue pid records = folded (issue_step pid) 0 records

-- what a packet that is sent about no call may say of one: it carries a process that was frozen at the sender, or tells of a death,
-- which has the number behind the process's last call
abbrev pub is_carried : Past → ℕ → About → Bool
is_carried past sender about =
    list_any (is_at sender (is_freeze_of about.pid)) past.records || about.number == last_issue about.pid past.records + 1

-- a packet of no stated kind is about the call of its sending or about none; where its sending is about none, also about one that
-- it carries
abbrev pub is_told_about : Past → ℕ → Option About → Option About → Bool
is_told_about past sender None sent = true
is_told_about past sender (Some about) (Some sent) = about.pid == sent.pid && about.number == sent.number
is_told_about past sender (Some about) None = is_carried past sender about

-- what a delivery is about, by the kind of its sending: an operation is about the call of the sending; a block that is fetched or
-- written back, and a broadcast, are about none
abbrev pub about_agrees : Past → ℕ → SendKind → Option About → Option About → Bool
about_agrees past sender (send.Op file) about sent = same_about about sent
about_agrees past sender send.Other about sent = is_told_about past sender about sent
about_agrees past sender _ about sent = not (is_some about)

-- a send of that number to that receiver, whose call is that of a delivery
abbrev pub is_sending : Past → ℕ → ℕ → ℕ → Option About → Event → Bool
is_sending past sender tx to about (event.Send t s a kind) = t.0 == tx && s == to && about_agrees past sender kind about a
is_sending past sender tx to about _ = false

abbrev pub was_sent : Past → ℕ → ℕ → ℕ → Option About → Bool
was_sent past sender tx to about =
    list_any (λ (r : Rec). r.kernel == sender && is_sending past sender tx to about r.event) past.records

-- another delivery of the same number is about the same call
abbrev pub agrees_on : ℕ → Option About → Event → Bool
agrees_on tx about (event.Deliver t from reply a) = if t.0 == tx then same_about about a else true
agrees_on tx about _ = true

-- a packet that was sent is delivered: a request from its sender to its receiver, a reply the other way
abbrev pub is_delivered_well : Past → ℕ → ℕ → ℕ → Bool → Option About → Bool
is_delivered_well past kernel tx from reply about =
    (if reply then was_sent past kernel tx from about else was_sent past from tx kernel about)
    && list_all (has_event (agrees_on tx about)) past.records

-- the record of an Opened of that file for that kernel at its server
abbrev pub is_opened_for : FileId → ℕ → Event → Bool
is_opened_for file to (event.Opened f stream kernel mode) = same_file f file && kernel == to
is_opened_for file to _ = false

-- a grant of that file, and one to that kernel
abbrev pub is_grant_of : FileId → Event → Bool
is_grant_of file (event.Grant f to stamp mode) = same_file f file
is_grant_of file _ = false

abbrev pub is_grant_to : FileId → ℕ → Event → Bool
is_grant_to file to (event.Grant f t stamp mode) = same_file f file && t == to
is_grant_to file to _ = false

-- the first record behind a place
abbrev pub next_is : (Rec → Bool) → List Rec → Bool
next_is test [] = false
next_is test (rec ∷ rest) = test rec

-- an Opened of a stream, and one of that file, with that mode
abbrev pub is_opening_of : StreamNo → Event → Bool
is_opening_of stream (event.Opened f s kernel mode) = same_stream s stream
is_opening_of stream _ = false

abbrev pub is_opening_as : FileId → StreamNo → Mode → Event → Bool
is_opening_as file stream mode (event.Opened f s kernel m) = same_file f file && same_stream s stream && same_mode m mode
is_opening_as file stream mode _ = false

-- a Closed of a file's stream, and one at that kernel
abbrev pub is_closed_of : FileId → StreamNo → Event → Bool
is_closed_of file stream (event.Closed f s kernel mode) = same_file f file && same_stream s stream
is_closed_of file stream _ = false

abbrev pub is_closed_for : FileId → StreamNo → ℕ → Event → Bool
is_closed_for file stream to (event.Closed f s kernel mode) = same_file f file && same_stream s stream && kernel == to
is_closed_for file stream to _ = false

-- the Closed of a move's source: at another kernel, which has the stream open with that mode
abbrev pub is_source : FileId → StreamNo → ℕ → Mode → List OpenStream → Event → Bool
is_source file stream to mode opens (event.Closed f s kernel m) =
    same_file f file && same_stream s stream && not (kernel == to) && same_mode m mode
    && list_any (is_opened_at stream kernel mode) opens
is_source file stream to mode opens _ = false

-- a stream became shared, and that stream did
abbrev pub is_any_shared : Event → Bool
is_any_shared (event.Shared file stream) = true
is_any_shared _ = false

abbrev pub is_shared_stream : StreamNo → Event → Bool
is_shared_stream stream (event.Shared file s) = same_stream s stream
is_shared_stream stream _ = false

-- an open's Opened has the mode of the stream that its entry makes, and a new stream number of the opening kernel; no stream
-- became shared for it
abbrev pub is_opened_new : Past → StreamNo → ℕ → Mode → Stream → Bool
is_opened_new past stream to mode made =
    same_mode mode made.mode && stream.kernel == to && not (list_any (has_event (is_opening_of stream)) past.records)
    && not (holds is_any_shared (event_before_last past.records))

-- behind the Opened of a move that made its stream shared, directly before its Grant, no Closed of the stream stands, as references
-- stay; behind that of a stream that was shared before none at the kernel itself; behind any other the Closed at its source
abbrev pub is_left_well : Past → FileId → StreamNo → ℕ → Mode → List Rec → Bool
is_left_well past file stream to mode rest =
    if holds is_any_shared (event_before_last past.records)
    then holds (is_shared_stream stream) (event_before_last past.records) && not (next_is (has_event (is_closed_of file stream)) rest)
    else if list_any (has_event (is_shared_stream stream)) past.records
    then not (next_is (has_event (is_closed_for file stream to)) rest)
    else next_is (is_at file.server (is_source file stream to mode (opens_of file past.records))) rest

-- an Opened is an open's exactly where the entry directly behind it makes a stream of a file; else it is a move's, and repeats an
-- earlier one of its stream
abbrev pub is_opened_well : Past → FileId → StreamNo → ℕ → Mode → Option Stream → List Rec → Bool
is_opened_well past file stream to mode (Some made) rest = is_opened_new past stream to mode made
is_opened_well past file stream to mode None rest =
    list_any (has_event (is_opening_as file stream mode)) past.records && is_left_well past file stream to mode rest

-- the name that a file's server has for a file of the cluster file: its server, and the place of its line, from 1
abbrev pub boot_file : Description → ℕ → FileLine → FileId → Bool
boot_file c place line file = file.server == server_of c line.path && file.number == place + 1

abbrev pub is_boot_file : Description → ℕ → Option FileLine → FileId → Bool
is_boot_file c place None file = false
is_boot_file c place (Some line) file = boot_file c place line file

-- a file has the name that is due for it: of the cluster file's files it is fixed
abbrev pub is_due_name : Description → FileName → FileId → Bool
is_due_name c (Boot place) file = is_boot_file c place (slice_get c.files place) file
is_due_name c (Made place) file = true

-- both names are the same, or neither
abbrev pub are_alike : Bool → Bool → Bool
are_alike true b = b
are_alike false b = not b

-- two ties agree: one file has one name
abbrev pub tie_agrees : FileName → FileId → Tie → Bool
tie_agrees name file tie = are_alike (same_name tie.name name) (same_file tie.file file)

-- an entry that opens a file stands directly behind an Opened for the kernel of its process, both at the file's server, and
-- files and names agree one to one
abbrev pub is_entered_well : Description → Past → ℕ → ℕ → Object → Option Event → Bool
is_entered_well c past kernel pid (OfFile name) (Some (event.Opened file stream to mode)) =
    holds (λ at. at == to) (kernel_of past pid) && kernel == file.server
    && is_due_name c name file && list_all (tie_agrees name file) past.ties
is_entered_well c past kernel pid (OfFile name) _ = false
is_entered_well c past kernel pid _ before = true

abbrev pub opens_well : Description → Past → ℕ → Entry → Option Stream → Bool
opens_well c past kernel entry None = true
opens_well c past kernel entry (Some stream) = is_entered_well c past kernel entry.pid stream.object (last_event past.records)

-- a record is written as it should be
abbrev pub is_written_well : Description → Past → ℕ → Event → List Rec → Bool
is_written_well c past kernel (event.Send tx to about kind) rest =
    is_for_a_call kind about && is_first_sending past kernel tx.0 to about kind
is_written_well c past kernel (event.Deliver tx from reply about) rest = is_delivered_well past kernel tx.0 from reply about
is_written_well c past kernel (event.Expire tx last) rest = list_any (is_at kernel (is_send tx.0)) past.records
is_written_well c past kernel (event.Fault a b met) rest = not (is_once met)
is_written_well c past kernel (event.Grant file to stamp mode) rest =
    kernel == file.server && next_is (is_at kernel (is_opened_for file to)) rest
is_written_well c past kernel (event.Opened file stream to mode) rest =
    kernel == file.server && holds (is_grant_to file to) (last_event past.records)
    && is_opened_well past file stream to mode (opening_behind c past.unix rest) rest
is_written_well c past kernel (event.Closed file stream to mode) rest = kernel == file.server
is_written_well c past kernel (event.Callback file to stamp kind) rest = kernel == file.server
is_written_well c past kernel (event.Shared file stream) rest =
    kernel == file.server && next_is (is_at kernel (is_grant_of file)) rest
is_written_well c past kernel (event.Enter entry) rest =
    opens_well c past kernel entry (stream_made (entry_count past.unix) (state_by c (event.Enter entry) past.unix))
is_written_well c past kernel _ rest = true

-- each record is
abbrev pub formed : Description → List Rec → Bool
formed c trace = each_record c (λ past rec rest. is_written_well c past rec.kernel rec.event rest) trace
