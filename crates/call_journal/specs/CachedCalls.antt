-- A call that is done in a client's cache uses blocks that the client holds.
use Rattle.std.specs.Prelude.{ℕ, zero, suc, ◌+◌, ◌-◌, ◌/◌, ◌==◌, Bool, true, false, ◌&&◌, not, if◌then◌else◌, List, [], length, Option, Some, None}
use Rattle.std.specs.List.{list_any}
use Rattle.sprite_ids.specs.declared.names.FileId.{FileId}
use Rattle.process_machine.specs.declared.call.Call.{Call}
use Rattle.process_machine.specs.declared.call.Call.TheVariants as call
use Rattle.process_machine.specs.declared.call.Reply.{Reply}
use Rattle.process_machine.specs.declared.call.Reply.TheVariants.{Value}
use Rattle.unix_calls.specs.declared.description.Description.{Description}
use Rattle.unix_calls.specs.declared.entry.Entry.{Entry}
use Rattle.unix_calls.specs.declared.event.About.{About}
use Rattle.unix_calls.specs.declared.event.Event.{Event}
use Rattle.unix_calls.specs.declared.event.Event.TheVariants as event
use Rattle.unix_calls.specs.declared.event.Rec.{Rec}
use Rattle.unix_calls.specs.declared.state.Object.{Object}
use Rattle.unix_calls.specs.declared.state.Stream.{Stream}
use Rattle.unix_calls.specs.declared.state.Object.TheVariants.{OfFile}
use Rattle.unix_calls.specs.State.{Unix, bytes_of}
use Rattle.unix_calls.specs.StreamCalls.{begins_at}
use Rattle.call_journal.specs.Past.{Past, Tie, holds, kernel_of, stream_in, tied, each_record, some_record}
use Rattle.call_journal.specs.Matching.{is_on, is_return, has_event}
use Rattle.call_journal.specs.Files.{mode_of, holds_block}
use Rattle.call_journal.specs.Calls.{is_whole}

-- a range of a file's bytes
pub record Range : Type 0 where
  pub from : ℕ
  pub length : ℕ

-- the bytes of the file behind a stream
abbrev pub bytes_in : Option Unix → Object → List ℕ
bytes_in (Some u) (OfFile name) = bytes_of u.files name
bytes_in _ _ = []

-- the range of a read that gave so many bytes: from the stream's offset on
abbrev pub read_range : Stream → ℕ → Range
read_range stream many = record { from = stream.offset; length = many }

-- the range of a write: from the stream's offset on, or from the file's end where the stream appends
abbrev pub write_range : Option Unix → Stream → List ℕ → Range
write_range u stream bytes = record { from = begins_at stream (bytes_in u stream.object); length = length bytes }

-- a reading, writing or asking for the size, with a value: its descriptor and its range
pub record FileUse : Type 0 where
  pub fd : ℕ
  pub range : Stream → Range

abbrev pub use_of : Option Unix → Option Call → Option Reply → Option FileUse
use_of u (Some (call.Read fd many)) (Some (Value first second bytes)) = Some (record { fd = fd; range = λ s. read_range s first })
use_of u (Some (call.Write fd bytes)) (Some (Value first second none)) = Some (record { fd = fd; range = λ s. write_range u s bytes })
use_of u (Some (call.Size fd)) (Some (Value first second bytes)) = Some (record { fd = fd; range = λ s. read_range s 0 })
use_of u _ _ = None

-- whether so many blocks from that one on are held
abbrev pub are_held_from : ℕ → FileId → List Rec → ℕ → ℕ → Bool
are_held_from kernel file records zero block = true
are_held_from kernel file records (suc count) block =
    holds_block kernel file (record { 0 = block }) records && are_held_from kernel file records count (block + 1)

-- whether each block of a range is held
abbrev pub is_range_held : ℕ → FileId → List Rec → Range → Bool
is_range_held kernel file records range =
    if range.length == 0
    then true
    else are_held_from kernel file records ((range.from + range.length - 1) / 4096 + 1 - range.from / 4096) (range.from / 4096)

-- a use of a file at a kernel finds the mode on, and its blocks held
abbrev pub is_cached_well : Past → ℕ → FileId → Range → Bool
is_cached_well past kernel file range = is_on (mode_of kernel file past.records) && is_range_held kernel file past.records range

abbrev pub uses_held : Past → ℕ → FileUse → Option Stream → Option Tie → Bool
uses_held past kernel used (Some stream) (Some tie) = is_cached_well past kernel tie.file (used.range stream)
uses_held past kernel used _ _ = true

abbrev pub use_is_held : Past → ℕ → ℕ → Option FileUse → Bool
use_is_held past kernel pid None = true
use_is_held past kernel pid (Some used) = uses_held past kernel used (stream_in past pid used.fd) (tied past pid used.fd)

-- an entry that is at its process's kernel
abbrev pub is_local : Past → ℕ → Entry → Bool
is_local past kernel entry = is_whole entry.part && holds (λ at. at == kernel) (kernel_of past entry.pid)

abbrev pub entry_uses_held : Past → ℕ → Entry → Bool
entry_uses_held past kernel entry =
    if is_local past kernel entry then use_is_held past kernel entry.pid (use_of past.unix entry.call entry.reply) else true

-- such an entry of that call, on a file, whose return is still due
abbrev pub is_file_use : Past → ℕ → Option FileUse → Bool
is_file_use past pid None = false
is_file_use past pid (Some used) = holds (λ (t : Tie). true) (tied past pid used.fd)

abbrev pub is_cached_use : Past → ℕ → ℕ → ℕ → Event → Bool
is_cached_use past kernel pid number (event.Enter entry) =
    entry.pid == pid && entry.number == number && is_local past kernel entry
    && is_file_use past pid (use_of past.unix entry.call entry.reply)
is_cached_use past kernel pid number _ = false

abbrev pub is_between : Past → ℕ → ℕ → ℕ → Event → List Rec → Bool
is_between past kernel pid number event rest =
    is_cached_use past kernel pid number event && not (list_any (has_event (is_return pid number)) rest)

-- no packet goes for the sake of such a call between its entry and its return
abbrev pub is_quiet : Description → Past → Option About → Bool
is_quiet c past None = true
is_quiet c past (Some about) =
    not (some_record c (λ earlier r rest. is_between earlier r.kernel about.pid about.number r.event rest) past.records)

abbrev pub is_cached_call_well : Description → Past → ℕ → Event → Bool
is_cached_call_well c past kernel (event.Enter entry) = entry_uses_held past kernel entry
is_cached_call_well c past kernel (event.Send tx to about kind) = is_quiet c past about
is_cached_call_well c past kernel _ = true

-- each is so
abbrev pub cached_calls_use_held_blocks : Description → List Rec → Bool
cached_calls_use_held_blocks c trace = each_record c (λ past rec rest. is_cached_call_well c past rec.kernel rec.event) trace
