-- The calls on descriptors of files.
use Rattle.std.specs.Prelude.{ℕ, ◌+◌, ◌-◌, if◌then◌else◌, List, [], ◌∷◌, ◌++◌, length, take, drop, replicate, nat_lt, slice_set, Option, Some, None}
use Rattle.sprite_ids.specs.declared.errno.Errno.TheVariants as errno
use Rattle.process_machine.specs.declared.call.Reply.TheVariants.{Value}
use Rattle.unix_calls.specs.declared.description.Description.{Description}
use Rattle.unix_calls.specs.Tree.{FileName}
use Rattle.unix_calls.specs.State.{Object, OfFile, OfDevice, OfMaster, Stream, Process, Unix, bytes_of, with_bytes, with_stream, stream_of, free_descriptor}
use Rattle.unix_calls.specs.Answers.{Outcome, GoesTo, replies, is_done, gives, refuses}
use Rattle.unix_calls.specs.Opening.{reads, writes}

-- the call goes on with the stream of its descriptor. BadFd: the descriptor is not in use
abbrev pub with_found : Description → Unix → Process → Option Stream → (Stream → Outcome) → Outcome
with_found c u p None rest = refuses c u p errno.BadFd
with_found c u p (Some stream) rest = rest stream

abbrev pub at_stream : Description → Unix → Process → ℕ → (Stream → Outcome) → Outcome
at_stream c u p fd rest = with_found c u p (stream_of u p fd) rest

-- the call goes on with the file of the stream. Invalid: it leads to none
abbrev pub with_file : Description → Unix → Process → Object → (FileName → Outcome) → Outcome
with_file c u p (OfFile name) rest = rest name
with_file c u p (OfDevice place) rest = refuses c u p errno.Invalid
with_file c u p (OfMaster place) rest = refuses c u p errno.Invalid

-- close fd: the descriptor is free. BadFd
abbrev pub close : Description → Unix → Process → ℕ → Outcome
close c u p fd = at_stream c u p fd (λ stream. is_done c u (record p { descriptors = slice_set p.descriptors fd None }))

-- dup fd: the lowest free descriptor, which leads to the same stream. BadFd; TooMany: none is free
abbrev pub dup_at : Description → Unix → Process → Stream → Option ℕ → Outcome
dup_at c u p stream None = refuses c u p errno.TooMany
dup_at c u p stream (Some fd) = gives c u (record p { descriptors = slice_set p.descriptors fd (Some stream.place) }) fd

abbrev pub dup : Description → Unix → Process → ℕ → Outcome
dup c u p fd = at_stream c u p fd (λ stream. dup_at c u p stream (free_descriptor p))

-- the state in which a stream has that offset
abbrev pub at_offset : ℕ → Stream → Unix → Unix
at_offset offset stream u = record u { streams = with_stream (record stream { offset = offset }) u.streams }

-- bytes were read: the offset is behind them
abbrev pub read_bytes : Description → Unix → Process → Stream → List ℕ → Outcome
read_bytes c u p stream bytes =
    replies c (at_offset (stream.offset + length bytes) stream u) p (Value (length bytes) 0 bytes)

-- a file is read from the stream's offset, to the length or the file's end
abbrev pub read_file : Description → Unix → Process → Stream → ℕ → FileName → Outcome
read_file c u p stream many name = read_bytes c u p stream (take many (drop stream.offset (bytes_of u.files name)))

-- a stream is read, which is open for that; a device's master answers. BadMode: a master's stream
abbrev pub read_object : Description → Unix → Process → Stream → ℕ → Object → Outcome
read_object c u p stream many (OfFile name) = read_file c u p stream many name
read_object c u p stream many (OfDevice place) = GoesTo place
read_object c u p stream many (OfMaster place) = refuses c u p errno.BadMode

-- read fd addr len: the bytes and how many they are. BadFd; BadMode: not open for that
abbrev pub read_stream : Description → Unix → Process → ℕ → Stream → Outcome
read_stream c u p many stream =
    if reads stream.mode then read_object c u p stream many stream.object else refuses c u p errno.BadMode

abbrev pub read : Description → Unix → Process → ℕ → ℕ → Outcome
read c u p fd many = at_stream c u p fd (read_stream c u p many)

-- bytes over those of a file, from a place on; a hole before them is zeros, and a write of no bytes changes nothing
abbrev pub written : List ℕ → ℕ → List ℕ → List ℕ
written bytes from [] = bytes
written bytes from (b ∷ bs) =
    take from bytes ++ replicate (from - length bytes) 0 ++ (b ∷ bs) ++ drop (from + length (b ∷ bs)) bytes

-- where a write begins: at the stream's offset, or the file's end where it appends
abbrev pub begins_at : Stream → List ℕ → ℕ
begins_at stream old = if stream.appends then length old else stream.offset

-- the file is written from there on, and the offset is behind the bytes. TooBig: it would pass the limit
abbrev pub write_from : Description → Unix → Process → Stream → List ℕ → FileName → ℕ → Outcome
write_from c u p stream bytes name from =
    if nat_lt u.limit (from + length bytes)
    then refuses c u p errno.TooBig
    else gives c (at_offset (from + length bytes) stream (record u { files = with_bytes name (written (bytes_of u.files name) from bytes) u.files }))
    p (length bytes)

abbrev pub write_file : Description → Unix → Process → Stream → List ℕ → FileName → Outcome
write_file c u p stream bytes name = write_from c u p stream bytes name (begins_at stream (bytes_of u.files name))

-- a stream is written, which is open for that; a device's master answers. BadMode: a master's stream
abbrev pub write_object : Description → Unix → Process → Stream → List ℕ → Object → Outcome
write_object c u p stream bytes (OfFile name) = write_file c u p stream bytes name
write_object c u p stream bytes (OfDevice place) = GoesTo place
write_object c u p stream bytes (OfMaster place) = refuses c u p errno.BadMode

-- write fd addr len: how many bytes they are. BadFd; BadMode: not open for that
abbrev pub write_stream : Description → Unix → Process → List ℕ → Stream → Outcome
write_stream c u p bytes stream =
    if writes stream.mode then write_object c u p stream bytes stream.object else refuses c u p errno.BadMode

abbrev pub write : Description → Unix → Process → ℕ → List ℕ → Outcome
write c u p fd bytes = at_stream c u p fd (write_stream c u p bytes)

-- seek fd offset: the offset. BadFd; Invalid: no file, or over the limit
abbrev pub seek_to : Description → Unix → Process → ℕ → Stream → Outcome
seek_to c u p offset stream =
    if nat_lt u.limit offset then refuses c u p errno.Invalid else gives c (at_offset offset stream u) p offset

abbrev pub seek : Description → Unix → Process → ℕ → ℕ → Outcome
seek c u p fd offset = at_stream c u p fd (λ stream. with_file c u p stream.object (λ name. seek_to c u p offset stream))

-- size fd: how many bytes the file has. BadFd; Invalid: no file
abbrev pub size : Description → Unix → Process → ℕ → Outcome
size c u p fd = at_stream c u p fd (λ stream. with_file c u p stream.object (λ name. gives c u p (length (bytes_of u.files name))))

-- sync fd: nothing. BadFd; Invalid: no file
abbrev pub sync : Description → Unix → Process → ℕ → Outcome
sync c u p fd = at_stream c u p fd (λ stream. with_file c u p stream.object (λ name. is_done c u p))
