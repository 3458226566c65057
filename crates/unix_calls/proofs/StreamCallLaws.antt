-- What the calls on descriptors may change.
use Rattle.std.proofs.Common.{◌≡◌, ◌≤◌, ℕ, ◌+◌, Bool, true, false, cond, List, [], ◌∷◌, length, take, drop, Option, Some, None, refl, subst, arith, nat_lt, length-append, length-take, length-drop}
use Rattle.std.proofs.lemmas.List.{length-replicate}
use Rattle.std.specs.Prelude.{◌==◌, slice_get, slice_set}
use Rattle.std.specs.List.{AllByRecursion}
use Rattle.std.specs.Option.{option_and_then, is_some}
use Rattle.std.proofs.lemmas.Bool.{ltb-false}
use Rattle.sprite_ids.specs.declared.errno.Errno.TheVariants as errno
use Rattle.sprite_ids.proofs.ListLaws.{some_is}
use Rattle.process_machine.specs.declared.call.Reply.{Reply}
use Rattle.process_machine.specs.declared.call.Reply.TheVariants.{Value}
use Rattle.unix_calls.specs.declared.description.Description.{Description}
use Rattle.unix_calls.specs.Tree.{FileName}
use Rattle.unix_calls.specs.State.{Object, OfFile, OfDevice, OfMaster, File, Stream, Ask, Device, Process, Unix, same_file, bytes_of, with_bytes, stream_at, with_stream, with_device, joined_option, stream_of, free_descriptor}
use Rattle.unix_calls.specs.Answers.{Outcome, replies, gives, is_done}
use Rattle.unix_calls.specs.Opening.{reads, writes}
use Rattle.unix_calls.specs.StreamCalls.{with_found, at_stream, with_file, close, dup, dup_at, at_offset, read_file, read_object, read_stream, read, written, begins_at, write_from, write_object, write_stream, write, seek_to, seek, size, sync}
use Rattle.unix_calls.specs.DeviceCalls.{ioctl, ioctl_object, with_device_of, device_of, at_master, takes_first, taken, asked_bytes, get_from, pd_get, answer_of, left, puts, put_to, pd_put}
use Rattle.unix_calls.specs.Laws.{IsWithin}
use Rattle.unix_calls.proofs.OutcomeLaws.{Nobody, Fine, fine_refuses, fine_replies, fine_own, fine_waits, fine_goes, fine_if}

-- ---- streams and files within the limit

abbrev Small : ℕ → Stream → Type 0
Small limit s = s.offset ≤ limit

abbrev Short : ℕ → File → Type 0
Short limit f = length f.bytes ≤ limit

small_by : (limit : ℕ) (s found : Stream) (ss : List Stream) (place : ℕ) (b : Bool) → Small limit s → cond b (Some s) (stream_at ss place) ≡ Some found → (stream_at ss place ≡ Some found → Small limit found) → Small limit found
small_by limit s found ss place true h e later = subst (Small limit) (some_is s found e) h
small_by limit s found ss place false h e later = later e

small_at : (limit : ℕ) (streams : List Stream) (place : ℕ) (found : Stream) → AllByRecursion (Small limit) streams → stream_at streams place ≡ Some found → Small limit found
small_at limit [] place found h e = absurd (cc)
small_at limit (s ∷ ss) place found h e = small_by limit s found ss place (s.place == place) h.0 e (small_at limit ss place found h.1)

small_then : (limit : ℕ) (streams : List Stream) (place : Option ℕ) (found : Stream) → AllByRecursion (Small limit) streams → option_and_then (stream_at streams) place ≡ Some found → Small limit found
small_then limit streams None found h e = absurd (cc)
small_then limit streams (Some place) found h e = small_at limit streams place found h e

small_of : (u : Unix) (p : Process) (fd : ℕ) (found : Stream) → IsWithin u → stream_of u p fd ≡ Some found → found.offset ≤ u.limit
small_of u p fd found h e = small_then u.limit u.streams (joined_option (slice_get p.descriptors fd)) found h.streams e

small_set_by : (limit : ℕ) (s new : Stream) (rest rest_set : List Stream) (b : Bool) → Small limit s → AllByRecursion (Small limit) rest → Small limit new → AllByRecursion (Small limit) rest_set → AllByRecursion (Small limit) (cond b (new ∷ rest) (s ∷ rest_set))
small_set_by limit s new rest rest_set true h hs n later = (n, hs)
small_set_by limit s new rest rest_set false h hs n later = (h, later)

small_set : (limit : ℕ) (new : Stream) (streams : List Stream) → Small limit new → AllByRecursion (Small limit) streams → AllByRecursion (Small limit) (with_stream new streams)
small_set limit new [] n h = tt
small_set limit new (s ∷ ss) n h = small_set_by limit s new ss (with_stream new ss) (s.place == new.place) h.0 h.1 n (small_set limit new ss n h.1)

short_set_by : (limit : ℕ) (f new : File) (rest rest_set : List File) (b : Bool) → Short limit f → AllByRecursion (Short limit) rest → Short limit new → AllByRecursion (Short limit) rest_set → AllByRecursion (Short limit) (cond b (new ∷ rest) (f ∷ rest_set))
short_set_by limit f new rest rest_set true h hs n later = (n, hs)
short_set_by limit f new rest rest_set false h hs n later = (h, later)

-- bytes of at most the limit in the place of a file's
pub short_set : (limit : ℕ) (name : FileName) (bytes : List ℕ) (files : List File) → length bytes ≤ limit → AllByRecursion (Short limit) files → AllByRecursion (Short limit) (with_bytes name bytes files)
short_set limit name bytes [] n h = tt
short_set limit name bytes (f ∷ fs) n h =
    short_set_by limit f (record f { bytes = bytes }) fs (with_bytes name bytes fs) (same_file f.name name) h.0 h.1 n (short_set limit name bytes fs n h.1)

short_by : (limit : ℕ) (f : File) (rest : List ℕ) (b : Bool) → Short limit f → length rest ≤ limit → length (cond b f.bytes rest) ≤ limit
short_by limit f rest true h n = h
short_by limit f rest false h n = n

short_of : (limit : ℕ) (files : List File) (name : FileName) → AllByRecursion (Short limit) files → length (bytes_of files name) ≤ limit
short_of limit [] name h = omega arith
short_of limit (f ∷ fs) name h = short_by limit f (bytes_of fs name) (same_file f.name name) h.0 (short_of limit fs name h.1)

-- bytes over others are as long as the longer of the two
short_written : (limit : ℕ) (bytes : List ℕ) (from : ℕ) (new : List ℕ) → length bytes ≤ limit → from + length new ≤ limit → length (written bytes from new) ≤ limit
short_written limit bytes from [] h n = h
short_written limit bytes from (b ∷ bs) h n =
    rw (length-append, length-append, length-append, length-take, length-replicate, length-drop) (omega (arith, h, n))

within_offset : (u : Unix) (stream : Stream) (offset : ℕ) → offset ≤ u.limit → IsWithin u → IsWithin (at_offset offset stream u)
within_offset u stream offset small h =
    record {
      files = h.files;
      streams = small_set u.limit (record stream { offset = offset }) u.streams small h.streams;
    }

within_written : (u : Unix) (name : FileName) (from : ℕ) (bytes : List ℕ) → from + length bytes ≤ u.limit → IsWithin u → IsWithin (record u { files = with_bytes name (written (bytes_of u.files name) from bytes) u.files })
within_written u name from bytes small h =
    record {
      files = short_set u.limit name (written (bytes_of u.files name) from bytes) u.files (short_written u.limit (bytes_of u.files name) from bytes (short_of u.limit u.files name h.files) small) h.files;
      streams = h.streams;
    }

-- ---- the calls

fine_with_found : (c : Description) (u : Unix) (p : Process) (found : Option Stream) (rest : Stream → Outcome) → ((s : Stream) → found ≡ Some s → Fine c u p (rest s)) → Fine c u p (with_found c u p found rest)
fine_with_found c u p None rest h = fine_refuses c u p errno.BadFd
fine_with_found c u p (Some s) rest h = h s refl

pub fine_at_stream : (c : Description) (u : Unix) (p : Process) (fd : ℕ) (rest : Stream → Outcome) → ((s : Stream) → stream_of u p fd ≡ Some s → Fine c u p (rest s)) → Fine c u p (at_stream c u p fd rest)
fine_at_stream c u p fd rest h = fine_with_found c u p (stream_of u p fd) rest h

fine_with_file : (c : Description) (u : Unix) (p : Process) (object : Object) (rest : FileName → Outcome) → ((name : FileName) → Fine c u p (rest name)) → Fine c u p (with_file c u p object rest)
fine_with_file c u p (OfFile name) rest h = h name
fine_with_file c u p (OfDevice place) rest h = fine_refuses c u p errno.Invalid
fine_with_file c u p (OfMaster place) rest h = fine_refuses c u p errno.Invalid

pub fine_close : (c : Description) (u : Unix) (p : Process) (fd : ℕ) → Fine c u p (close c u p fd)
fine_close c u p fd =
    fine_at_stream c u p fd (λ stream. is_done c u (record p { descriptors = slice_set p.descriptors fd None })) (λ s e. fine_own c u p (record p { descriptors = slice_set p.descriptors fd None }) 0 0 [] refl)

fine_dup_at : (c : Description) (u : Unix) (p : Process) (stream : Stream) (free : Option ℕ) → Fine c u p (dup_at c u p stream free)
fine_dup_at c u p stream None = fine_refuses c u p errno.TooMany
fine_dup_at c u p stream (Some fd) = fine_own c u p (record p { descriptors = slice_set p.descriptors fd (Some stream.place) }) fd 0 [] refl

pub fine_dup : (c : Description) (u : Unix) (p : Process) (fd : ℕ) → Fine c u p (dup c u p fd)
fine_dup c u p fd = fine_at_stream c u p fd (λ stream. dup_at c u p stream (free_descriptor p)) (λ s e. fine_dup_at c u p s (free_descriptor p))

-- a read ends at the end of the file, or where it began
read_end : (limit many offset : ℕ) (bytes : List ℕ) → length bytes ≤ limit → offset ≤ limit → offset + length (take many (drop offset bytes)) ≤ limit
read_end limit many offset bytes h small = rw (length-take, length-drop) (omega (arith, h, small))

fine_read_file : (c : Description) (u : Unix) (p : Process) (fd : ℕ) (stream : Stream) (many : ℕ) (name : FileName) → stream_of u p fd ≡ Some stream → Fine c u p (read_file c u p stream many name)
fine_read_file c u p fd stream many name found =
    fine_replies c u (at_offset (stream.offset + length (take many (drop stream.offset (bytes_of u.files name)))) stream u) p p _ 0 _ (Nobody refl) refl
    (λ h. within_offset u stream (stream.offset + length (take many (drop stream.offset (bytes_of u.files name)))) (read_end u.limit many stream.offset (bytes_of u.files name) (short_of u.limit u.files name h.files) (small_of u p fd stream h found)) h) refl

fine_read_object : (c : Description) (u : Unix) (p : Process) (fd : ℕ) (stream : Stream) (many : ℕ) (object : Object) → stream_of u p fd ≡ Some stream → Fine c u p (read_object c u p stream many object)
fine_read_object c u p fd stream many (OfFile name) found = fine_read_file c u p fd stream many name found
fine_read_object c u p fd stream many (OfDevice place) found = fine_goes c u p place
fine_read_object c u p fd stream many (OfMaster place) found = fine_refuses c u p errno.BadMode

pub fine_read : (c : Description) (u : Unix) (p : Process) (fd many : ℕ) → Fine c u p (read c u p fd many)
fine_read c u p fd many =
    fine_at_stream c u p fd (read_stream c u p many) (λ s e. fine_if c u p (reads s.mode) _ _ (λ on. fine_read_object c u p fd s many s.object e) (λ off. fine_refuses c u p errno.BadMode))

fine_write_from : (c : Description) (u : Unix) (p : Process) (stream : Stream) (bytes : List ℕ) (name : FileName) (from : ℕ) → Fine c u p (write_from c u p stream bytes name from)
fine_write_from c u p stream bytes name from =
    fine_if c u p (nat_lt u.limit (from + length bytes)) _ _ (λ e. fine_refuses c u p errno.TooBig)
    (λ e. fine_replies c u (at_offset (from + length bytes) stream (record u { files = with_bytes name (written (bytes_of u.files name) from bytes) u.files })) p p (length bytes) 0 [] (Nobody refl) refl
    (λ h. within_offset (record u { files = with_bytes name (written (bytes_of u.files name) from bytes) u.files }) stream (from + length bytes) (ltb-false u.limit (from + length bytes) e) (within_written u name from bytes (ltb-false u.limit (from + length bytes) e) h)) refl)

fine_write_object : (c : Description) (u : Unix) (p : Process) (stream : Stream) (bytes : List ℕ) (object : Object) → Fine c u p (write_object c u p stream bytes object)
fine_write_object c u p stream bytes (OfFile name) = fine_write_from c u p stream bytes name (begins_at stream (bytes_of u.files name))
fine_write_object c u p stream bytes (OfDevice place) = fine_goes c u p place
fine_write_object c u p stream bytes (OfMaster place) = fine_refuses c u p errno.BadMode

pub fine_write : (c : Description) (u : Unix) (p : Process) (fd : ℕ) (bytes : List ℕ) → Fine c u p (write c u p fd bytes)
fine_write c u p fd bytes =
    fine_at_stream c u p fd (write_stream c u p bytes) (λ s e. fine_if c u p (writes s.mode) _ _ (λ on. fine_write_object c u p s bytes s.object) (λ off. fine_refuses c u p errno.BadMode))

fine_seek_to : (c : Description) (u : Unix) (p : Process) (offset : ℕ) (stream : Stream) → Fine c u p (seek_to c u p offset stream)
fine_seek_to c u p offset stream =
    fine_if c u p (nat_lt u.limit offset) _ _ (λ e. fine_refuses c u p errno.Invalid)
    (λ e. fine_replies c u (at_offset offset stream u) p p offset 0 [] (Nobody refl) refl (within_offset u stream offset (ltb-false u.limit offset e)) refl)

pub fine_seek : (c : Description) (u : Unix) (p : Process) (fd offset : ℕ) → Fine c u p (seek c u p fd offset)
fine_seek c u p fd offset =
    fine_at_stream c u p fd (λ stream. with_file c u p stream.object (λ name. seek_to c u p offset stream)) (λ s e. fine_with_file c u p s.object (λ name. seek_to c u p offset s) (λ name. fine_seek_to c u p offset s))

pub fine_size : (c : Description) (u : Unix) (p : Process) (fd : ℕ) → Fine c u p (size c u p fd)
fine_size c u p fd =
    fine_at_stream c u p fd (λ stream. with_file c u p stream.object (λ name. gives c u p (length (bytes_of u.files name)))) (λ s e. fine_with_file c u p s.object (λ name. gives c u p (length (bytes_of u.files name))) (λ name. fine_own c u p p _ 0 [] refl))

pub fine_sync : (c : Description) (u : Unix) (p : Process) (fd : ℕ) → Fine c u p (sync c u p fd)
fine_sync c u p fd =
    fine_at_stream c u p fd (λ stream. with_file c u p stream.object (λ name. is_done c u p)) (λ s e. fine_with_file c u p s.object (λ name. is_done c u p) (λ name. fine_own c u p p 0 0 [] refl))

-- ---- devices

fine_ioctl_object : (c : Description) (u : Unix) (p : Process) (object : Object) → Fine c u p (ioctl_object c u p object)
fine_ioctl_object c u p (OfFile name) = fine_refuses c u p errno.Invalid
fine_ioctl_object c u p (OfDevice place) = fine_goes c u p place
fine_ioctl_object c u p (OfMaster place) = fine_refuses c u p errno.BadMode

pub fine_ioctl : (c : Description) (u : Unix) (p : Process) (fd : ℕ) → Fine c u p (ioctl c u p fd)
fine_ioctl c u p fd = fine_at_stream c u p fd (λ stream. ioctl_object c u p stream.object) (λ s e. fine_ioctl_object c u p s.object)

fine_with_device : (c : Description) (u : Unix) (p : Process) (found : Option Device) (rest : Device → Outcome) → ((device : Device) → Fine c u p (rest device)) → Fine c u p (with_device_of c u p found rest)
fine_with_device c u p None rest h = fine_refuses c u p errno.BadMode
fine_with_device c u p (Some device) rest h = h device

fine_at_master : (c : Description) (u : Unix) (p : Process) (fd : ℕ) (rest : Device → Outcome) → ((device : Device) → Fine c u p (rest device)) → Fine c u p (at_master c u p fd rest)
fine_at_master c u p fd rest h =
    fine_at_stream c u p fd (λ stream. with_device_of c u p (device_of u stream.object) rest) (λ s e. fine_with_device c u p (device_of u s.object) rest h)

-- a call that changes a device alone
fine_device : (c : Description) (u : Unix) (p : Process) (device : Device) (first second : ℕ) (bytes : List ℕ) → Fine c u p (replies c (record u { devices = with_device device u.devices }) p (Value first second bytes))
fine_device c u p device first second bytes =
    fine_replies c u (record u { devices = with_device device u.devices }) p p first second bytes (Nobody refl) refl (λ h. record { files = h.files; streams = h.streams }) refl

fine_takes_first : (c : Description) (u : Unix) (p : Process) (max : ℕ) (device : Device) (asks : List Ask) → Fine c u p (takes_first c u p max device asks)
fine_takes_first c u p max device [] = fine_waits c u p
fine_takes_first c u p max device (ask ∷ asks) =
    fine_if c u p (nat_lt max (length (asked_bytes ask.call))) _ _ (λ e. fine_refuses c u p errno.Invalid) (λ e. fine_device c u p (taken device ask asks) _ _ _)

pub fine_pd_get : (c : Description) (u : Unix) (p : Process) (fd max : ℕ) → Fine c u p (pd_get c u p fd max)
fine_pd_get c u p fd max =
    fine_at_master c u p fd (get_from c u p max) (λ device. fine_if c u p (is_some device.in_hand) _ _ (λ e. fine_refuses c u p errno.Busy) (λ e. fine_takes_first c u p max device device.asks))

fine_puts : (c : Description) (u : Unix) (p : Process) (device : Device) (ask : Ask) (answer : Option Reply) → Fine c u p (puts c u p device ask answer)
fine_puts c u p device ask None = fine_refuses c u p errno.Invalid
fine_puts c u p device ask (Some reply) = fine_device c u p (left device ask reply) 0 0 []

fine_put_to : (c : Description) (u : Unix) (p : Process) (bytes : List ℕ) (number : ℕ) (device : Device) (ask : Option Ask) → Fine c u p (put_to c u p bytes number device ask)
fine_put_to c u p bytes number device None = fine_refuses c u p errno.Invalid
fine_put_to c u p bytes number device (Some ask) = fine_puts c u p device ask (answer_of ask.call bytes number)

pub fine_pd_put : (c : Description) (u : Unix) (p : Process) (fd : ℕ) (bytes : List ℕ) (number : ℕ) → Fine c u p (pd_put c u p fd bytes number)
fine_pd_put c u p fd bytes number =
    fine_at_master c u p fd (λ device. put_to c u p bytes number device device.in_hand) (λ device. fine_put_to c u p bytes number device device.in_hand)
