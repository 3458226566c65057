-- open and pd_make: the calls that make a stream.
use Rattle.std.specs.Prelude.{ℕ, ◌/◌, ◌%◌, ◌==◌, Bool, true, false, ◌&&◌, ◌||◌, not, if◌then◌else◌, List, [], ◌∷◌, ◌++◌, nat_le, slice_set, Option, Some, None}
use Rattle.std.specs.Option.{option_and_then}
use Rattle.sprite_ids.specs.declared.names.Mode.{Mode}
use Rattle.sprite_ids.specs.declared.names.Mode.TheVariants as mode
use Rattle.sprite_ids.specs.declared.errno.Errno.{Errno}
use Rattle.sprite_ids.specs.declared.errno.Errno.TheVariants as errno
use Rattle.unix_calls.specs.declared.description.Description.{Description}
use Rattle.unix_calls.specs.Tree.{FileName, Made, Node, Directory, FileNode, DeviceNode, node_at, above, is_full, first_of, walk}
use Rattle.unix_calls.specs.State.{Object, OfFile, OfDevice, OfMaster, Process, Unix, with_bytes, free_descriptor}
use Rattle.unix_calls.specs.Answers.{Outcome, gives, refuses, unless_refused}
use Rattle.unix_calls.specs.NameCalls.{at_path, refusal_if, named, new_refusal}
-- what an open asks for: a plain value of `src/`
pub use Rattle.unix_calls.specs.declared.state.Flags.{Flags}

-- the mode of two bits: 1 read, 2 write, 3 both
abbrev pub mode_of : ℕ → Option Mode
mode_of n = if n == 1 then Some mode.Read else if n == 2 then Some mode.Write else if n == 3 then Some mode.Both else None

-- whether a bit of a number is set: the bit of that weight
abbrev pub has_bit : ℕ → ℕ → Bool
has_bit weight n = (n / weight) % 2 == 1

-- whether a stream of the mode may be written
abbrev pub writes : Mode → Bool
writes mode.Read = false
writes mode.Write = true
writes mode.Both = true

-- whether it may be read
abbrev pub reads : Mode → Bool
reads mode.Read = true
reads mode.Write = false
reads mode.Both = true

-- the flags of that mode; a truncation or an append without write is none
abbrev pub flags_by : ℕ → Mode → Option Flags
flags_by n m =
    if (has_bit 8 n || has_bit 16 n) && not (writes m)
    then None
    else Some (record { mode = m; creates = has_bit 4 n; truncates = has_bit 8 n; appends = has_bit 16 n })

-- 1 read, 2 write, 3 both; and 4 to create, 8 to truncate, 16 to append. No mode or another bit is none
abbrev pub flags_of : ℕ → Option Flags
flags_of n = if nat_le 32 n then None else option_and_then (flags_by n) (mode_of (n % 4))

-- the caller with the stream of this entry at a descriptor
abbrev pub at_descriptor : Unix → ℕ → Process → Process
at_descriptor u fd p = record p { descriptors = slice_set p.descriptors fd (Some u.entries) }

-- a stream that is made by this entry: its offset is 0
abbrev pub with_new_stream : Object → Mode → Bool → Unix → Unix
with_new_stream object m appends u =
    record u { streams = u.streams ++ record { place = u.entries; object = object; mode = m; appends = appends; offset = 0 } ∷ [] }

-- the call gives the descriptor of a new stream
abbrev pub opened : Description → Unix → Process → ℕ → Object → Mode → Bool → Outcome
opened c u p fd object m appends = gives c (with_new_stream object m appends u) (at_descriptor u fd p) fd

-- the files, after a truncation of one of them where that is asked for
abbrev pub cut : Bool → FileName → Unix → Unix
cut truncates name u = if truncates then record u { files = with_bytes name [] u.files } else u

-- a file that is made by this entry
abbrev pub with_new_file : List (List ℕ) → Unix → Unix
with_new_file path u =
    named path (FileNode (Made u.entries)) (record u { files = u.files ++ record { name = Made u.entries; bytes = [] } ∷ [] })

-- a file is made where nothing stands. NoEntry: that isn't asked for; TooMany: the directory is full
abbrev pub create_refusal : Unix → Flags → List (List ℕ) → Option Errno
create_refusal u flags path =
    first_of (refusal_if (not flags.creates) errno.NoEntry) (refusal_if (is_full u.nodes (above path)) errno.TooMany)

abbrev pub creates_file : Description → Unix → Process → ℕ → Flags → List (List ℕ) → Outcome
creates_file c u p fd flags path =
    unless_refused c u p (create_refusal u flags path)
    (opened c (with_new_file path u) p fd (OfFile (Made u.entries)) flags.mode flags.appends)

-- what stands at the path is opened. IsDir: a directory. On a device
-- a truncation and an append change nothing
abbrev pub open_node : Description → Unix → Process → ℕ → Flags → List (List ℕ) → Option Node → Outcome
open_node c u p fd flags path None = creates_file c u p fd flags path
open_node c u p fd flags path (Some Directory) = refuses c u p errno.IsDir
open_node c u p fd flags path (Some (FileNode name)) = opened c (cut flags.truncates name u) p fd (OfFile name) flags.mode flags.appends
open_node c u p fd flags path (Some (DeviceNode place)) = opened c u p fd (OfDevice place) flags.mode flags.appends

abbrev pub open_at : Description → Unix → Process → ℕ → Flags → List (List ℕ) → Outcome
open_at c u p fd flags path = unless_refused c u p (walk u.nodes path) (open_node c u p fd flags path (node_at u.nodes path))

-- with the lowest free descriptor. TooMany: all sixteen are in use; BadName
abbrev pub open_with : Description → Unix → Process → Option ℕ → Flags → List ℕ → Outcome
open_with c u p None flags text = refuses c u p errno.TooMany
open_with c u p (Some fd) flags text = at_path c u p text (open_at c u p fd flags)

-- open path len flags: the descriptor of a new stream. Invalid: the flags are none; then TooMany, BadName, walk and the rest
abbrev pub open_by : Description → Unix → Process → Option Flags → List ℕ → Outcome
open_by c u p None text = refuses c u p errno.Invalid
open_by c u p (Some flags) text = open_with c u p (free_descriptor p) flags text

abbrev pub open_file : Description → Unix → Process → List ℕ → ℕ → Outcome
open_file c u p text flags = open_by c u p (flags_of flags) text

-- a device that is made by this entry
abbrev pub with_new_device : List (List ℕ) → Unix → Unix
with_new_device path u =
    named path (DeviceNode u.entries)
    (record u { devices = u.devices ++ record { place = u.entries; asks = []; in_hand = None; answers = [] } ∷ [] })

-- pd_make path len: the descriptor of the master stream of a new device. TooMany: all sixteen are in use; BadName, walk,
-- Exists, TooMany: the directory is full
abbrev pub make_at : Description → Unix → Process → ℕ → List (List ℕ) → Outcome
make_at c u p fd path =
    unless_refused c u p (new_refusal u path) (opened c (with_new_device path u) p fd (OfMaster u.entries) mode.Both false)

abbrev pub make_with : Description → Unix → Process → Option ℕ → List ℕ → Outcome
make_with c u p None text = refuses c u p errno.TooMany
make_with c u p (Some fd) text = at_path c u p text (make_at c u p fd)

abbrev pub pd_make : Description → Unix → Process → List ℕ → Outcome
pd_make c u p text = make_with c u p (free_descriptor p) text
