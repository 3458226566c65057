-- The state of the one-kernel Unix.
use Rattle.std.specs.Prelude.{ℕ, ◌+◌, ◌*◌, ◌==◌, Bool, false, not, if◌then◌else◌, List, [], ◌∷◌, nat_lt, count_by, replicate, slice_get, Option, Some, None}
use Rattle.std.specs.List.{list_any}
use Rattle.std.specs.Option.{option_and_then, is_some}
use Rattle.sprite_ids.specs.Pid.{home_of}
use Rattle.sprite_ids.specs.Lists.{changed}
use Rattle.unix_calls.specs.Tree.{FileName, Boot, Made, Named}
-- the parts of the state are plain values of `src/`: a file, a stream and what it leads to, a device with its asks and answers,
-- a process
pub use Rattle.unix_calls.specs.declared.state.File.{File}
pub use Rattle.unix_calls.specs.declared.state.Object.{Object}
pub use Rattle.unix_calls.specs.declared.state.Object.TheVariants.{OfFile, OfDevice, OfMaster}
pub use Rattle.unix_calls.specs.declared.state.Stream.{Stream}
pub use Rattle.unix_calls.specs.declared.state.Ask.{Ask}
pub use Rattle.unix_calls.specs.declared.state.Answer.{Answer}
pub use Rattle.unix_calls.specs.declared.state.Device.{Device}
pub use Rattle.unix_calls.specs.declared.state.Process.{Process}

-- the state. `roots` are the domains' paths; `ticks` has a count for each kernel; `limit` is the most bytes that a file
-- may have; `entries` is how many entries led here
pub record Unix : Type 0 where
  pub nodes : List Named
  pub files : List File
  pub streams : List Stream
  pub processes : List Process
  pub devices : List Device
  pub ticks : List ℕ
  pub roots : List (List (List ℕ))
  pub limit : ℕ
  pub entries : ℕ

-- whether two files are the same
abbrev pub same_file : FileName → FileName → Bool
same_file (Boot i) (Boot j) = i == j
same_file (Made i) (Made j) = i == j
same_file _ _ = false

-- the bytes of a file
abbrev pub bytes_of : List File → FileName → List ℕ
bytes_of [] name = []
bytes_of (f ∷ fs) name = if same_file f.name name then f.bytes else bytes_of fs name

-- the files with other bytes in one
abbrev pub with_bytes : FileName → List ℕ → List File → List File
with_bytes name bytes files = changed (λ (f : File). same_file f.name name) (λ (f : File). record f { bytes = bytes }) files

-- the stream that the entry at that place made
abbrev pub stream_at : List Stream → ℕ → Option Stream
stream_at [] place = None
stream_at (s ∷ ss) place = if s.place == place then Some s else stream_at ss place

-- the streams with this one in its place
abbrev pub with_stream : Stream → List Stream → List Stream
with_stream new streams = changed (λ (s : Stream). s.place == new.place) (λ s. new) streams

-- the device that the entry at that place made
abbrev pub device_at : List Device → ℕ → Option Device
device_at [] place = None
device_at (d ∷ ds) place = if d.place == place then Some d else device_at ds place

-- the devices with this one in its place
abbrev pub with_device : Device → List Device → List Device
with_device new devices = changed (λ (d : Device). d.place == new.place) (λ d. new) devices

-- the process of that number
abbrev pub process_at : List Process → ℕ → Option Process
process_at [] pid = None
process_at (p ∷ ps) pid = if p.pid == pid then Some p else process_at ps pid

-- the processes with this one in its place, by ascending number
abbrev pub put_process : Process → List Process → List Process
put_process p [] = p ∷ []
put_process p (q ∷ qs) = if p.pid == q.pid then p ∷ qs else (if nat_lt p.pid q.pid then p ∷ q ∷ qs else q ∷ put_process p qs)

-- the state with this process in its place
abbrev pub with_process : Process → Unix → Unix
with_process p u = record u { processes = put_process p u.processes }

-- whether a process lives
abbrev pub lives : Process → Bool
lives p = not (is_some p.ending)

-- how many processes a home has made
abbrev pub births : List Process → ℕ → ℕ
births ps home = count_by (λ (p : Process). home_of p.pid == home) ps

-- the number that the next process of a home gets
abbrev pub next_pid : List Process → ℕ → ℕ
next_pid ps home = 1000 * home + (1 + births ps home)

-- sixteen free descriptors
abbrev pub no_descriptors : List (Option ℕ)
no_descriptors = replicate 16 None

-- the lowest free descriptor
abbrev pub free_from : ℕ → List (Option ℕ) → Option ℕ
free_from n [] = None
free_from n (None ∷ ds) = Some n
free_from n (Some place ∷ ds) = free_from (n + 1) ds

-- of a process
abbrev pub free_descriptor : Process → Option ℕ
free_descriptor p = free_from 0 p.descriptors

-- what a descriptor's place holds, where there is such a place
abbrev pub joined_option : {A : Type 0} → Option (Option A) → Option A
joined_option None = None
joined_option (Some held) = held

-- the stream of a descriptor
abbrev pub stream_of : Unix → Process → ℕ → Option Stream
stream_of u p fd = option_and_then (stream_at u.streams) (joined_option (slice_get p.descriptors fd))

-- whether a stream is a master's, of that device
abbrev pub is_master_of : ℕ → Object → Bool
is_master_of device (OfMaster place) = place == device
is_master_of device _ = false

-- whether a descriptor leads to a master stream of that device
abbrev pub leads_to_master : List Stream → ℕ → Option ℕ → Bool
leads_to_master streams device None = false
leads_to_master streams device (Some place) = is_some (option_and_then (λ (s : Stream). if is_master_of device s.object then Some s else None) (stream_at streams place))

-- whether a process holds a master stream of that device
abbrev pub holds_master_of : List Stream → ℕ → Process → Bool
holds_master_of streams device p = list_any (leads_to_master streams device) p.descriptors

-- a device is alive while a process holds its master stream
abbrev pub is_alive : Unix → ℕ → Bool
is_alive u device = list_any (holds_master_of u.streams device) u.processes

-- whether a process holds the master stream of some device
abbrev pub holds_a_master : Unix → Process → Bool
holds_a_master u p = list_any (λ (d : Device). holds_master_of u.streams d.place p) u.devices
