-- What an entry of the one-kernel Unix leaves as it was.
use Rattle.std.specs.Prelude.{◌≡◌, ◌≢◌, ◌≤◌, ◌+◌, ◌==◌, ◌||◌, ℕ, Bool, true, false, List, length, Option, Some, None}
use Rattle.process_machine.specs.declared.call.Call.{Call}
use Rattle.process_machine.specs.declared.call.Call.TheVariants as call
use Rattle.unix_calls.specs.declared.Description.{Description}
use Rattle.unix_calls.specs.declared.Entry.{Entry}
use Rattle.unix_calls.specs.declared.entry.Part.{Part}
use Rattle.unix_calls.specs.declared.entry.Part.TheVariants as part
use Rattle.unix_calls.specs.declared.state.Process.{Process}
use Rattle.unix_calls.specs.State.{Unix, process_at}
use Rattle.unix_calls.specs.After.{after, state_of}
use Rattle.unix_calls.specs.Laws.{is_last}

-- ---- which calls change what

-- whether a call opens a stream; makes a device
abbrev pub opens : Call → Bool
opens (call.OpenFile path flags) = true
opens _ = false

abbrev pub makes_device : Call → Bool
makes_device (call.PdMake path) = true
makes_device _ = false

-- whether a call makes a directory, or takes or moves a name
abbrev pub is_naming : Call → Bool
is_naming (call.Mkdir path) = true
is_naming (call.Rmdir path) = true
is_naming (call.Unlink path) = true
is_naming (call.Rename old new) = true
is_naming _ = false

-- whether a call moves an offset; changes a file's bytes beside that
abbrev pub moves_offset : Call → Bool
moves_offset (call.Read fd many) = true
moves_offset (call.Seek fd offset) = true
moves_offset _ = false

abbrev pub writes_file : Call → Bool
writes_file (call.Write fd bytes) = true
writes_file _ = false

-- whether a call takes or answers what a device is asked
abbrev pub handles_device : Call → Bool
handles_device (call.PdGet fd max) = true
handles_device (call.PdPut fd bytes number) = true
handles_device _ = false

abbrev pub is_tick : Call → Bool
is_tick call.Tick = true
is_tick _ = false

abbrev pub is_wait_call : Call → Bool
is_wait_call call.Wait = true
is_wait_call _ = false

-- whether a call kills that process
abbrev pub kills : ℕ → Call → Bool
kills pid (call.Kill target) = target == pid
kills pid _ = false

-- names, files, streams and devices
abbrev pub changes_names : Call → Bool
changes_names called = is_naming called || opens called || makes_device called

abbrev pub changes_files : Call → Bool
changes_files called = opens called || writes_file called

abbrev pub changes_streams : Call → Bool
changes_streams called = opens called || makes_device called || moves_offset called || writes_file called

abbrev pub changes_devices : Call → Bool
changes_devices called = makes_device called || handles_device called

-- of an entry's call
abbrev pub may : (Call → Bool) → Option Call → Bool
may test None = false
may test (Some called) = test called

-- the two entries of an operation on a device
abbrev pub is_of_operation : Part → Bool
is_of_operation part.Ask = true
is_of_operation part.Done = true
is_of_operation part.Whole = false
is_of_operation part.Death = false

-- ---- what an entry leaves

-- another process is as it was, but that a kill of it may be pending and that it may have been waited for; a kill that is pending stays so
pub record KeepsOther (e : Entry) (v : Unix) (other : Process) : Type 0 where
  pub after : Process
  pub there : process_at v.processes other.pid ≡ Some after
  pub whole : after ≡ record other { killed = after.killed; waited = after.waited }
  pub killed : may (kills other.pid) e.call ≡ false → after.killed ≡ other.killed
  pub pending : other.killed ≡ true → after.killed ≡ true
  pub waited : may is_wait_call e.call ≡ false → after.waited ≡ other.waited

-- whose entry it is keeps its number, its parent and whether it was waited for; unless it kills itself or ends, whether a kill of it
-- is pending, and that it lives
pub record KeepsOwn (e : Entry) (v : Unix) (own : Process) : Type 0 where
  pub after : Process
  pub there : process_at v.processes e.pid ≡ Some after
  pub pid : after.pid ≡ own.pid
  pub parent : after.parent ≡ own.parent
  pub waited : after.waited ≡ own.waited
  pub killed : may (kills own.pid) e.call ≡ false → after.killed ≡ own.killed
  pub ending : is_last e ≡ false → after.ending ≡ own.ending

pub record Leaves (e : Entry) (u v : Unix) : Type 0 where
  pub names : may changes_names e.call ≡ false → v.nodes ≡ u.nodes
  pub files : may changes_files e.call ≡ false → v.files ≡ u.files
  pub streams : may changes_streams e.call ≡ false → v.streams ≡ u.streams
  pub devices : may changes_devices e.call ≡ false → is_of_operation e.part ≡ false → v.devices ≡ u.devices
  pub ticks : may is_tick e.call ≡ false → v.ticks ≡ u.ticks
  pub roots : v.roots ≡ u.roots
  pub limit : v.limit ≡ u.limit
  pub entries : v.entries ≡ u.entries + 1
  pub own : (own : Process) → process_at u.processes e.pid ≡ Some own → KeepsOwn e v own
  pub others : (other : Process) → process_at u.processes other.pid ≡ Some other → other.pid ≢ e.pid → KeepsOther e v other

-- each entry of a history leaves so much as it was, where at most 200 processes start
abbrev pub EntriesLeave : Type 0
EntriesLeave = (c : Description) (journal : List Entry) (u v : Unix) (e : Entry) → length c.starts ≤ 200 → state_of c journal ≡ Some u → after c u e ≡ Some v → Leaves e u v
