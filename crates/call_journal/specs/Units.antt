-- What a trace costs, and how many records of each kind it has.
use Rattle.std.specs.Prelude.{ℕ, ◌+◌, ◌/◌, ◌==◌, List, [], ◌∷◌, Option, Some, None, length, count_by}
use Rattle.process_machine.specs.declared.call.Call.{Call}
use Rattle.process_machine.specs.declared.call.Call.TheVariants as call
use Rattle.process_machine.specs.declared.call.Reply.{Reply}
use Rattle.process_machine.specs.declared.call.Reply.TheVariants.{Value, Error}
use Rattle.unix_calls.specs.declared.entry.Entry.{Entry}
use Rattle.unix_calls.specs.declared.event.Event.{Event}
use Rattle.unix_calls.specs.declared.event.Event.TheVariants as event
use Rattle.unix_calls.specs.declared.event.Rec.{Rec}

-- how many bytes a call carries, its texts and names among them
abbrev pub bytes_of_call : Call → ℕ
bytes_of_call (call.Print bytes) = length bytes
bytes_of_call (call.Exec name arg) = length name
bytes_of_call (call.OpenFile path flags) = length path
bytes_of_call (call.Write fd bytes) = length bytes
bytes_of_call (call.Stat path) = length path
bytes_of_call (call.Mkdir path) = length path
bytes_of_call (call.Rmdir path) = length path
bytes_of_call (call.Unlink path) = length path
bytes_of_call (call.Rename old new) = length old + length new
bytes_of_call (call.List path max) = length path
bytes_of_call (call.Chdir path) = length path
bytes_of_call (call.Migrate name) = length name
bytes_of_call (call.PdMake path) = length path
bytes_of_call (call.PdPut fd bytes number) = length bytes
bytes_of_call (call.Ioctl fd command bytes) = length bytes
bytes_of_call (call.Rexec name host) = length name + length host
bytes_of_call _ = 0

abbrev pub bytes_of_reply : Reply → ℕ
bytes_of_reply (Value first second bytes) = length bytes
bytes_of_reply (Error errno) = 0

abbrev pub bytes_asked : Option Call → ℕ
bytes_asked None = 0
bytes_asked (Some call) = bytes_of_call call

abbrev pub bytes_answered : Option Reply → ℕ
bytes_answered None = 0
bytes_answered (Some reply) = bytes_of_reply reply

-- the data of an entry: the bytes of its call and of its reply
abbrev pub data_of : Entry → ℕ
data_of entry = bytes_asked entry.call + bytes_answered entry.reply

-- one unit for each 64 bytes, or part of 64
abbrev pub units_for : ℕ → ℕ
units_for count = (count + 63) / 64

-- one unit for a record, and those for an entry's data
abbrev pub units_of_event : Event → ℕ
units_of_event (event.Enter entry) = 1 + units_for (data_of entry)
units_of_event _ = 1

-- the units of a trace
abbrev pub units_of : List Rec → ℕ
units_of [] = 0
units_of (rec ∷ recs) = units_of_event rec.event + units_of recs

-- the place of an event's kind among the twenty-one
abbrev pub kind_of : Event → ℕ
kind_of (event.Burst pid count) = 0
kind_of (event.Issue pid number call) = 1
kind_of (event.Enter entry) = 2
kind_of (event.Return pid number reply) = 3
kind_of (event.Send tx to about kind) = 4
kind_of (event.Fault a b met) = 5
kind_of (event.Deliver tx from reply about) = 6
kind_of (event.Expire tx last) = 7
kind_of (event.Grant file to stamp mode) = 8
kind_of (event.Callback file to stamp kind) = 9
kind_of (event.Mode file stamp mode) = 10
kind_of (event.Filled file block) = 11
kind_of (event.Dropped file block cause) = 12
kind_of (event.Dirtied file block) = 13
kind_of (event.WroteBack file block) = 14
kind_of (event.Opened file stream kernel mode) = 15
kind_of (event.Closed file stream kernel mode) = 16
kind_of (event.Shared file stream) = 17
kind_of (event.Learned prefix server) = 18
kind_of (event.Freeze pid) = 19
kind_of (event.Thaw pid) = 20

-- how many records of a kind there are
abbrev pub count_of : ℕ → List Rec → ℕ
count_of kind trace = count_by (λ (rec : Rec). kind_of rec.event == kind) trace
