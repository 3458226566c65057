-- What holds of all histories of the one-kernel Unix.
use Rattle.std.specs.Prelude.{◌≡◌, ◌↔◌, ◌≢◌, ◌≤◌, ℕ, Bool, true, false, List, ◌∷◌, ◌++◌, length, Option, Some}
use Rattle.std.specs.List.{AllByRecursion}
use Rattle.sprite_ids.specs.declared.errno.Errno.{Errno}
use Rattle.process_machine.specs.declared.call.Call.{Call}
use Rattle.process_machine.specs.declared.call.Call.TheVariants as call
use Rattle.process_machine.specs.declared.call.Reply.{Reply}
use Rattle.process_machine.specs.declared.call.Reply.TheVariants.{Error}
use Rattle.unix_calls.specs.declared.description.Description.{Description}
use Rattle.unix_calls.specs.declared.entry.Entry.{Entry}
use Rattle.unix_calls.specs.declared.entry.Part.{Part}
use Rattle.unix_calls.specs.declared.entry.Part.TheVariants as part
use Rattle.unix_calls.specs.State.{File, Stream, Process, Unix, process_at, with_process}
use Rattle.unix_calls.specs.Answers.{Answered, replied}
use Rattle.unix_calls.specs.Same.{same_call, same_reply}
use Rattle.unix_calls.specs.Boot.{boot_of}
use Rattle.unix_calls.specs.Lawful.{Lawful}
use Rattle.unix_calls.specs.After.{outcome, after, state_of, legal}

-- every prefix of a legal history is legal
abbrev pub PrefixIsLegal : Type 0
PrefixIsLegal = (c : Description) (journal more : List Entry) → legal c (journal ++ more) ≡ true → legal c journal ≡ true

-- a kill of that process is pending
pub record IsKilled (u : Unix) (pid : ℕ) : Type 0 where
  pub process : Process
  pub there : process_at u.processes pid ≡ Some process
  pub pending : process.killed ≡ true

-- a death is of a process that a kill is pending for
abbrev pub DeathIsOfKilled : Type 0
DeathIsOfKilled = (c : Description) (u v : Unix) (e : Entry) → after c u e ≡ Some v → e.part ≡ part.Death → IsKilled u e.pid

-- each file's size and each stream's offset is at most the limit
pub record IsWithin (u : Unix) : Type 0 where
  pub files : AllByRecursion (λ (f : File). length f.bytes ≤ u.limit) u.files
  pub streams : AllByRecursion (λ (s : Stream). s.offset ≤ u.limit) u.streams

-- sizes and offsets stay within the limit, where the files are so at the start
abbrev pub SizesStayWithin : Type 0
SizesStayWithin = (c : Description) (journal : List Entry) (u : Unix) → IsWithin (boot_of c) → state_of c journal ≡ Some u → IsWithin u

-- a lawful description's files are within the limit, and at most 200 processes start, as many as one home may make
pub record BeginsWithin (c : Description) : Type 0 where
  pub files : IsWithin (boot_of c)
  pub starts : length c.starts ≤ 200

abbrev pub LawfulBeginsWithin : Type 0
LawfulBeginsWithin = (c : Description) → Lawful c → BeginsWithin c

-- a refused call changes nothing but its caller's image and number of calls
abbrev pub RefusalChangesNothing : Type 0
RefusalChangesNothing = (c : Description) (u v : Unix) (p : Process) (called : Call) (errno : Errno) → outcome c u p called ≡ Answered (Error errno) v → v ≡ with_process (replied c p (Error errno)) u

-- a process is there, with the image and the ending that it had
pub record StaysAs (before : Process) (v : Unix) : Type 0 where
  pub after : Process
  pub there : process_at v.processes before.pid ≡ Some after
  pub image : after.image ≡ before.image
  pub ending : after.ending ≡ before.ending

-- an entry changes no other process's image and ends no other process, where at most 200 processes start. A fork's child is new
abbrev pub OthersStay : Type 0
OthersStay = (c : Description) (journal : List Entry) (u v : Unix) (e : Entry) (other : Process) → length c.starts ≤ 200 → state_of c journal ≡ Some u → after c u e ≡ Some v → process_at u.processes other.pid ≡ Some other → other.pid ≢ e.pid → StaysAs other v

-- whether a call ends its process
abbrev pub is_last_call : Call → Bool
is_last_call (call.Exit code) = true
is_last_call call.BadStep = true
is_last_call called = false

-- whether a process ends by an entry: an exit, a bad step or a death
abbrev pub is_last_part : Part → Option Call → Bool
is_last_part part.Whole (Some called) = is_last_call called
is_last_part part.Death called = true
is_last_part kind called = false

abbrev pub is_last : Entry → Bool
is_last e = is_last_part e.part e.call

-- behind the entry by which a process ends stands no entry of that process
abbrev pub EndedIsSilent : Type 0
EndedIsSilent = (c : Description) (before behind : List Entry) (e : Entry) → length c.starts ≤ 200 → legal c (before ++ e ∷ behind) ≡ true → is_last e ≡ true → AllByRecursion (λ (later : Entry). later.pid ≢ e.pid) behind

-- the tests of calls and replies tell whether they are equal
pub record TestsTell : Type 0 where
  pub calls : (one two : Call) → (same_call one two ≡ true) ↔ (one ≡ two)
  pub replies : (one two : Reply) → (same_reply one two ≡ true) ↔ (one ≡ two)
