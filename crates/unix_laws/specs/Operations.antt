-- How an operation on a device ends.
use Rattle.std.specs.Prelude.{◌≡◌, ◌≤◌, List, length, Some}
use Rattle.process_machine.specs.declared.call.Call.{Call}
use Rattle.process_machine.specs.declared.call.Reply.{Reply}
use Rattle.process_machine.specs.declared.call.Reply.TheVariants.{Value, Error}
use Rattle.unix_calls.specs.declared.Description.{Description}
use Rattle.unix_calls.specs.declared.Entry.{Entry}
use Rattle.unix_calls.specs.declared.entry.Part.TheVariants as part
use Rattle.unix_calls.specs.State.{Unix}
use Rattle.unix_calls.specs.After.{after, state_of}
use Rattle.unix_laws.specs.Replies.{Gives}

-- a value fits the call; an error is whichever its master gave, or NoServer
abbrev pub FitsDone : Call → Reply → Type 0
FitsDone called (Value first second bytes) = Gives called first second bytes
FitsDone called (Error e) = Unit {0}

-- so does the reply by which each operation of a history ends, where at most 200 processes start
abbrev pub OperationsEndFit : Type 0
OperationsEndFit = (c : Description) (journal : List Entry) (u v : Unix) (e : Entry) (called : Call) (reply : Reply) → length c.starts ≤ 200 → state_of c journal ≡ Some u → after c u e ≡ Some v → e.part ≡ part.Done → e.call ≡ Some called → e.reply ≡ Some reply → FitsDone called reply
