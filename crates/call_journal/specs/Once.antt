-- Each finished call stands in the journal once, between its issue and its return, with its reply.
use Rattle.std.specs.Prelude.{ℕ, ◌+◌, ◌==◌, Bool, true, false, ◌&&◌, if◌then◌else◌, List, Option, Some, None, IsTrue}
use Rattle.process_machine.specs.declared.call.Call.{Call}
use Rattle.process_machine.specs.declared.call.Call.TheVariants as call
use Rattle.process_machine.specs.declared.call.Reply.{Reply}
use Rattle.unix_calls.specs.declared.entry.Part.{Part}
use Rattle.unix_calls.specs.declared.entry.Part.TheVariants as part
use Rattle.unix_calls.specs.declared.event.Event.{Event}
use Rattle.unix_calls.specs.declared.event.Event.TheVariants as event
use Rattle.unix_calls.specs.declared.event.Rec.{Rec}
use Rattle.unix_calls.specs.Same.{same_call, same_reply}
use Rattle.call_journal.specs.Past.{folded}

-- how far a process is with its calls
pub data Progress : Type 0 where
  -- so many calls have returned, and none is out
  Between : ℕ → Progress
  -- the call of that number is issued
  Issued : ℕ → Call → Progress
  -- it has gone to the master of a device
  Asked : ℕ → Call → Progress
  -- its entry is made, with that reply
  Entered : ℕ → Call → Reply → Progress
  -- the process has ended
  Over : Progress

-- behind the return of an exit or a bad step the process has ended; behind that of another call it goes on
abbrev pub over_after : Call → ℕ → Progress
over_after (call.Exit code) n = Over
over_after call.BadStep n = Over
over_after _ n = Between n

-- an entry of the call that is out, whole or in two parts
abbrev pub whole_of : ℕ → Call → Option Reply → Option Progress
whole_of n call (Some reply) = Some (Entered n call reply)
whole_of n call None = None

abbrev pub entered_as : Part → ℕ → Call → Option Reply → Option Progress
entered_as part.Whole n call reply = whole_of n call reply
entered_as part.Ask n call None = Some (Asked n call)
entered_as _ n call reply = None

abbrev pub done_as : Part → ℕ → Call → Option Reply → Option Progress
done_as part.Done n call reply = whole_of n call reply
done_as _ n call reply = None

-- it is that call
abbrev pub is_same_call : Call → Option Call → Bool
is_same_call call None = false
is_same_call call (Some other) = same_call call other

abbrev pub if_so : Bool → Option Progress → Option Progress
if_so true progress = progress
if_so false progress = None

-- a death, between two calls, with the number that would have come next
abbrev pub death_of : ℕ → Part → Option Progress
death_of n part.Death = Some Over
death_of n _ = None

-- how far the process is after an event of its calls; none where the event isn't in its turn
abbrev pub progress_after : Progress → Event → Option Progress
progress_after (Between n) (event.Issue pid number call) = if_so (number == n + 1) (Some (Issued number call))
progress_after (Between n) (event.Enter entry) = if_so (entry.number == n + 1) (death_of n entry.part)
progress_after (Issued n call) (event.Enter entry) =
    if_so (entry.number == n && is_same_call call entry.call) (entered_as entry.part n call entry.reply)
progress_after (Asked n call) (event.Enter entry) =
    if_so (entry.number == n && is_same_call call entry.call) (done_as entry.part n call entry.reply)
progress_after (Entered n call reply) (event.Return pid number given) =
    if_so (number == n && same_reply reply given) (Some (over_after call n))
progress_after _ _ = None

-- the events of a process's calls: it issues, enters and returns
abbrev pub is_call_event : ℕ → Event → Bool
is_call_event pid (event.Issue p number call) = p == pid
is_call_event pid (event.Enter entry) = entry.pid == pid
is_call_event pid (event.Return p number reply) = p == pid
is_call_event pid _ = false

-- how far a process is after such an event, where it was that far; none stays none
abbrev pub progress_on : Option Progress → Event → Option Progress
progress_on None event = None
progress_on (Some progress) event = progress_after progress event

abbrev pub progress_step : ℕ → List Rec → Rec → Option Progress → Option Progress
progress_step pid before rec progress = if is_call_event pid rec.event then progress_on progress rec.event else progress

-- how far a process is after a trace; none where one of its events isn't in its turn
abbrev pub progress_of : ℕ → List Rec → Option Progress
progress_of pid trace = folded (progress_step pid) (Some (Between 0)) trace

-- the calls of a process come in their turns
abbrev pub is_in_turn : Option Progress → Bool
is_in_turn (Some progress) = true
is_in_turn None = false

abbrev pub once_of : ℕ → List Rec → Bool
once_of pid trace = is_in_turn (progress_of pid trace)

-- each call is issued, entered and returned once, in this order, an operation on a device being entered as an ask and then
-- as done; the calls of a process are numbered 1, 2 and so on; a process that was killed ends behind the return of all its calls
abbrev pub Once : List Rec → Type 0
Once trace = (pid : ℕ) → IsTrue (once_of pid trace)
