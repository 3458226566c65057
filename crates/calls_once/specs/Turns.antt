-- How far a process is with its calls, step by step.
use Rattle.std.specs.Prelude.{◌≡◌, ℕ, ◌+◌, ◌==◌, ◌&&◌, Option, Some, None, Result, IfOk}
use Rattle.std.specs.Option.{option_map}
use Rattle.process_machine.specs.declared.call.Call.{Call}
use Rattle.process_machine.specs.declared.call.Reply.{Reply}
use Rattle.sprite_ids.specs.declared.no_memory.NoMemory.{NoMemory}
use Rattle.unix_calls.specs.declared.entry.Entry.{Entry}
use Rattle.unix_calls.specs.declared.event.Event.{Event}
use Rattle.unix_calls.specs.declared.event.Event.TheVariants as event
use Rattle.unix_calls.specs.Same.{same_reply}
use Rattle.call_journal.specs.Once.{Progress, Between, Issued, Asked, Entered, Over, if_so, death_of, is_same_call, entered_as, done_as, over_after}
use Rattle.calls_once.specs.declared.progress.CallProgress.{CallProgress}
use Rattle.calls_once.specs.declared.progress.CallProgress.TheVariants as turn

-- a turn, as the definitions have it
abbrev pub progress_by : CallProgress → Progress
progress_by (turn.Between calls) = Between calls
progress_by (turn.Issued number call) = Issued number call
progress_by (turn.Asked number call) = Asked number call
progress_by (turn.Entered number call reply) = Entered number call reply
progress_by turn.Over = Over

-- what comes is that progress, if any
abbrev pub Gives : Result (Option CallProgress) NoMemory → Option Progress → Type 0
Gives result progress = IfOk result (λ next. option_map progress_by next ≡ progress)

-- the cases of an event after each turn, one word each
abbrev pub progress_by_call : ℕ → ℕ → Call → Option Progress
progress_by_call n number call = if_so (number == n + 1) (Some (Issued number call))

abbrev pub death_by : ℕ → Entry → Option Progress
death_by n entry = if_so (entry.number == n + 1) (death_of n entry.part)

abbrev pub after_between : ℕ → Event → Option Progress
after_between n (event.Issue pid number call) = progress_by_call n number call
after_between n (event.Enter entry) = death_by n entry
after_between n _ = None

abbrev pub entered_by : ℕ → Call → Entry → Option Progress
entered_by n call entry = if_so (entry.number == n && is_same_call call entry.call) (entered_as entry.part n call entry.reply)

abbrev pub asked_by : ℕ → Call → Option Reply → Option Progress
asked_by n call None = Some (Asked n call)
asked_by n call (Some reply) = None

abbrev pub after_issued : ℕ → Call → Event → Option Progress
after_issued n call (event.Enter entry) = entered_by n call entry
after_issued n call _ = None

abbrev pub done_by : ℕ → Call → Entry → Option Progress
done_by n call entry = if_so (entry.number == n && is_same_call call entry.call) (done_as entry.part n call entry.reply)

abbrev pub after_asked : ℕ → Call → Event → Option Progress
after_asked n call (event.Enter entry) = done_by n call entry
after_asked n call _ = None

abbrev pub after_entered : ℕ → Call → Reply → Event → Option Progress
after_entered n call reply (event.Return pid number given) = if_so (number == n && same_reply reply given) (Some (over_after call n))
after_entered n call reply _ = None
