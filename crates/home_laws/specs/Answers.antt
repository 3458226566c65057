-- What a home answers to the calls of its processes, and what its table becomes.
use Rattle.std.specs.Prelude.{ℕ, ◌+◌, nat_le, nat_lt, Bool, true, false, if◌then◌else◌, List, [], length, Option, Some, None}
use Rattle.sprite_ids.specs.declared.Errno.TheVariants as errno
use Rattle.sprite_ids.specs.declared.Ending.TheVariants as ending
use Rattle.process_machine.specs.declared.call.Call.{Call}
use Rattle.process_machine.specs.declared.call.Call.TheVariants as call
use Rattle.process_machine.specs.declared.call.Reply.{Reply}
use Rattle.process_machine.specs.declared.call.Reply.TheVariants.{Value, Error}
use Rattle.unix_calls.specs.declared.Description.{Description}
use Rattle.unix_calls.specs.Answers.{nothing, value}
use Rattle.unix_calls.specs.ProcessCalls.{kernel_name}
use Rattle.home_table.specs.declared.WaitAnswer.{WaitAnswer}
use Rattle.home_table.specs.declared.WaitAnswer.TheVariants.{Child, NoChild, NotYet}
use Rattle.home_table.specs.Home.{Table, born, ended, is_living_at, is_pending_at, parent_at, pid_at, wait_answer, waited}

-- whether a home has made all the processes that it may
abbrev pub is_full : Table → Bool
is_full table = nat_le 200 (length table.births)

-- the number of a looked-up process, 0 where there is none
abbrev pub number_or_zero : Option ℕ → ℕ
number_or_zero (Some pid) = pid
number_or_zero None = 0

-- what `host` is answered by a kernel of that name
abbrev pub told_name : List ℕ → ℕ → Reply
told_name name max = if nat_lt max (length name) then Error errno.Invalid else Value (length name) 0 name

-- what `fork` is answered: the child's number, or TooMany where the home made 200
abbrev pub told_child : Table → Reply
told_child table = if is_full table then Error errno.TooMany else value (pid_at table.home (length table.births))

abbrev pub with_child : Table → ℕ → Table
with_child table parent = if is_full table then table else born table (Some parent)

-- what a `wait` is answered; nothing yet where no child has ended, and Interrupted there where a kill is pending
abbrev pub interrupted_if : Bool → Option Reply
interrupted_if true = Some (Error errno.Interrupted)
interrupted_if false = None

abbrev pub told_wait : WaitAnswer → Bool → Option Reply
told_wait (Child pid status) pending = Some (Value pid status [])
told_wait NoChild pending = Some (Error errno.NoChild)
told_wait NotYet pending = interrupted_if pending

-- what a home answers to a call of one of its processes; none for the calls that are done elsewhere
abbrev pub home_answer : Description → Table → ℕ → Call → Option Reply
home_answer c table pid (call.Print bytes) = Some nothing
home_answer c table pid (call.Exit code) = Some nothing
home_answer c table pid call.BadStep = Some nothing
home_answer c table pid call.Getppid = Some (value (number_or_zero (parent_at table pid)))
home_answer c table pid (call.Host max) = Some (told_name (kernel_name c.kernels table.home) max)
home_answer c table pid call.Tick = Some (value (table.ticks + 1))
home_answer c table pid call.Fork = Some (told_child table)
home_answer c table pid call.Wait = told_wait (wait_answer table pid) (is_pending_at table pid)
home_answer c table pid _ = None

-- what the table becomes
abbrev pub behind_call : Table → ℕ → Call → Table
behind_call table pid (call.Exit code) = ended table pid (ending.Exit code)
behind_call table pid call.BadStep = ended table pid ending.Bad
behind_call table pid call.Tick = record table { ticks = table.ticks + 1 }
behind_call table pid call.Fork = with_child table pid
behind_call table pid call.Wait = waited table pid
behind_call table pid _ = table

-- what the home of a `kill`'s argument answers
abbrev pub kill_answer : Table → ℕ → Reply
kill_answer table target = if is_living_at table target then nothing else Error errno.NoProcess
