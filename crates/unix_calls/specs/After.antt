-- What one kernel answers to each call, and the histories that it gives.
use Rattle.std.specs.Prelude.{ℕ, ◌+◌, ◌==◌, Bool, true, false, ◌&&◌, not, if◌then◌else◌, List, [], ◌∷◌, ◌++◌, Option, Some, None}
use Rattle.std.specs.Option.{option_map, option_and_then, is_some}
use Rattle.sprite_ids.specs.declared.errno.Errno.{Errno}
use Rattle.sprite_ids.specs.declared.errno.Errno.TheVariants as errno
use Rattle.sprite_ids.specs.declared.running.Ending.TheVariants as ending
use Rattle.sprite_paths.specs.Path.{clean_path}
use Rattle.process_machine.specs.declared.call.Call.{Call}
use Rattle.process_machine.specs.declared.call.Call.TheVariants as call
use Rattle.process_machine.specs.declared.call.Reply.{Reply}
use Rattle.process_machine.specs.declared.call.Reply.TheVariants.{Value, Error}
use Rattle.process_machine.specs.declared.program.Program.{Program}
use Rattle.process_machine.specs.Machine.{Machine}
use Rattle.process_machine.specs.Runs.{at_next_call, call_of_next}
use Rattle.unix_calls.specs.declared.description.Description.{Description}
use Rattle.unix_calls.specs.declared.entry.Entry.{Entry}
use Rattle.unix_calls.specs.declared.entry.Part.{Part}
use Rattle.unix_calls.specs.declared.entry.Part.TheVariants as part
use Rattle.unix_calls.specs.State.{Device, Process, Unix, process_at, with_process, device_at, with_device, is_alive, lives, free_descriptor, no_descriptors}
use Rattle.unix_calls.specs.Answers.{Outcome, Answered, GoesTo, Waits, program_at, replies, refuses, gives}
use Rattle.unix_calls.specs.ProcessCalls.{print, ends, getppid, host, tick, fork, exec, wait, kill, migrate, rexec}
use Rattle.unix_calls.specs.NameCalls.{at_path, stat, mkdir, rmdir, unlink, rename, list, chdir}
use Rattle.unix_calls.specs.Opening.{flags_of, open_file, pd_make}
use Rattle.unix_calls.specs.StreamCalls.{close, dup, read, write, seek, size, sync}
use Rattle.unix_calls.specs.DeviceCalls.{ioctl, pd_get, pd_put, answer_for, without_answer}
use Rattle.unix_calls.specs.Same.{same_call, same_reply}
use Rattle.unix_calls.specs.Boot.{boot_of}

-- what a call of the process p comes to, whose image stands at it
abbrev pub outcome : Description → Unix → Process → Call → Outcome
outcome c u p (call.Print bytes) = print c u p bytes
outcome c u p (call.Exit code) = ends u p (ending.Exit code)
outcome c u p call.BadStep = ends u p ending.Bad
outcome c u p call.Getpid = gives c u p p.pid
outcome c u p call.Getppid = getppid c u p
outcome c u p (call.Host max) = host c u p max
outcome c u p call.Tick = tick c u p
outcome c u p call.Fork = fork c u p
outcome c u p (call.Exec name arg) = exec c u p name arg
outcome c u p call.Wait = wait c u p
outcome c u p (call.Kill pid) = kill c u p pid
outcome c u p (call.OpenFile path flags) = open_file c u p path flags
outcome c u p (call.Close fd) = close c u p fd
outcome c u p (call.Dup fd) = dup c u p fd
outcome c u p (call.Read fd many) = read c u p fd many
outcome c u p (call.Write fd bytes) = write c u p fd bytes
outcome c u p (call.Seek fd offset) = seek c u p fd offset
outcome c u p (call.Size fd) = size c u p fd
outcome c u p (call.Sync fd) = sync c u p fd
outcome c u p (call.Stat path) = at_path c u p path (stat c u p)
outcome c u p (call.Mkdir path) = at_path c u p path (mkdir c u p)
outcome c u p (call.Rmdir path) = at_path c u p path (rmdir c u p)
outcome c u p (call.Unlink path) = at_path c u p path (unlink c u p)
outcome c u p (call.Rename old new) = at_path c u p old (λ from. at_path c u p new (rename c u p from))
outcome c u p (call.List path max) = at_path c u p path (λ directory. list c u p directory max)
outcome c u p (call.Chdir path) = at_path c u p path (chdir c u p)
outcome c u p (call.Migrate name) = migrate c u p name
outcome c u p (call.PdMake path) = pd_make c u p path
outcome c u p (call.PdGet fd max) = pd_get c u p fd max
outcome c u p (call.PdPut fd bytes number) = pd_put c u p fd bytes number
outcome c u p (call.Ioctl fd command bytes) = ioctl c u p fd
outcome c u p (call.Rexec name host) = rexec c u p name host
outcome c u p (call.Refused e) = refuses c u p e

-- whether a text is a path of the process
abbrev pub is_path : Process → List ℕ → Bool
is_path p text = is_some (clean_path p.cwd text)

-- whether a call goes by names to a server, which may be out of reach: no refusal up to BadName meets it
abbrev pub may_miss : Process → Call → Bool
may_miss p (call.OpenFile path flags) = is_some (flags_of flags) && is_some (free_descriptor p) && is_path p path
may_miss p (call.PdMake path) = is_some (free_descriptor p) && is_path p path
may_miss p (call.Stat path) = is_path p path
may_miss p (call.Mkdir path) = is_path p path
may_miss p (call.Rmdir path) = is_path p path
may_miss p (call.Unlink path) = is_path p path
may_miss p (call.Rename old new) = is_path p old && is_path p new
may_miss p (call.List path max) = is_path p path
may_miss p (call.Chdir path) = is_path p path
may_miss p _ = false

-- whether a kill may break the call off
abbrev pub may_break : Call → Bool
may_break call.Wait = true
may_break (call.PdGet fd max) = true
may_break _ = false

-- whether a call may have an error whatever its row gives: Unreachable where it goes by names, Interrupted where a kill of its
-- process is pending
abbrev pub may_fail : Process → Call → Errno → Bool
may_fail p call errno.Unreachable = may_miss p call
may_fail p call errno.Interrupted = p.killed && may_break call
may_fail p call _ = false

-- whether an entry is a death, which has neither call nor reply
abbrev pub is_death_part : Part → Option Reply → Bool
is_death_part part.Death None = true
is_death_part _ reply = false

abbrev pub is_death : Entry → Bool
is_death e = is_death_part e.part e.reply

-- the state of an answered call
abbrev pub state_in : Outcome → Option Unix
state_in (Answered reply later) = Some later
state_in other = None

-- the state after a reply by a fault or a kill: it changes nothing but the image and the number of calls
abbrev pub failed : Description → Unix → Process → Call → Reply → Option Unix
failed c u p call (Error e) = if may_fail p call e then state_in (refuses c u p e) else None
failed c u p call (Value a b bytes) = None

-- the state after a reply that the call may have: the one that is due, or a failure
abbrev pub with_reply : Description → Unix → Process → Call → Outcome → Reply → Option Unix
with_reply c u p call (Answered due later) reply = if same_reply due reply then Some later else failed c u p call reply
with_reply c u p call other reply = failed c u p call reply

-- a whole call: the process is in no ask
abbrev pub after_whole : Description → Unix → Process → Call → Reply → Option Unix
after_whole c u p call reply = if is_some p.asking then None else with_reply c u p call (outcome c u p call) reply

-- the ask of a process stands behind the others of its device
abbrev pub asked : Unix → Process → Call → Device → Unix
asked u p call device =
    with_process (record p { asking = Some device.place })
    (record u { devices = with_device (record device { asks = device.asks ++ record { pid = p.pid; number = p.calls + 1; call = call } ∷ [] }) u.devices })

-- an ask: the call goes to the master of a device
abbrev pub after_ask : Unix → Process → Call → Outcome → Option Unix
after_ask u p call (GoesTo place) = option_map (asked u p call) (device_at u.devices place)
after_ask u p call other = None

-- the answer that a device gives to a process: the one that was left for it; NoServer where the device is dead and none was
abbrev pub answer_due : Unix → Process → Device → Option Reply → Option Reply
answer_due u p device (Some reply) = Some reply
answer_due u p device None = if is_alive u device.place then None else Some (Error errno.NoServer)

-- the state in which that answer is fetched
abbrev pub fetched : Unix → Process → Device → Unix
fetched u p device =
    record u { devices = with_device (record device { answers = without_answer p.pid device.answers }) u.devices }

-- the end of an ask, with the answer that is due
abbrev pub done_with : Description → Unix → Process → Device → Reply → Option Reply → Option Unix
done_with c u p device reply None = None
done_with c u p device reply (Some due) =
    if same_reply due reply then state_in (replies c (fetched u p device) p reply) else None

abbrev pub done_at : Description → Unix → Process → Reply → Device → Option Unix
done_at c u p reply device = done_with c u p device reply (answer_due u p device (answer_for p.pid device.answers))

-- a done: the process is in an ask
abbrev pub after_done : Description → Unix → Process → Reply → Option Unix
after_done c u p reply = option_and_then (done_at c u p reply) (option_and_then (device_at u.devices) p.asking)

-- a death: a kill is pending, and the process is in no ask. It is no call
abbrev pub after_death : Unix → Process → Option Unix
after_death u p =
    if p.killed && not (is_some p.asking)
    then Some (with_process (record p { descriptors = no_descriptors; ending = Some ending.Killed }) u)
    else None

-- an entry by its part: what it has of call and reply, and what it does
abbrev pub after_part : Description → Unix → Process → Part → Call → Option Reply → Option Unix
after_part c u p part.Whole call (Some reply) = after_whole c u p call reply
after_part c u p part.Done call (Some reply) = after_done c u p reply
after_part c u p part.Ask call None = if is_some p.asking then None else after_ask u p call (outcome c u p call)
after_part c u p _ call reply = None

-- the call is the next one of the process's image, which stands at it
abbrev pub next_is : Description → Unix → Process → Entry → Call → Option Call → Option Unix
next_is c u p e claimed None = None
next_is c u p e claimed (Some call) = if same_call claimed call then after_part c u p e.part call e.reply else None

-- of a process whose image has come to its call: it is put into the state first
abbrev pub at_call : Description → Unix → Process → Entry → Program → Call → Option Unix
at_call c u p e program claimed = next_is c (with_process p u) p e claimed (call_of_next program (Some p.image))

abbrev pub at_image : Description → Unix → Process → Entry → Program → Call → Option Machine → Option Unix
at_image c u p e program call None = None
at_image c u p e program call (Some image) = at_call c u (record p { image = image }) e program call

abbrev pub at_program : Description → Unix → Process → Entry → Call → Option Program → Option Unix
at_program c u p e call None = None
at_program c u p e call (Some program) = at_image c u p e program call (at_next_call program p.image)

-- an entry of a living process: a death, or its next call with the next number
abbrev pub after_living : Description → Unix → Process → Entry → Option Call → Option Unix
after_living c u p e None = if is_death e then after_death u p else None
after_living c u p e (Some call) =
    if e.number == p.calls + 1 then at_program c u p e call (program_at c.programs p.image.number) else None

abbrev pub after_of : Description → Unix → Entry → Option Process → Option Unix
after_of c u e None = None
after_of c u e (Some p) = if lives p then after_living c u p e e.call else None

-- one entry more
abbrev pub counted : Unix → Unix
counted u = record u { entries = u.entries + 1 }

-- the state after an entry; none where one kernel does not make it
abbrev pub after : Description → Unix → Entry → Option Unix
after c u e = option_map counted (after_of c u e (process_at u.processes e.pid))

-- the state after some entries, where one kernel makes them one after another
abbrev pub state_from : Description → Option Unix → List Entry → Option Unix
state_from c u [] = u
state_from c None (e ∷ es) = None
state_from c (Some u) (e ∷ es) = state_from c (after c u e) es

-- the state after a journal
abbrev pub state_of : Description → List Entry → Option Unix
state_of c journal = state_from c (Some (boot_of c)) journal

-- the journal is a history that one Unix kernel without caches, packets or migration gives for the description
abbrev pub legal : Description → List Entry → Bool
legal c journal = is_some (state_of c journal)

-- whether a process waits and nothing of its own can end that: it is in an ask without answer on a living device, or it has no
-- pending kill and its next call waits
abbrev pub waits_on : Unix → Process → Option Device → Bool
waits_on u p None = false
waits_on u p (Some device) = is_alive u device.place && not (is_some (answer_for p.pid device.answers))

abbrev pub is_wait : Outcome → Bool
is_wait Waits = true
is_wait other = false

abbrev pub waits_at : Description → Unix → Process → Option Machine → Option Call → Bool
waits_at c u p (Some image) (Some call) = is_wait (outcome c u (record p { image = image }) call)
waits_at c u p image call = false

abbrev pub waits_in : Description → Unix → Process → Option Program → Bool
waits_in c u p None = false
waits_in c u p (Some program) = waits_at c u p (at_next_call program p.image) (call_of_next program (at_next_call program p.image))

abbrev pub blocked : Description → Unix → Process → Bool
blocked c u p =
    if is_some p.asking
    then waits_on u p (option_and_then (device_at u.devices) p.asking)
    else not p.killed && waits_in c u p (program_at c.programs p.image.number)
