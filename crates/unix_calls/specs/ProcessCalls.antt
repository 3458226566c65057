-- The calls on processes.
use Rattle.std.specs.Prelude.{ℕ, suc, zero, ◌+◌, ◌-◌, ◌==◌, Bool, true, false, ◌&&◌, not, if◌then◌else◌, List, [], ◌∷◌, ◌++◌, length, nat_le, nat_lt, filter, slice_get, slice_set, slice_index, Option, Some, None}
use Rattle.std.specs.Option.{option_map, option_and_then, is_some, unwrap_or}
use Rattle.sprite_ids.specs.Pid.{home_of}
use Rattle.sprite_ids.specs.declared.errno.Errno.{Errno}
use Rattle.sprite_ids.specs.declared.errno.Errno.TheVariants as errno
use Rattle.sprite_ids.specs.declared.running.Ending.{Ending}
use Rattle.sprite_ids.specs.declared.running.Ending.TheVariants as ending
use Rattle.process_machine.specs.declared.call.Reply.TheVariants.{Value}
use Rattle.process_machine.specs.declared.program.Program.{Program}
use Rattle.process_machine.specs.Fresh.{fresh_machine}
use Rattle.unix_calls.specs.declared.description.Description.{Description}
use Rattle.unix_calls.specs.declared.description.KernelLine.{KernelLine}
use Rattle.unix_calls.specs.declared.description.ProgramLine.{ProgramLine}
use Rattle.unix_calls.specs.State.{Process, Unix, process_at, with_process, births, next_pid, no_descriptors, lives, holds_a_master}
use Rattle.unix_calls.specs.Same.{same_text}
use Rattle.unix_calls.specs.Answers.{Outcome, Answered, Waits, program_at, given_by, replies, nothing, is_done, gives, refuses, unless_refused}

-- print addr len: the bytes join the console
abbrev pub print : Description → Unix → Process → List ℕ → Outcome
print c u p bytes = is_done c u (record p { console = p.console ++ bytes })

-- a process that has ended: its descriptors are closed
abbrev pub ended : Process → Ending → Process
ended p end = record p { descriptors = no_descriptors; calls = p.calls + 1; ending = Some end }

-- exit code, and a bad step: the process ends
abbrev pub ends : Unix → Process → Ending → Outcome
ends u p end = Answered nothing (with_process (ended p end) u)

-- getppid: the parent's number; 0 for a boot process or an ended parent
abbrev pub living_number : Option Process → ℕ
living_number None = 0
living_number (Some parent) = if lives parent then parent.pid else 0

abbrev pub getppid : Description → Unix → Process → Outcome
getppid c u p = gives c u p (living_number (option_and_then (process_at u.processes) p.parent))

-- the name of the kernel of that number
abbrev pub kernel_name : List KernelLine → ℕ → List ℕ
kernel_name lines zero = []
kernel_name lines (suc place) = unwrap_or (option_map (λ (line : KernelLine). line.name) (slice_get lines place)) []

-- host addr max: length and bytes of the home's name. Invalid: max under the length
abbrev pub host_named : Description → Unix → Process → ℕ → List ℕ → Outcome
host_named c u p max name =
    if nat_lt max (length name) then refuses c u p errno.Invalid else replies c u p (Value (length name) 0 name)

abbrev pub host : Description → Unix → Process → ℕ → Outcome
host c u p max = host_named c u p max (kernel_name c.kernels (home_of p.pid))

-- tick: the home's count, after adding one
abbrev pub ticked : Description → Unix → Process → ℕ → ℕ → Outcome
ticked c u p home count = gives c (record u { ticks = slice_set u.ticks home count }) p count

abbrev pub tick : Description → Unix → Process → Outcome
tick c u p = ticked c u p (home_of p.pid - 1) (slice_index u.ticks (home_of p.pid - 1) + 1)

-- the child of a process: its number and its home's next one, with the same image, descriptors and cwd; its call gives 0
abbrev pub child_of : Description → Process → ℕ → Process
child_of c p pid =
    record {
      pid = pid;
      image = given_by (program_at c.programs p.image.number) p.image nothing;
      descriptors = p.descriptors;
      cwd = p.cwd;
      parent = Some p.pid;
      calls = 0;
      asking = None;
      killed = false;
      ending = None;
      waited = false;
      console = [];
    }

-- fork: the child's number; in the child 0. TooMany: the home made 200
abbrev pub forked : Description → Unix → Process → ℕ → Outcome
forked c u p pid = gives c (with_process (child_of c p pid) u) p pid

abbrev pub fork : Description → Unix → Process → Outcome
fork c u p =
    if nat_le 200 (births u.processes (home_of p.pid))
    then refuses c u p errno.TooMany
    else forked c u p (next_pid u.processes (home_of p.pid))

-- the program of that name
abbrev pub program_named : List ProgramLine → List ℕ → Option Program
program_named [] name = None
program_named (line ∷ lines) name = if same_text line.name name then Some line.program else program_named lines name

-- a process with a fresh image: nothing is put into it, and descriptors and cwd stay
abbrev pub restarted : Unix → Process → Program → ℕ → Outcome
restarted u p program arg = Answered nothing (with_process (record p { image = fresh_machine program arg; calls = p.calls + 1 }) u)

-- exec name len arg: a fresh image. NoEntry: no such program
abbrev pub exec_of : Description → Unix → Process → Option Program → ℕ → Outcome
exec_of c u p None arg = refuses c u p errno.NoEntry
exec_of c u p (Some program) arg = restarted u p program arg

abbrev pub exec : Description → Unix → Process → List ℕ → ℕ → Outcome
exec c u p name arg = exec_of c u p (program_named c.programs name) arg

-- whether a process is an unwaited child of that one
abbrev pub is_unwaited : ℕ → Process → Bool
is_unwaited pid child = unwrap_or (option_map (λ parent. parent == pid) child.parent) false && not child.waited

-- the unwaited children of a process, by ascending number
abbrev pub unwaited : Unix → Process → List Process
unwaited u p = filter (is_unwaited p.pid) u.processes

-- the ended processes among some
abbrev pub ended_ones : List Process → List Process
ended_ones ps = filter (λ (q : Process). is_some q.ending) ps

-- the status of an ended process: its exit code, 256 for a bad step, 257 for a death
abbrev pub status_of : Option Ending → ℕ
status_of None = 0
status_of (Some (ending.Exit code)) = code
status_of (Some ending.Bad) = 256
status_of (Some ending.Killed) = 257

-- wait: number and status of the ended unwaited child of least number. NoChild: none is unwaited. It waits where none of
-- them has ended
abbrev pub waits_for : Description → Unix → Process → List Process → List Process → Outcome
waits_for c u p [] ends = refuses c u p errno.NoChild
waits_for c u p (child ∷ children) [] = Waits
waits_for c u p (child ∷ children) (first ∷ rest) =
    replies c (with_process (record first { waited = true }) u) p (Value first.pid (status_of first.ending) [])

abbrev pub wait : Description → Unix → Process → Outcome
wait c u p = waits_for c u p (unwaited u p) (ended_ones (unwaited u p))

-- the state in which a kill of a process is pending
abbrev pub with_kill : Process → Unix → Unix
with_kill target u = with_process (record target { killed = true }) u

-- kill pid: a kill of that process is pending; it may be the caller. NoProcess: never born, or ended
abbrev pub kill_of : Description → Unix → Process → Option Process → Outcome
kill_of c u p None = refuses c u p errno.NoProcess
kill_of c u p (Some target) =
    if lives target
    then is_done c (with_kill target u) (if target.pid == p.pid then record p { killed = true } else p)
    else refuses c u p errno.NoProcess

abbrev pub kill : Description → Unix → Process → ℕ → Outcome
kill c u p pid = kill_of c u p (process_at u.processes pid)

-- whether a line is that of a client of the name
abbrev pub is_client : List ℕ → KernelLine → Bool
is_client name line = same_text line.name name && (length line.serves == 0)

-- whether a client kernel has the name
abbrev pub is_host : List KernelLine → List ℕ → Bool
is_host [] name = false
is_host (line ∷ lines) name = if is_client name line then true else is_host lines name

-- why a process can't move to the host of that name. BadHost: no client kernel; Busy: it holds a master stream
abbrev pub move_refusal : Description → Unix → Process → List ℕ → Option Errno
move_refusal c u p name =
    if not (is_host c.kernels name)
    then Some errno.BadHost
    else (if holds_a_master u p then Some errno.Busy else None)

-- migrate name len: nothing changes
abbrev pub migrate : Description → Unix → Process → List ℕ → Outcome
migrate c u p name = unless_refused c u p (move_refusal c u p name) (is_done c u p)

-- rexec name len host hlen: a fresh image with argument 0. NoEntry: no such program; BadHost; Busy
abbrev pub rexec_of : Description → Unix → Process → Option Program → List ℕ → Outcome
rexec_of c u p None name = refuses c u p errno.NoEntry
rexec_of c u p (Some program) name = unless_refused c u p (move_refusal c u p name) (restarted u p program 0)

abbrev pub rexec : Description → Unix → Process → List ℕ → List ℕ → Outcome
rexec c u p name host_name = rexec_of c u p (program_named c.programs name) host_name
