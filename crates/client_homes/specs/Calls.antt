-- The calls that are done at the home of their process, and `kill`, which is done at the home of its argument.
use Rattle.std.specs.Prelude.{ℕ, ◌+◌, ◌%◌, ◌==◌, nat_lt, Bool, not, if◌then◌else◌, List, Option, Some, None, length}
use Rattle.sprite_ids.specs.declared.Ending.{Ending}
use Rattle.sprite_ids.specs.declared.Ending.TheVariants.{Exit, Bad}
use Rattle.sprite_ids.specs.declared.Errno.TheVariants as errnos
use Rattle.process_machine.specs.declared.Reply.{Reply}
use Rattle.process_machine.specs.declared.Reply.TheVariants.{Value, Error}
use Rattle.packet_bodies.specs.declared.HomeCall.{HomeCall}
use Rattle.packet_bodies.specs.declared.HomeCall.TheVariants as home_calls
use Rattle.packet_bodies.specs.declared.HomeRequest.{HomeRequest}
use Rattle.client_homes.specs.declared.client.ClientProcs.{ClientProcs}
use Rattle.client_homes.specs.Says.{value}
use Rattle.client_homes.specs.Clusters.{name_of}
use Rattle.client_homes.specs.Homes.{bears, born_pid, ends_at, is_killed, kills_at, lives_at, parent_in, ticks}
use Rattle.client_homes.specs.Waits.{about_of, enters_home, wait_reply, waits, wakes_after}
use Rattle.client_homes.specs.Kills.{tells_kill}

-- how a process ended that ended with that code
abbrev pub ending_of : ℕ → Ending
ending_of code = if code == 256 then Bad else Exit (code % 256)

-- the call takes effect: its process has ended
abbrev pub ends_by_exit : HomeRequest → ℕ → ClientProcs → ClientProcs
ends_by_exit request code s = ends_at request.pid (ending_of code) (enters_home request (value 0 0) s)

-- and then its parent's parked `wait` looks again
abbrev pub exits : HomeRequest → ℕ → ClientProcs → ClientProcs
exits request code s = wakes_after request.pid (ends_by_exit request code s)

-- the number of a looked-up process, 0 where there is none
abbrev pub number_or_zero : Option ℕ → ℕ
number_or_zero (Some pid) = pid
number_or_zero None = 0

-- what `getppid` replies
abbrev pub parent_reply : ℕ → ClientProcs → Reply
parent_reply pid s = value (number_or_zero (parent_in pid s)) 0

-- what `host` replies
abbrev pub host_told : List ℕ → ℕ → Reply
host_told name max = if nat_lt max (length name) then Error errnos.Invalid else Value (length name) 0 name

abbrev pub host_reply : ℕ → ClientProcs → Reply
host_reply max s = host_told (name_of s.kernels s.kernel) max

-- what `tick` replies
abbrev pub tick_reply : ClientProcs → Reply
tick_reply s = value (s.home.ticks + 1) 0

abbrev pub ticks_for : HomeRequest → ClientProcs → ClientProcs
ticks_for request s = enters_home request (tick_reply s) (ticks s)

-- what `fork` replies
abbrev pub born_reply : Option ℕ → Reply
born_reply (Some pid) = value pid 0
born_reply None = Error errnos.TooMany

abbrev pub forks : HomeRequest → ClientProcs → ClientProcs
forks request s = enters_home request (born_reply (born_pid request.pid s)) (bears request.pid s)

-- what `kill` replies
abbrev pub kill_reply : ℕ → ClientProcs → Reply
kill_reply target s = if lives_at target s then value 0 0 else Error errnos.NoProcess

-- the first kill is told
abbrev pub tells_first : Bool → HomeRequest → ℕ → ClientProcs → ClientProcs
tells_first again request target s = if not again then tells_kill (about_of request) target s else s

abbrev pub kills : HomeRequest → ℕ → ClientProcs → ClientProcs
kills request target s =
    if lives_at target s then tells_first (is_killed target s) request target (enters_home request (value 0 0) (kills_at target s))
    else enters_home request (Error errnos.NoProcess) (kills_at target s)

-- what the call replies; nothing yet where a `wait` is parked
abbrev pub reply_by : HomeCall → ℕ → ClientProcs → Option Reply
reply_by (home_calls.Print bytes) pid s = Some (value 0 0)
reply_by (home_calls.Exit code) pid s = Some (value 0 0)
reply_by home_calls.Getppid pid s = Some (parent_reply pid s)
reply_by (home_calls.Host max) pid s = Some (host_reply max s)
reply_by home_calls.Tick pid s = Some (tick_reply s)
reply_by home_calls.Fork pid s = Some (born_reply (born_pid pid s))
reply_by home_calls.Wait pid s = wait_reply pid s
reply_by (home_calls.Kill target) pid s = Some (kill_reply target s)

abbrev pub home_reply : HomeRequest → ClientProcs → Option Reply
home_reply request s = reply_by request.call request.pid s

-- the call is done
abbrev pub does_by : HomeCall → HomeRequest → ClientProcs → ClientProcs
does_by (home_calls.Print bytes) request s = enters_home request (value 0 0) s
does_by (home_calls.Exit code) request s = exits request code s
does_by home_calls.Getppid request s = enters_home request (parent_reply request.pid s) s
does_by (home_calls.Host max) request s = enters_home request (host_reply max s) s
does_by home_calls.Tick request s = ticks_for request s
does_by home_calls.Fork request s = forks request s
does_by home_calls.Wait request s = waits request s
does_by (home_calls.Kill target) request s = kills request target s

abbrev pub does_at_home : HomeRequest → ClientProcs → ClientProcs
does_at_home request s = does_by request.call request s
