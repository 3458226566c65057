-- Calls and replies as processes have them and as packets carry them.
use Rattle.std.specs.Prelude.{ℕ, ◌/◌, ◌%◌, ◌==◌, nat_le, Bool, true, false, ◌&&◌, if◌then◌else◌, Option, Some, None}
use Rattle.sprite_ids.specs.declared.Errno.TheVariants as errnos
use Rattle.process_machine.specs.declared.Call.{Call}
use Rattle.process_machine.specs.declared.Call.TheVariants as calls
use Rattle.process_machine.specs.declared.Reply.{Reply}
use Rattle.process_machine.specs.declared.Reply.TheVariants.{Value, Error}
use Rattle.packet_bodies.specs.declared.HomeCall.{HomeCall}
use Rattle.packet_bodies.specs.declared.HomeCall.TheVariants as home_calls
use Rattle.packet_bodies.specs.declared.ReplyBody.{ReplyBody}
use Rattle.packet_bodies.specs.declared.ReplyBody.TheVariants as bodies
use Rattle.packet_bodies.specs.declared.ValueReply.{ValueReply}
use Rattle.home_table.specs.declared.WaitAnswer.{WaitAnswer}
use Rattle.home_table.specs.declared.WaitAnswer.TheVariants.{Child, NoChild, NotYet}
use Rattle.client_homes.specs.Says.{value}

-- whether a home and a birth are those of a process
abbrev pub are_parts : ℕ → ℕ → Bool
are_parts home birth = nat_le 1 home && nat_le home 16 && nat_le 1 birth && nat_le birth 200

-- the process of that number
abbrev pub pid_numbered : ℕ → Option ℕ
pid_numbered number = if are_parts (number / 1000) (number % 1000) then Some number else None

-- the reply as the answer to a remote call
abbrev pub packet_of : Reply → ReplyBody
packet_of (Value first second bytes) = bodies.Value (record { first = first; second = second; bytes = bytes })
packet_of (Error errno) = bodies.Refused errno

-- the answer to a remote call as a reply
abbrev pub value_of : ValueReply → Reply
value_of given = Value given.first given.second given.bytes

abbrev pub reply_of : ReplyBody → Reply
reply_of (bodies.Value given) = value_of given
reply_of (bodies.Refused errno) = Error errno
reply_of _ = value 0 0

-- the call as a process makes it: a bad step ends with 256
abbrev pub call_of : HomeCall → Call
call_of (home_calls.Print bytes) = calls.Print bytes
call_of (home_calls.Exit code) = if code == 256 then calls.BadStep else calls.Exit code
call_of home_calls.Getppid = calls.Getppid
call_of (home_calls.Host max) = calls.Host max
call_of home_calls.Tick = calls.Tick
call_of home_calls.Fork = calls.Fork
call_of home_calls.Wait = calls.Wait
call_of (home_calls.Kill pid) = calls.Kill pid

-- a kill of a looked-up process
abbrev pub kill_of : Option ℕ → Option HomeCall
kill_of (Some pid) = Some (home_calls.Kill pid)
kill_of None = None

-- the call as a home is asked for it
abbrev pub home_call_of : Call → Option HomeCall
home_call_of (calls.Print bytes) = Some (home_calls.Print bytes)
home_call_of (calls.Exit code) = Some (home_calls.Exit code)
home_call_of calls.BadStep = Some (home_calls.Exit 256)
home_call_of calls.Getppid = Some home_calls.Getppid
home_call_of (calls.Host max) = Some (home_calls.Host max)
home_call_of calls.Tick = Some home_calls.Tick
home_call_of calls.Fork = Some home_calls.Fork
home_call_of calls.Wait = Some home_calls.Wait
home_call_of (calls.Kill number) = kill_of (pid_numbered number)
home_call_of _ = None

-- a `wait` for living children, where a kill is pending or not
abbrev pub not_yet : Bool → Option Reply
not_yet true = Some (Error errnos.Interrupted)
not_yet false = None

-- what a `wait` replies
abbrev pub wait_told : WaitAnswer → Bool → Option Reply
wait_told (Child pid status) killed = Some (value pid status)
wait_told NoChild killed = Some (Error errnos.NoChild)
wait_told NotYet killed = not_yet killed
