-- Why a client's kernel may call a server unreachable; no reply that it makes of itself does.
use Rattle.std.proofs.Common.{◌≡◌, ℕ, nat_lt, Bool, true, false, cond, Option, Some, None, length, refl, subst}
use Rattle.sprite_ids.specs.declared.Errno.{Errno}
use Rattle.sprite_ids.specs.declared.TxNo.{TxNo}
use Rattle.sprite_ids.proofs.ListLaws.{some_is}
use Rattle.kernel_steps.specs.declared.Input.{Input}
use Rattle.kernel_steps.specs.declared.Input.TheVariants.{GaveUp, Issued}
use Rattle.process_machine.specs.declared.Call.TheVariants as calls
use Rattle.process_machine.specs.declared.Reply.{Reply}
use Rattle.packet_bodies.specs.declared.HomeCall.{HomeCall}
use Rattle.packet_bodies.specs.declared.HomeCall.TheVariants as home_calls
use Rattle.home_table.specs.declared.WaitAnswer.{WaitAnswer}
use Rattle.home_table.specs.declared.WaitAnswer.TheVariants as waits
use Rattle.call_journal.specs.Calls.{error_in, is_unreachable_error}
use Rattle.client_homes.specs.declared.client.ClientProcs.{ClientProcs}
use Rattle.client_homes.specs.Calls as calling
use Rattle.client_homes.specs.Clusters.{name_of}
use Rattle.client_homes.specs.Homes as homes
use Rattle.client_homes.specs.Words.{wait_told}

-- why a reply or an entry calls a server unreachable, where that input came: it doesn't; a process came to a call that is refused so; or a
-- remote call is given up
pub data Caused (came : Input) (calls_so : Bool) : Type 0 where
  NotSo : calls_so ≡ false → Caused came calls_so
  Refused : (pid number : ℕ) (why : Errno) → came ≡ Issued pid number (calls.Refused why) → calls_so ≡ is_unreachable_error (Some why) → Caused came calls_so
  GivenUp : (tx : TxNo) → came ≡ GaveUp tx → Caused came calls_so

-- whether the reply calls a server unreachable
abbrev pub calls_unreachable : Reply → Bool
calls_unreachable reply = is_unreachable_error (error_in (Some reply))

-- it doesn't
abbrev pub Safe : Reply → Type 0
Safe reply = calls_unreachable reply ≡ false

one_of : (b : Bool) (x y : Reply) → Safe x → Safe y → Safe (cond b x y)
one_of true x y h k = h
one_of false x y h k = k

is_safe : (x y : Reply) → Safe x → Some x ≡ Some y → Safe y
is_safe x y h e = subst Safe (some_is x y e) h

pub host_safe : (max : ℕ) (s : ClientProcs) → Safe (calling.host_reply max s)
host_safe max s = one_of (nat_lt max (length (name_of s.kernels s.kernel))) _ _ refl refl

pub born_safe : (o : Option ℕ) → Safe (calling.born_reply o)
born_safe (Some pid) = refl
born_safe None = refl

pub wait_safe : (answer : WaitAnswer) (killed : Bool) (reply : Reply) → wait_told answer killed ≡ Some reply → Safe reply
wait_safe (waits.Child pid status) killed reply e = is_safe _ reply refl e
wait_safe waits.NoChild killed reply e = is_safe _ reply refl e
wait_safe waits.NotYet true reply e = is_safe _ reply refl e
wait_safe waits.NotYet false reply e = absurd (cc)

kill_safe : (target : ℕ) (s : ClientProcs) → Safe (calling.kill_reply target s)
kill_safe target s = one_of (homes.lives_at target s) _ _ refl refl

-- what a call replies that is done at its home
pub home_safe : (call : HomeCall) (pid : ℕ) (s : ClientProcs) (reply : Reply) → calling.reply_by call pid s ≡ Some reply → Safe reply
home_safe (home_calls.Print bytes) pid s reply e = is_safe _ reply refl e
home_safe (home_calls.Exit code) pid s reply e = is_safe _ reply refl e
home_safe home_calls.Getppid pid s reply e = is_safe _ reply refl e
home_safe (home_calls.Host max) pid s reply e = is_safe _ reply (host_safe max s) e
home_safe home_calls.Tick pid s reply e = is_safe _ reply refl e
home_safe home_calls.Fork pid s reply e = is_safe _ reply (born_safe (homes.born_pid pid s)) e
home_safe home_calls.Wait pid s reply e = wait_safe (homes.told_to_wait pid s) (homes.is_killed pid s) reply e
home_safe (home_calls.Kill target) pid s reply e = is_safe _ reply (kill_safe target s) e
