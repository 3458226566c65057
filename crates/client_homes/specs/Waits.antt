-- Ends of processes at their home, and the `wait`s that are told of them.
use Rattle.std.specs.Prelude.{ℕ, [], ◌∷◌, ◌++◌, Option, Some, None}
use Rattle.sprite_ids.specs.declared.TxNo.{TxNo}
use Rattle.sprite_ids.specs.Lists.{less}
use Rattle.kernel_steps.specs.Rows.{is_under, first_under}
use Rattle.process_machine.specs.declared.Reply.{Reply}
use Rattle.packet_bodies.specs.declared.HomeCall.TheVariants as home_calls
use Rattle.packet_bodies.specs.declared.HomeRequest.{HomeRequest}
use Rattle.unix_calls.specs.declared.About.{About}
use Rattle.client_homes.specs.declared.client.Parked.{Parked}
use Rattle.client_homes.specs.declared.client.ClientProcs.{ClientProcs}
use Rattle.client_homes.specs.Says.{answers, enters}
use Rattle.client_homes.specs.Words.{call_of, packet_of, wait_told}
use Rattle.client_homes.specs.Procs.{is_pid, replies}
use Rattle.client_homes.specs.Homes.{is_killed, parent_in, told_to_wait, waited_at}
use Rattle.client_homes.specs.Killing.{forgets_waiting}

-- the process and the number of the call
abbrev pub about_of : HomeRequest → About
about_of request = record { pid = request.pid; number = request.number }

-- the call takes effect at this home, with that reply
abbrev pub enters_home : HomeRequest → Reply → ClientProcs → ClientProcs
enters_home request reply s = enters (about_of request) (call_of request.call) reply s

abbrev pub enters_if : HomeRequest → Option Reply → ClientProcs → ClientProcs
enters_if request (Some reply) s = enters_home request reply s
enters_if request None s = s

-- what a `wait` of the process replies; nothing yet where it is parked
abbrev pub wait_reply : ℕ → ClientProcs → Option Reply
wait_reply pid s = wait_told (told_to_wait pid s) (is_killed pid s)

abbrev pub waits : HomeRequest → ClientProcs → ClientProcs
waits request s = enters_if request (wait_reply request.pid s) (waited_at request.pid s)

-- the `wait` is parked
abbrev pub parks : ℕ → Parked → ClientProcs → ClientProcs
parks pid parked s = record s { waits = s.waits ++ (pid, parked) ∷ [] }

-- the parked `wait` has its reply
abbrev pub ends_wait : ℕ → Option TxNo → Reply → ClientProcs → ClientProcs
ends_wait pid (Some tx) reply s = answers tx (packet_of reply) s
ends_wait pid None reply s = replies pid reply s

abbrev pub ends_or_parks : ℕ → Parked → Option Reply → ClientProcs → ClientProcs
ends_or_parks pid parked (Some reply) s = ends_wait pid parked.tx reply s
ends_or_parks pid parked None s = parks pid parked s

-- the parked `wait` as a call
abbrev pub parked_call : ℕ → Parked → HomeRequest
parked_call pid parked = record { pid = pid; number = parked.number; call = home_calls.Wait }

abbrev pub looks_again : ℕ → Parked → ClientProcs → ClientProcs
looks_again pid parked s = ends_or_parks pid parked (wait_reply pid s) (waits (parked_call pid parked) s)

abbrev pub wakes_if : ℕ → Option Parked → ClientProcs → ClientProcs
wakes_if pid (Some parked) s = looks_again pid parked s
wakes_if pid None s = s

-- the parked `wait` of the process looks again, where it has one
abbrev pub wakes : ℕ → ClientProcs → ClientProcs
wakes pid s = wakes_if pid (first_under is_pid pid s.waits) (record s { waits = less (is_under is_pid pid) s.waits })

abbrev pub wakes_parent : Option ℕ → ClientProcs → ClientProcs
wakes_parent (Some parent) s = wakes parent s
wakes_parent None s = s

abbrev pub wakes_parent_of : ℕ → ClientProcs → ClientProcs
wakes_parent_of pid s = wakes_parent (parent_in pid s) s

-- what follows the end of the process: a kill of it that waits is forgotten, and its parent's parked `wait` looks again
abbrev pub wakes_after : ℕ → ClientProcs → ClientProcs
wakes_after pid s = wakes_parent_of pid (forgets_waiting pid s)
