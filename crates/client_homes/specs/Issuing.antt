-- Calls that are done at a home: of processes that are here, and of processes elsewhere, which ask.
use Rattle.std.specs.Prelude.{ℕ, ◌==◌, Bool, true, false, not, if◌then◌else◌, [], ◌∷◌, ◌++◌, Option, Some, None, option_map}
use Rattle.sprite_ids.specs.Pid.{home_of}
use Rattle.sprite_ids.specs.declared.TxNo.{TxNo}
use Rattle.sprite_ids.specs.declared.Errno.TheVariants.{NoProcess}
use Rattle.sprite_ids.specs.Lists.{less}
use Rattle.kernel_steps.specs.Rows.{is_under}
use Rattle.process_machine.specs.declared.Call.{Call}
use Rattle.process_machine.specs.declared.Reply.{Reply}
use Rattle.process_machine.specs.declared.Reply.TheVariants.{Value, Error}
use Rattle.packet_bodies.specs.declared.HomeCall.{HomeCall}
use Rattle.packet_bodies.specs.declared.HomeCall.TheVariants as home_calls
use Rattle.packet_bodies.specs.declared.HomeRequest.{HomeRequest}
use Rattle.packet_bodies.specs.declared.ReplyBody.{ReplyBody}
use Rattle.packet_bodies.specs.declared.Request.TheVariants as requests
use Rattle.client_homes.specs.declared.process.Proc.{Proc}
use Rattle.client_homes.specs.declared.process.ProcState.TheVariants as states
use Rattle.client_homes.specs.declared.client.Unfinished.TheVariants as unfinished
use Rattle.client_homes.specs.declared.client.ClientProcs.{ClientProcs}
use Rattle.client_homes.specs.Says.{answers, next_tx, sends, value}
use Rattle.client_homes.specs.Words.{home_call_of, packet_of, pid_numbered, reply_of}
use Rattle.client_homes.specs.Clusters.{is_client}
use Rattle.client_homes.specs.Procs.{answers_here, in_state, is_call, proc_at, replies}
use Rattle.client_homes.specs.Waits.{about_of, parks, wakes_after}
use Rattle.client_homes.specs.Ends.{ends, ends_by_death, keeps_tx}
use Rattle.client_homes.specs.Births.{forgets_early, makes_child}
use Rattle.client_homes.specs.Pages.{fetches_for_fork, page_away}
use Rattle.client_homes.specs.Calls.{does_at_home, home_reply}

-- the call that a process is in, as a home is asked for it
abbrev pub request_as : ℕ → ℕ → HomeCall → HomeRequest
request_as pid number call = record { pid = pid; number = number; call = call }

abbrev pub request_with : ℕ → ℕ → Call → Option HomeRequest
request_with pid number call = option_map (request_as pid number) (home_call_of call)

abbrev pub request_if : ℕ → ℕ → Option Call → Option HomeRequest
request_if pid number (Some call) = request_with pid number call
request_if pid number None = None

abbrev pub request_of : ℕ → Proc → Option HomeRequest
request_of pid proc = request_if pid proc.number proc.call

abbrev pub request_at : ℕ → Option Proc → Option HomeRequest
request_at pid (Some proc) = request_of pid proc
request_at pid None = None

abbrev pub own_request : ℕ → ClientProcs → Option HomeRequest
own_request pid s = request_at pid (proc_at pid s)

-- the kernel at which the call is done: of a `kill` the home of its argument
abbrev pub home_by : HomeCall → ℕ → ℕ
home_by (home_calls.Kill target) pid = home_of target
home_by _ pid = home_of pid

abbrev pub home_for : HomeRequest → ℕ
home_for request = home_by request.call request.pid

-- whether it is a `fork`
abbrev pub is_fork : HomeCall → Bool
is_fork home_calls.Fork = true
is_fork _ = false

-- whether it tells of a death
abbrev pub is_death : HomeCall → Bool
is_death (home_calls.Exit code) = code == 257
is_death _ = false

-- the page that is to be fetched before the call is done
abbrev pub page_for : HomeRequest → ClientProcs → Option ℕ
page_for request s = if is_fork request.call then page_away request.pid s else None

-- the child that a `fork` of that reply made
abbrev pub child_in : Reply → Option ℕ
child_in (Value first second bytes) = pid_numbered first
child_in (Error errno) = None

abbrev pub makes_if : ℕ → Option ℕ → ClientProcs → ClientProcs
makes_if pid (Some child) s = makes_child pid child s
makes_if pid None s = s

-- the child is here, and the `fork` is answered
abbrev pub brings_child : ℕ → Reply → ClientProcs → ClientProcs
brings_child pid reply s = replies pid reply (makes_if pid (child_in reply) s)

-- the call is done, with that reply
abbrev pub finishes_by : HomeCall → HomeRequest → Reply → ClientProcs → ClientProcs
finishes_by (home_calls.Exit code) request reply s = ends request.pid (Some (about_of request)) s
finishes_by home_calls.Fork request reply s = brings_child request.pid reply s
finishes_by _ request reply s = replies request.pid reply s

abbrev pub finishes : Reply → HomeRequest → ClientProcs → ClientProcs
finishes reply request s = finishes_by request.call request reply s

-- the process's own `wait` is parked
abbrev pub parks_here : HomeRequest → ClientProcs → ClientProcs
parks_here request s = parks request.pid (record { number = request.number; tx = None }) (in_state request.pid states.Waiting s)

abbrev pub finishes_or_parks : Option Reply → HomeRequest → ClientProcs → ClientProcs
finishes_or_parks (Some reply) request s = finishes reply request s
finishes_or_parks None request s = parks_here request s

-- the call is done here
abbrev pub does_here : HomeRequest → ClientProcs → ClientProcs
does_here request s = finishes_or_parks (home_reply request s) request (does_at_home request s)

-- a `fork` that a home is asked for
abbrev pub notes_fork : HomeCall → TxNo → ℕ → ClientProcs → ClientProcs
notes_fork call tx kernel s = if is_fork call then record s { forks = s.forks ++ (tx, kernel) ∷ [] } else s

-- another kernel is asked for the call
abbrev pub asks_home : ℕ → HomeRequest → ClientProcs → ClientProcs
asks_home kernel request s =
    notes_fork request.call (next_tx s) kernel (keeps_tx (next_tx s) (unfinished.Home request.pid) (in_state request.pid (states.AtHome (next_tx s)) (sends kernel (Some (about_of request)) (requests.Home request) s)))

abbrev pub goes_home : ℕ → HomeRequest → ClientProcs → ClientProcs
goes_home kernel request s = if kernel == s.home.home then does_here request s else asks_home kernel request s

abbrev pub fetches_or_goes : Option ℕ → HomeRequest → ClientProcs → ClientProcs
fetches_or_goes (Some page) request s = fetches_for_fork request.pid page s
fetches_or_goes None request s = goes_home (home_for request) request s

-- the call begins
abbrev pub begins_home : HomeRequest → ClientProcs → ClientProcs
begins_home request s =
    if not (is_client s.kernels (home_for request)) then answers_here request.pid (Error NoProcess) s
    else fetches_or_goes (page_for request s) request s

abbrev pub begins_if : ℕ → Option HomeRequest → ClientProcs → ClientProcs
begins_if pid (Some request) s = begins_home request s
begins_if pid None s = answers_here pid (Error NoProcess) s

-- the call that the process is in begins
abbrev pub issues_home : ℕ → ClientProcs → ClientProcs
issues_home pid s = begins_if pid (own_request pid s) s

-- another kernel has done the call that the process is in
abbrev pub finishes_if : Option HomeRequest → Reply → ClientProcs → ClientProcs
finishes_if (Some request) reply s = finishes reply request s
finishes_if None reply s = s

abbrev pub finishes_own : ℕ → Reply → ClientProcs → ClientProcs
finishes_own pid reply s = finishes_if (own_request pid s) reply s

abbrev pub forgets_fork : TxNo → ClientProcs → ClientProcs
forgets_fork tx s = record s { forks = less (is_under is_call tx) s.forks }

abbrev pub hears_home : TxNo → ℕ → ReplyBody → ClientProcs → ClientProcs
hears_home tx pid body s = forgets_early tx (finishes_own pid (reply_of body) (forgets_fork tx s))

-- a process of this home has died elsewhere
abbrev pub serves_death : TxNo → HomeRequest → ClientProcs → ClientProcs
serves_death tx request s = answers tx (packet_of (value 0 0)) (wakes_after request.pid (ends_by_death (about_of request) s))

abbrev pub answers_or_parks : TxNo → Option Reply → HomeRequest → ClientProcs → ClientProcs
answers_or_parks tx (Some reply) request s = answers tx (packet_of reply) s
answers_or_parks tx None request s = parks request.pid (record { number = request.number; tx = Some tx }) s

-- another kernel asks
abbrev pub serves_home : TxNo → HomeRequest → ClientProcs → ClientProcs
serves_home tx request s =
    if is_death request.call then serves_death tx request s else answers_or_parks tx (home_reply request s) request (does_at_home request s)
