-- What a client's kernel takes of other kernels' requests it answers in the step or keeps.
use Rattle.std.specs.Prelude.{◌≡◌, ◌⊎◌, ℕ, ◌+◌, ◌≤◌, Bool, true, false, not, if◌then◌else◌, Option, Some, None}
use Rattle.sprite_ids.specs.Lists.{one_if}
use Rattle.sprite_ids.specs.declared.TxNo.{TxNo}
use Rattle.kernel_steps.specs.Outs.{started}
use Rattle.kernel_steps.specs.declared.Input.{Input}
use Rattle.kernel_steps.specs.declared.Input.TheVariants as inputs
use Rattle.kernel_steps.specs.declared.writer.Out.{Out}
use Rattle.kernel_steps.specs.Rows.{first_under}
use Rattle.process_machine.specs.Machine.{Machine}
use Rattle.process_machine.specs.declared.Reply.{Reply}
use Rattle.packet_bodies.specs.declared.AskRequest.{AskRequest}
use Rattle.packet_bodies.specs.declared.HomeCall.{HomeCall}
use Rattle.packet_bodies.specs.declared.HomeCall.TheVariants as home_calls
use Rattle.packet_bodies.specs.declared.Request.{Request}
use Rattle.packet_bodies.specs.declared.Request.TheVariants as requests
use Rattle.unix_calls.specs.declared.Description.{Description}
use Rattle.client_homes.specs.declared.client.ClientProcs.{ClientProcs}
use Rattle.client_homes.specs.Procs.{is_call}
use Rattle.client_homes.specs.Waits.{wait_reply}
use Rattle.client_devices.specs.Asking.{about_ask, is_about}
use Rattle.client_devices.specs.Asks.{carried_ask}
use Rattle.client_devices.specs.Tables.{is_alive_at}
use Rattle.client_procs.specs.Arriving.{is_new}
use Rattle.client_procs.specs.Boot.{boots}
use Rattle.client_procs.specs.Readers.{with_image}
use Rattle.client_procs.specs.Steps.{begins_step, client_step, ends_step, takes}
use Rattle.client_procs.specs.Turning.{is_quiet}
use Rattle.client_facts.specs.Places.{IsNew}
use Rattle.client_requests.specs.Kept.{IsAnswered, IsAskKept, IsKept, IsWaitKept, answers_in, asks_kept, kept, waits_kept}

-- ---- what comes

-- whether each client takes a request, whatever it knows: it goes to clients, and brings no process
abbrev pub is_always_taken : Request → Bool
is_always_taken (requests.Callback request) = true
is_always_taken (requests.Home request) = true
is_always_taken (requests.Place pid kernel) = true
is_always_taken (requests.Killed pid) = true
is_always_taken (requests.Ask request) = true
is_always_taken body = false

-- whether a client leaves a request alone: it is one for servers, or it brings a process that this kernel knows already
abbrev pub is_left : Request → ClientProcs → Bool
is_left (requests.Transfer request) s = not (is_new request.pid s)
is_left (requests.Launch request) s = not (is_new request.pid s)
is_left body s = not (is_always_taken body)

-- one where a request comes as that remote call: any that isn't left alone, a `wait` for a home, an ask for a device
abbrev pub taken_in : TxNo → Input → ClientProcs → ℕ
taken_in tx (inputs.Request asker source body) s = if is_left body s then 0 else one_if (is_call asker tx)
taken_in tx _ s = 0

abbrev pub is_wait : HomeCall → Bool
is_wait home_calls.Wait = true
is_wait _ = false

abbrev pub asks_wait : Request → Bool
asks_wait (requests.Home request) = is_wait request.call
asks_wait _ = false

abbrev pub asks_device : Request → Bool
asks_device (requests.Ask request) = true
asks_device _ = false

abbrev pub wait_in : TxNo → Input → ℕ
wait_in tx (inputs.Request asker source body) = if asks_wait body then one_if (is_call asker tx) else 0
wait_in tx _ = 0

abbrev pub ask_in : TxNo → Input → ℕ
ask_in tx (inputs.Request asker source body) = if asks_device body then one_if (is_call asker tx) else 0
ask_in tx _ = 0

-- ---- a step, whatever comes

-- a remote call that was kept before is kept still, or the step answers it, and so is what it takes; and nothing else is ever kept, nor any
-- of these twice
pub record TakesSo (tx : TxNo) (s : ClientProcs) (input : Input) (after : ClientProcs × Out) : Type 0 where
  pub none_lost : kept tx s + taken_in tx input s ≤ kept tx after.0 + answers_in tx after.1
  pub waits : waits_kept tx after.0 ≤ waits_kept tx s + wait_in tx input
  pub asks : asks_kept tx after.0 ≤ asks_kept tx s + ask_in tx input

abbrev pub StepsTakeSo : Type 0
StepsTakeSo = (s : ClientProcs) (input : Input) (next : TxNo) (step : ℕ) (tx : TxNo) → TakesSo tx s input (client_step s input next step)

-- so what was kept is kept still, or answered
abbrev pub KeptOrAnswered : Type 0
KeptOrAnswered = (s : ClientProcs) (input : Input) (next : TxNo) (step : ℕ) (tx : TxNo) → IsKept tx s → IsKept tx (client_step s input next step).0 ⊎ IsAnswered tx (client_step s input next step).1

-- and what is kept was kept before, or has come just now
abbrev pub NothingElseIsKept : Type 0
NothingElseIsKept = (s : ClientProcs) (input : Input) (next : TxNo) (step : ℕ) (tx : TxNo) → IsKept tx (client_step s input next step).0 → IsKept tx s ⊎ (1 ≤ wait_in tx input + ask_in tx input)

-- ---- a request that comes, by cases

-- a `wait` is answered at once where the home has an answer; else it is parked, and kept so unless this very step wakes it
abbrev pub WaitTaken : TxNo → Option Reply → ClientProcs → Out → Type 0
WaitTaken tx (Some reply) after out = IsAnswered tx out
WaitTaken tx None after out = IsAnswered tx out ⊎ IsWaitKept tx after

-- any other call is answered at once
abbrev pub CallTaken : TxNo → HomeCall → ℕ → ClientProcs → ClientProcs → Out → Type 0
CallTaken tx home_calls.Wait pid s after out = WaitTaken tx (wait_reply pid s) after out
CallTaken tx call pid s after out = IsAnswered tx out

-- an ask is answered at once where the device has no master, and no other ask of the same call is kept; in any case it is answered or kept,
-- be it in the master's hand or waiting
pub record AskTaken (tx : TxNo) (request : AskRequest) (s after : ClientProcs) (out : Out) : Type 0 where
  pub dead : is_alive_at request.device.number s ≡ false → first_under is_about (about_ask (carried_ask request)) s.asked ≡ None → IsAnswered tx out
  pub any : IsAnswered tx out ⊎ IsAskKept tx after

-- a process is taken in and the request answered where the kernel doesn't know it; where it does, nothing answers the request
abbrev pub TakenSo : TxNo → Request → ClientProcs → ClientProcs → Out → Type 0
TakenSo tx (requests.Callback request) s after out = IsAnswered tx out
TakenSo tx (requests.Home request) s after out = CallTaken tx request.call request.pid s after out
TakenSo tx (requests.Transfer request) s after out = is_new request.pid s ≡ true → IsAnswered tx out
TakenSo tx (requests.Launch request) s after out = is_new request.pid s ≡ true → IsAnswered tx out
TakenSo tx (requests.Place pid kernel) s after out = IsAnswered tx out
TakenSo tx (requests.Killed pid) s after out = IsAnswered tx out
TakenSo tx (requests.Ask request) s after out = AskTaken tx request s after out
TakenSo tx _ s after out = Unit {0}

abbrev pub RequestsAreTaken : Type 0
RequestsAreTaken = (s : ClientProcs) (tx : TxNo) (source : ℕ) (body : Request) (next : TxNo) (step : ℕ)
    → TakenSo tx body s (client_step s (inputs.Request tx source body) next step).0 (client_step s (inputs.Request tx source body) next step).1

-- with a request that is left alone nothing is done; so where nothing is left over from before, the step says nothing
pub record LeftAlone (s : ClientProcs) (tx : TxNo) (source : ℕ) (body : Request) : Type 0 where
  pub same : takes (inputs.Request tx source body) s ≡ s
  pub quiet : (next : TxNo) (step : ℕ) → is_quiet (begins_step next step s) ≡ true → client_step s (inputs.Request tx source body) next step ≡ (ends_step (begins_step next step s), started next)

abbrev pub OthersAreLeft : Type 0
OthersAreLeft = (s : ClientProcs) (tx : TxNo) (source : ℕ) (body : Request) → is_left body s ≡ true → LeftAlone s tx source body

-- a process that is neither here nor leaves is taken in
abbrev pub NewAreTaken : Type 0
NewAreTaken = (pid : ℕ) (s : ClientProcs) → IsNew pid s → is_new pid s ≡ true

-- ---- between steps

-- a client begins with nothing kept
abbrev pub BeginsWithNone : Type 0
BeginsWithNone = (d : Description) (kernel : ℕ) (tx : TxNo) → kept tx (boots d kernel) ≡ 0

-- and what a process does between two calls changes nothing of it
pub record KeepsTheSame (tx : TxNo) (s after : ClientProcs) : Type 0 where
  pub waits : waits_kept tx after ≡ waits_kept tx s
  pub asks : asks_kept tx after ≡ asks_kept tx s

abbrev pub ImagesKeepThem : Type 0
ImagesKeepThem = (tx : TxNo) (s : ClientProcs) (pid : ℕ) (image : Machine) → KeepsTheSame tx s (with_image pid image s)
