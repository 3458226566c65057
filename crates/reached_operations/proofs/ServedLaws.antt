-- What operations ask of servers is asked of kernels that serve domains.
use Rattle.std.proofs.Common.{arith, ◌≡◌, ℕ, zero, suc, ◌-◌, ◌==◌, Bool, true, false, ◌||◌, not, List, [], ◌∷◌, length, slice_get, Option, Some, None, refl, ap, ◌∙◌}
use Rattle.sprite_paths.specs.declared.Path.{Path}
use Rattle.sprite_paths.proofs.PathLaws.{parts_decide}
use Rattle.packet_bodies.specs.declared.Request.{Request}
use Rattle.packet_bodies.specs.declared.Request.TheVariants as requests
use Rattle.unix_calls.specs.declared.Description.{Description}
use Rattle.unix_calls.specs.declared.KernelLine.{KernelLine}
use Rattle.unix_calls.specs.Domains.{begins_domain}
use Rattle.unix_calls.specs.Lawful.{holds}
use Rattle.server_kernel.specs.Boot.{serves_in, serves_of}
use Rattle.client_file_tables.specs.declared.pending.Pending.{Pending}
use Rattle.client_file_tables.specs.declared.pending.Pending.TheVariants as operations
use Rattle.client_file_tables.specs.declared.states.DataState.{DataState}
use Rattle.client_file_tables.specs.declared.states.DataState.TheVariants as states
use Rattle.client_file_tables.specs.declared.states.MoveState.{MoveState}
use Rattle.client_file_tables.specs.declared.states.MoveState.TheVariants as moves
use Rattle.broadcast_laws.specs.Broadcasts.{Parts}
use Rattle.cluster_steps.specs.Receivers.{is_for_servers, is_receiver, takes_such}
use Rattle.operation_calls.specs.Requests.{data_sends, move_sends, sends_so}
use Rattle.reached_domains.specs.Domains.{serves}

-- ---- a server of the description

-- the kernel of that number serves a domain of the description
pub record IsServer (c : Description) (kernel : ℕ) : Type 0 where
  pub path : Parts
  pub served : serves c kernel path ≡ true

first_there : (path : Path) (paths : List Path) → begins_domain (path ∷ paths) path ≡ true
first_there path paths = ap (λ b. b || begins_domain paths path) ((parts_decide path path).1 refl)

some_path : (paths : List Path) (c : Description) (kernel : ℕ) → serves_of c.kernels kernel ≡ paths → not (length paths == 0) ≡ true → IsServer c kernel
some_path [] c kernel is e = absurd (cc)
some_path (path ∷ paths) c kernel is e = record { path = path; served = ap (λ (all : List Path). begins_domain all path) is ∙ first_there path paths }

pub server_by : (c : Description) (kernel : ℕ) → is_receiver c true kernel ≡ true → IsServer c kernel
server_by c zero e = absurd (cc)
server_by c (suc place) e = by (slice_get c.kernels place) refl e
  where
    same_place : suc place - 1 ≡ place
    same_place = omega arith

    by : (o : Option KernelLine) → slice_get c.kernels place ≡ o → holds (takes_such true) o ≡ true → IsServer c (suc place)
    by None is e = absurd (cc)
    by (Some line) is e = some_path line.serves c (suc place) (ap (λ (n : ℕ). serves_in (slice_get c.kernels n)) same_place ∙ ap serves_in is) e

-- ---- what an operation sends that a server does is for servers

-- whether an operation waits for what a server does for it: an operation on a file's data that is done there, or a stream's move
abbrev pub is_at_server : DataState → Bool
is_at_server (states.AtServer tx) = true
is_at_server state = false

abbrev pub is_served : Pending → Bool
is_served (operations.Data call) = is_at_server call.state
is_served (operations.Move work) = true
is_served operation = false

data_for : (state : DataState) (request : Request) → is_at_server state ≡ true → data_sends state request ≡ true → is_for_servers request ≡ true
data_for (states.AtServer tx) (requests.Op r) at e = refl
data_for (states.AtServer tx) request at e = absurd (cc)
data_for state request at e = absurd (cc)

pub move_for : (state : MoveState) (request : Request) → move_sends state request ≡ true → is_for_servers request ≡ true
move_for (moves.MovingOut tx kept place) (requests.Move r) e = refl
move_for (moves.MovingOut tx kept place) request e = absurd (cc)
move_for moves.WaitLock request e = absurd (cc)

pub served_for : (operation : Pending) (request : Request) → is_served operation ≡ true → sends_so operation request ≡ true → is_for_servers request ≡ true
served_for (operations.Data call) request served e = data_for call.state request served e
served_for (operations.Move work) request served e = move_for work.state request e
served_for (operations.Name call) request served e = absurd (cc)
served_for (operations.Sync call) request served e = absurd (cc)
served_for (operations.Close work) request served e = absurd (cc)
