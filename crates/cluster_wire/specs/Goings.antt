-- Which remote calls go out, and to whom.
use Rattle.std.specs.Prelude.{ℕ, ◌+◌, ◌==◌, Bool, true, false, ◌&&◌, not, if◌then◌else◌, List, [], ◌∷◌, nat_lt, Option, Some, None, IsSome}
use Rattle.std.specs.List.{list_any}
use Rattle.sprite_ids.specs.declared.TxNo.{TxNo}
use Rattle.sprite_ids.specs.declared.Tries.{Tries}
use Rattle.sprite_ids.specs.declared.Tries.TheVariants.{Eight}
use Rattle.kernel_rpc.specs.Machine.{Machine}
use Rattle.kernel_steps.specs.declared.Sending.{Sending}
use Rattle.packet_bodies.specs.declared.Body.TheVariants as bodies
use Rattle.packet_bodies.specs.declared.Request.{Request}
use Rattle.packet_bodies.specs.declared.Request.TheVariants as requests
use Rattle.unix_calls.specs.declared.Description.{Description}
use Rattle.unix_calls.specs.Domains.{domain_of, roots_of, server_of}
use Rattle.wire_format.specs.declared.Packet.{Packet}

-- the number of the next remote call
abbrev pub next_of : Machine → TxNo
next_of machine = record { 0 = machine.begun + 1 }

-- the server of the longest domain of a path
abbrev pub server_in : Description → List (List ℕ) → ℕ
server_in c path = server_of c.kernels (domain_of (roots_of c.kernels) path)

-- the server that is to answer, where the request asks for the server of a prefix
abbrev pub owner_of : Description → Request → Option ℕ
owner_of c (requests.Prefix path) = Some (server_in c path)
owner_of c body = None

-- the first kernel of a list, where that isn't the one that calls
abbrev pub other_than : ℕ → List ℕ → Option ℕ
other_than kernel [] = None
other_than kernel (first ∷ rest) = if first == kernel then None else Some first

-- whether no kernel of a list stands twice
abbrev pub are_apart : List ℕ → Bool
are_apart [] = true
are_apart (first ∷ rest) = not (list_any (λ other. other == first) rest) && are_apart rest

-- whether a broadcast may go to these servers: the one that is to answer is among them, the caller isn't, and no one stands twice
abbrev pub may_go_to : List ℕ → ℕ → ℕ → Bool
may_go_to servers from owner = list_any (λ server. server == owner) servers && not (list_any (λ server. server == from) servers) && are_apart servers

-- the lesser of two kernels
abbrev pub lesser : ℕ → ℕ → ℕ
lesser kernel least = if nat_lt kernel least then kernel else least

-- the least of some kernels and of that one
abbrev pub least_of : List ℕ → ℕ → ℕ
least_of [] least = least
least_of (kernel ∷ kernels) least = least_of kernels (lesser kernel least)

-- a remote call that goes out: to these servers, in this order; the one that its packet names, and the one that is to answer; how often
-- it is tried; and what is asked
pub record Going : Type 0 where
  pub servers : List ℕ
  pub to : ℕ
  pub owner : ℕ
  pub tries : Tries
  pub body : Request

-- the call of a looked-up kernel
abbrev pub call_to : Option ℕ → Sending → Option Going
call_to None sending = None
call_to (Some to) sending = Some (record { servers = to ∷ []; to = to; owner = to; tries = sending.tries; body = sending.body })

-- the broadcast that one server is to answer, where it may go
abbrev pub broadcast_to : Bool → ℕ → Sending → Option Going
broadcast_to false owner sending = None
broadcast_to true owner sending = Some (record { servers = sending.to; to = least_of sending.to owner; owner = owner; tries = Eight; body = sending.body })

-- how a call of the kernel goes out, by the server that is to answer a broadcast
abbrev pub goes_by : Option ℕ → ℕ → Sending → Option Going
goes_by None kernel sending = call_to (other_than kernel sending.to) sending
goes_by (Some owner) kernel sending = broadcast_to (may_go_to sending.to kernel owner) owner sending

-- how a call of the kernel goes out: the broadcast of a prefix to all that may serve it, any other call to the first kernel of its list.
-- None where it doesn't: no kernel calls itself, or no one, and a broadcast goes only where it may
abbrev pub goes : Description → ℕ → Sending → Option Going
goes c kernel sending = goes_by (owner_of c sending.body) kernel sending

-- all of these calls of the kernel go out
abbrev pub AllGo : Description → ℕ → List Sending → Type 0
AllGo c kernel [] = Unit {0}
AllGo c kernel (sending ∷ sendings) = IsSome (goes c kernel sending) × AllGo c kernel sendings

-- the packet of a call of the kernel that goes out with that number
abbrev pub packet_to : ℕ → TxNo → Going → Packet
packet_to kernel tx going = record { from = kernel; to = going.to; tx = tx; body = bodies.Request going.body }
