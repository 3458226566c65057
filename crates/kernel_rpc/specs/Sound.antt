-- What holds of the wire between its calls.
use Rattle.std.specs.Prelude.{◌≡◌, ℕ, ◌+◌, ◌<◌, ◌≤◌, ◌==◌, Bool, false, ◌&&◌, ◌||◌, List, [], ◌∷◌, Option, Some, None, is_some}
use Rattle.std.specs.List.{AllByRecursion, list_any}
use Rattle.kernel_rpc.specs.declared.call.Part.{Part}
use Rattle.kernel_rpc.specs.declared.call.Part.TheVariants.{Waiting, Holding, Answered}
use Rattle.kernel_rpc.specs.declared.call.Call.{Call}
use Rattle.kernel_rpc.specs.declared.call.PacketCopy.{PacketCopy}
use Rattle.kernel_rpc.specs.Machine.{Machine, holds, is_of_call, part_of}

-- the link of a wire, and its machine
pub record Wired (L : Type 0) : Type 0 where
  pub link : L
  pub machine : Machine

-- the calls' numbers ascend, past the first number and up to the last
abbrev pub IsNumbered : ℕ → List Call → ℕ → Type 0
IsNumbered first [] last = first ≤ last
IsNumbered first (call ∷ rest) last = (first < call.tx.0) × IsNumbered call.tx.0 rest last

-- whether the copy is one of the call's reply
abbrev pub is_reply_of : Call → PacketCopy → Bool
is_reply_of call copy = is_of_call call.tx copy && copy.reply

-- whether the copy brings the call on when it comes: it is one of the reply, or of the request to the owner
abbrev pub brings_on : Call → PacketCopy → Bool
brings_on call copy = is_of_call call.tx copy && (copy.reply || (copy.to == call.owner))

-- the owner has answered exactly where there is a reply, and it isn't silent
abbrev pub OwnerStands : Option Part → Option (List ℕ) → Type 0
OwnerStands (Some Waiting) None = Unit {0}
OwnerStands (Some Holding) None = Unit {0}
OwnerStands (Some Answered) (Some reply) = Unit {0}
OwnerStands _ _ = ⊥

-- where there are bytes, they are those of a message
abbrev pub IsReadable : (List ℕ → Type 0) → Option (List ℕ) → Type 0
IsReadable reads None = Unit {0}
IsReadable reads (Some bytes) = reads bytes

-- what holds of one unfinished call, by the fault counts of the link and the copies in flight: its messages can be read; the
-- owner stands as the reply says; a reply is in flight only where there is one; each lost try had its fault; and where neither a
-- copy nor the owner can bring the call on, this try has its fault too
pub record IsSound (reads : List ℕ → Type 0) (faults : ℕ → ℕ → ℕ) (copies : List PacketCopy) (call : Call) : Type 0 where
  pub body : reads call.body
  pub reply : IsReadable reads call.reply
  pub stands : OwnerStands (part_of call.owner call.receivers) call.reply
  pub replies : is_some call.reply ≡ false → list_any (is_reply_of call) copies ≡ false
  pub lost : call.before + call.lost ≤ faults call.from call.owner
  pub moves : list_any (brings_on call) copies ≡ false → holds (part_of call.owner call.receivers) ≡ false → call.before + call.lost + 1 ≤ faults call.from call.owner

-- whether the copy is one of a call that was begun
abbrev pub HasBegun : ℕ → PacketCopy → Type 0
HasBegun begun copy = copy.tx.0 ≤ begun

-- what holds of the machine
pub record Sound (reads : List ℕ → Type 0) (faults : ℕ → ℕ → ℕ) (machine : Machine) : Type 0 where
  pub numbered : IsNumbered 0 machine.unfinished machine.begun
  pub flying : AllByRecursion (HasBegun machine.begun) machine.copies
  pub calls : AllByRecursion (IsSound reads faults machine.copies) machine.unfinished
