-- What a call asks stays the same.
use Rattle.std.specs.Prelude.{◌≡◌, ℕ, ◌≤◌, List, Option, Some}
use Rattle.sprite_ids.specs.declared.TxNo.{TxNo}
use Rattle.kernel_rpc.specs.Bodies.{body_of}
use Rattle.kernel_rpc.specs.Histories.{reached}
use Rattle.kernel_rpc.specs.Machine.{Machine, call_of}
use Rattle.kernel_rpc.specs.Runs.{Act, Counts}
use Rattle.kernel_rpc.specs.Sound.{IsNumbered}

-- the request of the unfinished call of that number, as it is spelled
abbrev pub body_at : Machine → TxNo → Option (List ℕ)
body_at machine tx = body_of (call_of machine tx)

-- from one machine to another no call was begun anew: no fewer were begun, and one that was begun before and isn't finished has the
-- request that it had
pub record KeepsBodies (old new : Machine) : Type 0 where
  pub more : old.begun ≤ new.begun
  pub same : (tx : TxNo) (body : List ℕ) → tx.0 ≤ old.begun → body_at new tx ≡ Some body → body_at old tx ≡ Some body

-- from a machine whose calls are numbered in their order, all that calls of the wire come to is so
abbrev pub BodiesStay : Type 0
BodiesStay = (machine : Machine) (steps : List (Act × Counts)) → IsNumbered 0 machine.unfinished machine.begun → KeepsBodies machine (reached machine steps)
