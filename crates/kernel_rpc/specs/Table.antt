-- What the table of calls stands for.
use Rattle.std.specs.Prelude.{◌≡◌, ℕ, ◌+◌, if◌then◌else◌, List, [], ◌∷◌, map}
use Rattle.std.specs.List.{AllByRecursion}
use Rattle.std.specs.List.Sorted.{IsNonDecreasingBy}
use Rattle.sprite_ids.specs.declared.TxNo.{TxNo}
use Rattle.kernel_rpc.specs.declared.call.Call.{Call}
use Rattle.kernel_rpc.specs.declared.call.PacketCopy.{PacketCopy}
use Rattle.kernel_rpc.specs.declared.table.CallTable.{CallTable}
use Rattle.kernel_rpc.specs.Machine.{Machine, is_of_call}
use Rattle.kernel_rpc.specs.Histories.{AreNumbersRising}
use Rattle.kernel_rpc.specs.Sound.{HasBegun, IsNumbered, Sound}

-- the machine that the table is
abbrev pub machine_of : CallTable → Machine
machine_of table = record { begun = table.begun; unfinished = table.unfinished.items; given_up = table.given_up.items; copies = table.copies.items; next_copy = table.next_copy }

-- the calls stand in the order of their numbers
abbrev pub Ascend : List Call → Type 0
Ascend calls = IsNonDecreasingBy (λ (call : Call). call.tx.0) calls

-- the copies stand in the order of their numbers
abbrev pub Rise : List PacketCopy → Type 0
Rise copies = IsNonDecreasingBy (λ (copy : PacketCopy). copy.number.0) copies

-- how many of the copies are of that call
abbrev pub flying_of : TxNo → List PacketCopy → ℕ
flying_of tx [] = 0
flying_of tx (copy ∷ rest) = if is_of_call tx copy then 1 + flying_of tx rest else flying_of tx rest

-- how many of the copies are of each call
abbrev pub counts_of : List PacketCopy → List Call → List ℕ
counts_of copies calls = map (λ (call : Call). flying_of call.tx copies) calls

-- what holds of the table: the calls' numbers ascend, the copies are of calls that were begun, the kept counts are those of the
-- copies in flight, and their numbers rise
pub record Stands (table : CallTable) : Type 0 where
  pub numbered : IsNumbered 0 table.unfinished.items table.begun
  pub begun : AllByRecursion (HasBegun table.begun) table.copies.items
  pub counted : table.flying.items ≡ counts_of table.copies.items table.unfinished.items
  pub rising : AreNumbersRising 1 table.copies.items table.next_copy

-- what holds of the table of a wire
pub record Kept (reads : List ℕ → Type 0) (faults : ℕ → ℕ → ℕ) (table : CallTable) : Type 0 where
  pub sound : Sound reads faults (machine_of table)
  pub counted : table.flying.items ≡ counts_of table.copies.items table.unfinished.items
  pub rising : AreNumbersRising 1 table.copies.items table.next_copy
