-- Lists that stand in the order by which their items are looked up.
use Rattle.std.specs.Prelude.{◌≡◌, ◌<◌, ◌≤◌, ℕ, Bool, true, false, List, [], ◌∷◌, length, nat_lt, Some, slice_get, ◌+◌}
use Rattle.std.specs.List.{AllByRecursion}
use Rattle.unix_calls.specs.declared.state.Device.{Device}
use Rattle.unix_calls.specs.declared.state.File.{File}
use Rattle.unix_calls.specs.declared.state.FileName.{FileName}
use Rattle.unix_calls.specs.declared.state.FileName.TheVariants.{Boot, Made}
use Rattle.unix_calls.specs.declared.state.Stream.{Stream}

-- each item stands before all that follow
abbrev pub Ordered : {X : Type 0} → (X → X → Type 0) → List X → Type 0
Ordered R [] = Unit {0}
Ordered R (x ∷ xs) = AllByRecursion (R x) xs × Ordered R xs

-- they do where that is said of them
abbrev pub OrderedIf : {X : Type 0} → Bool → (X → X → Type 0) → List X → Type 0
OrderedIf true R xs = Ordered R xs
OrderedIf false R xs = Unit {0}

-- one more may stand behind them: the last stands before it
abbrev pub IsLast : {X : Type 0} → Bool → (X → X → Type 0) → List X → X → Type 0
IsLast {X} true R xs y = (n : ℕ) (x : X) → slice_get xs n ≡ Some x → n < length xs → length xs ≤ n + 1 → R x y
IsLast {X} false R xs y = Unit {0}

-- what is sought isn't before the one place, nor from the other on
pub record Outside {X : Type 0} (same : X → Bool) (xs : List X) (low high : ℕ) : Type 0 where
  pub before : (i : ℕ) (x : X) → i < low → slice_get xs i ≡ Some x → same x ≡ false
  pub behind : (i : ℕ) (x : X) → high ≤ i → slice_get xs i ≡ Some x → same x ≡ false

-- the order of streams: by the entries that made them
abbrev pub IsOlder : Stream → Stream → Type 0
IsOlder s t = s.place < t.place

-- the order of devices: by the entries that made them
abbrev pub IsEarlier : Device → Device → Type 0
IsEarlier d e = d.place < e.place

-- the order of files: those of the cluster file's lines, by line, and then those that entries made, by entry
abbrev pub is_before : FileName → FileName → Bool
is_before (Boot i) (Boot j) = nat_lt i j
is_before (Boot i) (Made j) = true
is_before (Made i) (Boot j) = false
is_before (Made i) (Made j) = nat_lt i j

abbrev pub Precedes : File → File → Type 0
Precedes f g = is_before f.name g.name ≡ true
