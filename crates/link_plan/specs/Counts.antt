-- What a link counts, for each pair of kernels.
use Rattle.std.specs.Prelude.{◌≡◌, ℕ, ◌+◌, ◌-◌, ◌^◌, ◌<◌, ◌≤◌, ◌==◌, Bool, true, false, ◌&&◌, ◌||◌, List, [], ◌∷◌, min}
use Rattle.link_plan.specs.declared.plan.Fate.{Fate}
use Rattle.link_plan.specs.declared.plan.Fate.TheVariants.{Once, Lost, Twice, Late}

-- one more, or as before at u64::MAX
abbrev pub raised : ℕ → ℕ
raised count = min (count + 1) (2 ^ 64 - 1)

-- whether the two are the same pair of kernels, in either order
abbrev pub same_pair : ℕ → ℕ → ℕ → ℕ → Bool
same_pair a b from to = ((a == from) && (b == to)) || ((a == to) && (b == from))

-- whether a packet of that fate met a fault
abbrev pub is_fault : Fate → Bool
is_fault Once = false
is_fault Lost = true
is_fault Twice = true
is_fault Late = true

-- a fate other than Once has its cause: the count of faults rose
abbrev pub HasCause : Fate → ℕ → ℕ → Type 0
HasCause Once old new = old ≤ new
HasCause Lost old new = old < new
HasCause Twice old new = old < new
HasCause Late old new = old < new

-- no count changes
pub record Stay (faults asked faults_after asked_after : ℕ → ℕ → ℕ) : Type 0 where
  pub faults_stay : (a b : ℕ) → faults_after a b ≡ faults a b
  pub asked_stay : (a b : ℕ) → asked_after a b ≡ asked a b

-- the link was asked about one packet from one kernel to another, and answered that fate
pub record IsAsked (faults asked faults_after asked_after : ℕ → ℕ → ℕ) (from to : ℕ) (fate : Fate) : Type 0 where
  pub once : (a b : ℕ) → same_pair a b from to ≡ true → asked_after a b ≡ raised (asked a b)
  pub cause : (a b : ℕ) → same_pair a b from to ≡ true → HasCause fate (faults a b) (faults_after a b)
  pub never_fall : (a b : ℕ) → faults a b ≤ faults_after a b
  pub other_faults : (a b : ℕ) → (1 ≤ a) × (a ≤ 16) → (1 ≤ b) × (b ≤ 16) → same_pair a b from to ≡ false → faults_after a b ≡ faults a b
  pub other_asked : (a b : ℕ) → (1 ≤ a) × (a ≤ 16) → (1 ≤ b) × (b ≤ 16) → same_pair a b from to ≡ false → asked_after a b ≡ asked a b

-- the link was asked about packets from one kernel, one after the other: each to its receiver, with the fate that it got
abbrev pub Asks : {L : Type 0} → (L → ℕ → ℕ → ℕ) → (L → ℕ → ℕ → ℕ) → ℕ → L → L → List (ℕ × Fate) → Type 0
Asks faults asked from before after [] = before ≡ after
Asks {L} faults asked from before after (sent ∷ rest) = (between : L) × IsAsked (faults before) (asked before) (faults between) (asked between) from sent.0 sent.1 × Asks faults asked from between after rest
