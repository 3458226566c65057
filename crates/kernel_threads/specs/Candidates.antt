-- What may happen next.
use Rattle.std.specs.Prelude.{◌≡◌, ℕ, zero, suc, ◌+◌, ◌<◌, ◌≤◌, ◌%◌, Bool, true, false, List, [], ◌∷◌, ◌++◌, map, length, Option, Some, None, slice_get}
use Rattle.kernel_threads.specs.declared.candidates.Candidate.{Candidate}
use Rattle.kernel_threads.specs.Steps.{IsAmong}

-- a choice of the kernel
abbrev pub choice_candidate : {C : Type 0} → ℕ → C → Candidate C
choice_candidate kernel choice = record { kernel = kernel; choice = Some choice }

-- the burst of the kernel, where it has one
abbrev pub burst_candidate : {C : Type 0} → ℕ → Bool → List (Candidate C)
burst_candidate kernel true = record { kernel = kernel; choice = None } ∷ []
burst_candidate kernel false = []

-- the choices of the kernel, and then its burst
abbrev pub candidates_at : {C : Type 0} → ℕ → List C → Bool → List (Candidate C)
candidates_at kernel choices has_job = map (λ c. choice_candidate kernel c) choices ++ burst_candidate kernel has_job

-- those of the first kernels, by ascending kernels
abbrev pub candidates_of : {C : Type 0} → (ℕ → List C) → (ℕ → Bool) → ℕ → List (Candidate C)
candidates_of choices_at has_job_at zero = []
candidates_of choices_at has_job_at (suc n) = candidates_of choices_at has_job_at n ++ candidates_at (suc n) (choices_at (suc n)) (has_job_at (suc n))

-- a list begins with how many they are at each of the first kernels
pub record Counts {C : Type 0} (choices_at : ℕ → List C) (has_job_at : ℕ → Bool) (kernels : ℕ) (counts : List ℕ) : Type 0 where
  pub each : (k : ℕ) → k < kernels → slice_get counts k ≡ Some (length (candidates_at (k + 1) (choices_at (k + 1)) (has_job_at (k + 1))))

-- the candidate that a word draws from a list
abbrev pub drawn : {C : Type 0} → ℕ → List (Candidate C) → Option (Candidate C)
drawn word candidates = slice_get candidates (word % length candidates)

-- the choice is one of these, or there is none and a process can run
abbrev pub IsOf : {C : Type 0} → List C → Bool → Option C → Type 0
IsOf choices has_job (Some choice) = IsAmong choice choices
IsOf choices has_job None = has_job ≡ true

-- the candidate may happen at one of the first kernels
pub record Fits {C : Type 0} (choices_at : ℕ → List C) (has_job_at : ℕ → Bool) (kernels : ℕ) (candidate : Candidate C) : Type 0 where
  pub low : 1 ≤ candidate.kernel
  pub high : candidate.kernel ≤ kernels
  pub is_of : IsOf (choices_at candidate.kernel) (has_job_at candidate.kernel) candidate.choice
