-- What a run with a seed does: each word of a generator that the seed makes draws what happens next.
use Rattle.std.specs.Prelude.{◌≡◌, ℕ, zero, suc, Bool, List, Some}
use Rattle.rand_core.specs.Pcg32Seed.{pcg32_seed}
use Rattle.rand_pcg.specs.Lcg.{Lcg}
use Rattle.rand_pcg.specs.Pcg.{pcg32, pcg32_of_seed}
use Rattle.kernel_threads.specs.declared.candidates.Candidate.{Candidate}
use Rattle.kernel_threads.specs.Steps.{Stays, Adds}
use Rattle.kernel_threads.specs.Candidates.{drawn, candidates_of}

-- the generator that the seed makes
abbrev pub made_by : ℕ → Lcg
made_by seed = pcg32_of_seed (pcg32_seed 16 seed)

-- a generator after so many words
abbrev pub after : ℕ → Lcg → Lcg
after zero words = words
after (suc n) words = (pcg32 (after n words)).1

-- its word behind so many
abbrev pub word_behind : ℕ → Lcg → ℕ
word_behind n words = (pcg32 (after n words)).0

-- of all that may happen next that happened which the word draws
pub record Drew {V O I C : Type 0} (origin : V → O) (log : V → List (ℕ × I)) (holds : V → Type 0) (choices_at : V → ℕ → List C) (has_job_at : V → ℕ → Bool) (kernels word : ℕ) (old now : V) : Type 0 where
  pub candidate : Candidate C
  pub is_drawn : drawn word (candidates_of (choices_at old) (has_job_at old) kernels) ≡ Some candidate
  pub adds : Adds origin log holds candidate.kernel old now

-- so many candidates happened, drawn by the words in their order
abbrev pub Draws : {V O I C : Type 0} → (V → O) → (V → List (ℕ × I)) → (V → Type 0) → (V → ℕ → List C) → (V → ℕ → Bool) → ℕ → Lcg → ℕ → V → V → Type 0
Draws origin log holds choices_at has_job_at kernels words zero old now = now ≡ old
Draws origin log holds choices_at has_job_at kernels words (suc n) old now =
    (before : _) × Draws origin log holds choices_at has_job_at kernels words n old before × Drew origin log holds choices_at has_job_at kernels (word_behind n words) before now

-- a run with the seed: some that are drawn, and then one more call or two that added nothing, at the end
pub record Seeded {V O I C : Type 0} (origin : V → O) (log : V → List (ℕ × I)) (holds : V → Type 0) (choices_at : V → ℕ → List C) (has_job_at : V → ℕ → Bool) (kernels seed : ℕ) (old now : V) : Type 0 where
  pub count : ℕ
  pub last : V
  pub draws : Draws origin log holds choices_at has_job_at kernels (made_by seed) count old last
  pub stays : Stays origin log holds last now
