-- What the calls of a value that goes on by steps keep of it, and what they add.
use Rattle.std.specs.Prelude.{◌≡◌, ℕ, ◌<◌, ◌≤◌, ◌≢◌, ◌⊎◌, Bool, true, List, [], ◌++◌, length, Some, slice_get}
use Rattle.sprite_ids.specs.declared.Finish.{Finish}
use Rattle.sprite_ids.specs.declared.Finish.TheVariants.{Running}
use Rattle.kernel_threads.specs.declared.acts.Act.{Act}
use Rattle.kernel_threads.specs.declared.acts.Act.TheVariants.{Began}
use Rattle.turn_gate.specs.Rule.{items_of}
use Rattle.turn_gate.specs.Steps.{Grows}

-- the value has its origin, its log and what is always true of it
pub record Stays {V O I : Type 0} (origin : V → O) (log : V → List (ℕ × I)) (holds : V → Type 0) (old now : V) : Type 0 where
  pub origin_stays : origin now ≡ origin old
  pub log_stays : log now ≡ log old
  pub still_holds : holds now

-- and isn't running any more
pub record Closes {V O I : Type 0} (origin : V → O) (log : V → List (ℕ × I)) (holds : V → Type 0) (finish_of : V → Finish) (old now : V) : Type 0 where
  pub stays : Stays origin log holds old now
  pub over : finish_of now ≢ Running

-- the log has at least one item more, and only items of that kernel
pub record Adds {V O I : Type 0} (origin : V → O) (log : V → List (ℕ × I)) (holds : V → Type 0) (kernel : ℕ) (old now : V) : Type 0 where
  pub origin_stays : origin now ≡ origin old
  pub grows : Grows kernel (log old) (log now)
  pub longer : length (log old) < length (log now)
  pub still_holds : holds now

-- the item is one of the list
abbrev pub IsAmong : {A : Type 0} → A → List A → Type 0
IsAmong x xs = (i : ℕ) × (slice_get xs i ≡ Some x)

-- one of the first kernels has a choice or a burst
abbrev pub MayMove : {C : Type 0} → (ℕ → List C) → (ℕ → Bool) → ℕ → Type 0
MayMove choices_at has_job_at kernels = (k : ℕ) × (1 ≤ k) × (k ≤ kernels) × ((choices_at k ≢ []) ⊎ (has_job_at k ≡ true))

-- the log has grown by items of the first kernels alone
abbrev pub GrowsUpTo : {I : Type 0} → ℕ → List (ℕ × I) → List (ℕ × I) → Type 0
GrowsUpTo kernels old now = (added : _) × (now ≡ old ++ added) × ((n : ℕ) → (n ≡ 0) ⊎ (kernels < n) → items_of n added ≡ [])

-- a run of so many kernels: the value has its origin and what is always true of it, and its log has grown by their items alone
pub record Ran {V O I : Type 0} (origin : V → O) (log : V → List (ℕ × I)) (holds : V → Type 0) (kernels : ℕ) (old now : V) : Type 0 where
  pub origin_stays : origin now ≡ origin old
  pub grows : GrowsUpTo kernels (log old) (log now)
  pub still_holds : holds now

-- what a kernel's turn does: it may add items of that kernel
pub record Acts {V O I : Type 0} (origin : V → O) (log : V → List (ℕ × I)) (holds : V → Type 0) (kernel : ℕ) (old now : V) : Type 0 where
  pub origin_stays : origin now ≡ origin old
  pub grows : Grows kernel (log old) (log now)
  pub still_holds : holds now

-- where a turn came to a job, each burst that is this job done may end
abbrev pub BeganOf : {J B : Type 0} → (J → B → Type 0) → (B → Type 0) → Act J → Type 0
BeganOf is_done may_end (Began job) = (b : _) → is_done job b → may_end b
BeganOf is_done may_end other = Unit {0}
