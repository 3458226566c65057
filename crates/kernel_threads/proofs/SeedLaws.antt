-- Runs with a seed, draw by draw.
use Rattle.std.proofs.Common.{◌≡◌, ℕ, suc, Bool, List, ap, ◌∙◌, subst}
use Rattle.rand_pcg.specs.Lcg.{Lcg}
use Rattle.rand_pcg.specs.Pcg.{pcg32}
use Rattle.kernel_threads.specs.Seeds.{Drew, Draws, after, made_by, word_behind}

-- one more, drawn by the next word
pub draws_on : {V O I C : Type 0} (origin : V → O) (log : V → List (ℕ × I)) (holds : V → Type 0) (choices_at : V → ℕ → List C) (has_job_at : V → ℕ → Bool) (kernels seed n : ℕ) (start v u w : V) (words next : Lcg) (word : ℕ)
    → words ≡ after n (made_by seed) → Draws origin log holds choices_at has_job_at kernels (made_by seed) n start v → u ≡ v → (word, next) ≡ pcg32 words → Drew origin log holds choices_at has_job_at kernels word u w
    → (m : ℕ) × (next ≡ after m (made_by seed)) × Draws origin log holds choices_at has_job_at kernels (made_by seed) m start w
draws_on {V} origin log holds choices_at has_job_at kernels seed n start v u w words next word is draws same drew drew_it =
    let its : word ≡ word_behind n (made_by seed) = ap (λ z. z.0) drew ∙ ap (λ g. (pcg32 g).0) is in
    let behind : next ≡ after (suc n) (made_by seed) = ap (λ z. z.1) drew ∙ ap (λ g. (pcg32 g).1) is in
    let at : Drew origin log holds choices_at has_job_at kernels word v w = subst (λ (x : V). Drew origin log holds choices_at has_job_at kernels word x w) same drew_it in (
      suc n,
      behind,
      (v, draws, subst (λ (k : ℕ). Drew origin log holds choices_at has_job_at kernels k v w) its at),
    )
