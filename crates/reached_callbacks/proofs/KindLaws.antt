-- Which kernels of a reached cluster are clients: those of the description that serve no domain.
use Rattle.std.proofs.Common.{◌≡◌, ℕ, zero, suc, ◌+◌, ◌-◌, ◌==◌, Bool, true, false, not, List, [], ◌∷◌, length, slice_get, slice_set, Option, Some, None, refl, sym, ap, subst, ◌∙◌}
use Rattle.sprite_ids.specs.declared.TxNo.{TxNo}
use Rattle.sprite_ids.proofs.ListLaws.{some_is}
use Rattle.sprite_paths.specs.declared.Path.{Path}
use Rattle.process_machine.specs.Machine as processes
use Rattle.kernel_rpc.specs.Sound.{Wired}
use Rattle.kernel_rpc.proofs.CountLaws.{not_zero}
use Rattle.kernel_steps.specs.declared.Input.{Input}
use Rattle.unix_calls.specs.declared.Description.{Description}
use Rattle.unix_calls.specs.declared.KernelLine.{KernelLine}
use Rattle.client_homes.specs.declared.ClientProcs.{ClientProcs}
use Rattle.client_homes.specs.Clusters.{serves_none}
use Rattle.cluster_wire.specs.declared.Said.{Said}
use Rattle.cluster_kernels.specs.declared.KernelState.{KernelState}
use Rattle.cluster_kernels.specs.declared.KernelState.TheVariants as kernels
use Rattle.cluster_kernels.specs.declared.State.{State}
use Rattle.cluster_kernels.specs.Booted.{AreKernels, IsKernel}
use Rattle.cluster_kernels.specs.Kernels.{image_put, kernel_step}
use Rattle.cluster_kernels.specs.States.{count_at, image_put_at, kernel_at, put_image, stepped_by}
use Rattle.cluster_steps.specs.Steps.{TakesSo}

abbrev pub is_client_state : KernelState → Bool
is_client_state (kernels.Client client) = true
is_client_state (kernels.Server server) = false

-- whether a looked-up kernel serves a domain
abbrev pub serves_some : Option KernelLine → Bool
serves_some (Some line) = not (length line.serves == 0)
serves_some None = false

-- each kernel is what its line says
abbrev pub AreKinds : List KernelLine → List KernelState → Type 0
AreKinds [] [] = Unit {0}
AreKinds (line ∷ lines) (state ∷ states) = (is_client_state state ≡ serves_none (Some line)) × AreKinds lines states
AreKinds _ _ = ⊥

abbrev pub KindsAre : Description → State → Type 0
KindsAre c s = AreKinds c.kernels s.kernels

-- as the cluster begins
kind_begun : (c : Description) (kernel : ℕ) (serves : List Path) (state : KernelState) → IsKernel c kernel serves state → is_client_state state ≡ (length serves == 0)
kind_begun c kernel [] state e = ap is_client_state e
kind_begun c kernel (path ∷ paths) (kernels.Server made) e = sym (not_zero (length (path ∷ paths)) (λ none. absurd (cc)))
kind_begun c kernel (path ∷ paths) (kernels.Client made) e = absurd e

pub kinds_begun : (c : Description) (kernel : ℕ) (lines : List KernelLine) (states : List KernelState) → AreKernels c kernel lines states → AreKinds lines states
kinds_begun c kernel [] [] e = tt
kinds_begun c kernel (line ∷ lines) (state ∷ states) e = (kind_begun c kernel line.serves state e.0, kinds_begun c (kernel + 1) lines states e.1)
kinds_begun c kernel [] (state ∷ states) e = absurd e
kinds_begun c kernel (line ∷ lines) [] e = absurd e

-- a kernel stays what it is
kinds_set : (lines : List KernelLine) (states : List KernelState) (i : ℕ) (found new : KernelState) → slice_get states i ≡ Some found → is_client_state new ≡ is_client_state found → AreKinds lines states → AreKinds lines (slice_set states i new)
kinds_set [] [] i found new e same h = tt
kinds_set (line ∷ lines) (state ∷ states) zero found new e same h = (same ∙ (ap is_client_state (sym (some_is state found e)) ∙ h.0), h.1)
kinds_set (line ∷ lines) (state ∷ states) (suc i) found new e same h = (h.0, kinds_set lines states i found new e same h.1)
kinds_set [] (state ∷ states) i found new e same h = absurd h
kinds_set (line ∷ lines) [] i found new e same h = absurd h

kind_stepped : (found : KernelState) (input : Input) (next : TxNo) (step : ℕ) → is_client_state (kernel_step found input next step).0 ≡ is_client_state found
kind_stepped (kernels.Client client) input next step = refl
kind_stepped (kernels.Server server) input next step = refl

kind_image : (found : KernelState) (pid : ℕ) (image : processes.Machine) → is_client_state (image_put pid image found) ≡ is_client_state found
kind_image (kernels.Client client) pid image = refl
kind_image (kernels.Server server) pid image = refl

module _ (c : Description) (kernel : ℕ) where
  kinds_stepped : (o : Option KernelState) (input : Input) (next : TxNo) (s : State) → kernel_at kernel s ≡ o → KindsAre c s → KindsAre c (stepped_by kernel o input next s).0
  kinds_stepped None input next s e h = h
  kinds_stepped (Some found) input next s e h =
      kinds_set c.kernels s.kernels (kernel - 1) found (kernel_step found input next (count_at s.steps kernel)).0 e (kind_stepped found input next (count_at s.steps kernel)) h

  pub kinds_took : {L : Type 0} (faults asked : L → ℕ → ℕ → ℕ) (input : Input) (said : Said) (old new : Wired L) (s t : State) → TakesSo faults asked c kernel input said old new s t → KindsAre c s → KindsAre c t
  kinds_took {L} faults asked input said old new s t so h = subst (λ (states : List KernelState). AreKinds c.kernels states) (sym (ap (λ (u : State). u.kernels) so.state)) (kinds_stepped (kernel_at kernel s) input said.next s refl h)

  images_by : (o : Option KernelState) (pid : ℕ) (image : processes.Machine) (s : State) → kernel_at kernel s ≡ o → KindsAre c s → KindsAre c (image_put_at kernel pid image o s)
  images_by None pid image s e h = h
  images_by (Some found) pid image s e h = kinds_set c.kernels s.kernels (kernel - 1) found (image_put pid image found) e (kind_image found pid image) h

  pub kinds_image : (pid : ℕ) (image : processes.Machine) (s : State) → KindsAre c s → KindsAre c (put_image kernel pid image s)
  kinds_image pid image s h = images_by (kernel_at kernel s) pid image s refl h

-- a client of the description is one
pub client_there : (lines : List KernelLine) (states : List KernelState) (i : ℕ) → AreKinds lines states → serves_none (slice_get lines i) ≡ true → (client : ClientProcs) × (slice_get states i ≡ Some (kernels.Client client))
client_there [] [] i h e = absurd (cc)
client_there (line ∷ lines) (kernels.Client client ∷ states) zero h e = (client, refl)
client_there (line ∷ lines) (kernels.Server server ∷ states) zero h e = let off : false ≡ true = h.0 ∙ e in absurd (cc)
client_there (line ∷ lines) (state ∷ states) (suc i) h e = client_there lines states i h.1 e
client_there [] (state ∷ states) i h e = absurd h
client_there (line ∷ lines) [] i h e = absurd h

-- and what is there serves domains or is one
pub kind_there : (lines : List KernelLine) (states : List KernelState) (i : ℕ) (state : KernelState) → AreKinds lines states → slice_get states i ≡ Some state → serves_some (slice_get lines i) ≡ false → serves_none (slice_get lines i) ≡ true
kind_there [] [] i state h e off = absurd (cc)
kind_there (line ∷ lines) (first ∷ states) zero state h e off = by (length line.serves == 0) off
  where
    by : (b : Bool) → not b ≡ false → b ≡ true
    by true k = refl
    by false k = absurd (cc)
kind_there (line ∷ lines) (first ∷ states) (suc i) state h e off = kind_there lines states i state h.1 e off
kind_there [] (first ∷ states) i state h e off = absurd h
kind_there (line ∷ lines) [] i state h e off = absurd h

pub kind_is : (lines : List KernelLine) (states : List KernelState) (i : ℕ) (state : KernelState) → AreKinds lines states → slice_get states i ≡ Some state → is_client_state state ≡ serves_none (slice_get lines i)
kind_is [] [] i state h e = absurd (cc)
kind_is (line ∷ lines) (first ∷ states) zero state h e = ap is_client_state (sym (some_is first state e)) ∙ h.0
kind_is (line ∷ lines) (first ∷ states) (suc i) state h e = kind_is lines states i state h.1 e
kind_is [] (first ∷ states) i state h e = absurd h
kind_is (line ∷ lines) [] i state h e = absurd h
