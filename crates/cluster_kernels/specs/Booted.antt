-- How a cluster begins.
use Rattle.std.specs.Prelude.{◌≡◌, ℕ, ◌+◌, List, [], ◌∷◌, ◌++◌, Some, length, replicate}
use Rattle.unix_calls.specs.declared.Description.{Description}
use Rattle.unix_calls.specs.declared.KernelLine.{KernelLine}
use Rattle.client_procs.specs.Boot as client
use Rattle.server_kernel.specs.Boot as server
use Rattle.sprite_paths.specs.declared.Path.{Path}
use Rattle.cluster_kernels.specs.declared.kernel_state.KernelState.{KernelState}
use Rattle.cluster_kernels.specs.declared.kernel_state.KernelState.TheVariants as kernels
use Rattle.cluster_kernels.specs.declared.state.State.{State}

-- a kernel that serves such domains, as it begins: a client where they are none, else a file server
abbrev pub IsKernel : Description → ℕ → List Path → KernelState → Type 0
IsKernel c kernel [] state = state ≡ kernels.Client (client.boots c kernel)
IsKernel c kernel (path ∷ paths) (kernels.Server made) = server.boots c kernel ≡ Some made
IsKernel c kernel (path ∷ paths) (kernels.Client made) = ⊥

-- the kernels of such lines, the first of which is that one, as they begin
abbrev pub AreKernels : Description → ℕ → List KernelLine → List KernelState → Type 0
AreKernels c kernel [] [] = Unit {0}
AreKernels c kernel (line ∷ lines) (state ∷ states) = IsKernel c kernel line.serves state × AreKernels c (kernel + 1) lines states
AreKernels c kernel _ _ = ⊥

-- such kernels came to a list
pub record MoreKernels (c : Description) (kernel : ℕ) (lines : List KernelLine) (old new : List KernelState) : Type 0 where
  pub more : List KernelState
  pub grown : new ≡ old ++ more
  pub are : AreKernels c kernel lines more

-- the cluster of a description as it begins: each kernel as it begins, and nothing was done
pub record IsBooted (c : Description) (s : State) : Type 0 where
  pub kernels_are : AreKernels c 1 c.kernels s.kernels
  pub no_steps : s.steps ≡ replicate (length c.kernels) 0
  pub nobody_ran : s.last ≡ replicate (length c.kernels) 0
  pub none_out : s.out ≡ []
  pub nothing_told : s.told ≡ []
