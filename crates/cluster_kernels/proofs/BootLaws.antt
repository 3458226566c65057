-- Kernels come to a list, one after the other.
use Rattle.std.proofs.Common.{◌≡◌, ℕ, ◌+◌, List, [], ◌∷◌, ◌++◌, sym, ap, subst, ◌∙◌, append-nil, append_assoc}
use Rattle.unix_calls.specs.declared.Description.{Description}
use Rattle.unix_calls.specs.declared.KernelLine.{KernelLine}
use Rattle.cluster_kernels.specs.declared.kernel_state.KernelState.{KernelState}
use Rattle.cluster_kernels.specs.Booted.{AreKernels, MoreKernels}

-- none of them
pub none_booted : (c : Description) (kernel : ℕ) (old new : List KernelState) → new ≡ old → MoreKernels c kernel [] old new
none_booted c kernel old new same = record { more = []; grown = same ∙ sym (append-nil old); are = tt }

-- one, and then the others
pub one_booted : (c : Description) (kernel : ℕ) (line : KernelLine) (lines : List KernelLine) (old between new : List KernelState) → MoreKernels c kernel (line ∷ []) old between → MoreKernels c (kernel + 1) lines between new → MoreKernels c kernel (line ∷ lines) old new
one_booted c kernel line lines old between new one rest = by_first one.more one.are one.grown
  where
    by_first : (first : List KernelState) → AreKernels c kernel (line ∷ []) first → between ≡ old ++ first → MoreKernels c kernel (line ∷ lines) old new
    by_first [] are is = absurd are
    by_first (state ∷ []) are is = record { more = state ∷ rest.more; grown = rest.grown ∙ ap (λ front. front ++ rest.more) is ∙ append_assoc old (state ∷ []) rest.more; are = (are.0, rest.are) }
    by_first (state ∷ other ∷ states) are is = absurd are.1

-- all of them
pub all_booted : (c : Description) (lines : List KernelLine) (none new : List KernelState) → none ≡ [] → MoreKernels c 1 lines none new → AreKernels c 1 lines new
all_booted c lines none new empty made = subst (AreKernels c 1 lines) (sym (made.grown ∙ ap (λ old. old ++ made.more) empty)) made.are
