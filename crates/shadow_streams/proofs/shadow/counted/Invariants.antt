use Rattle.std.proofs.Common.{◌≡◌, ◌≤◌, ℕ, take}
use Rattle.std.specs.List.{AllByRecursion}
use Rattle.shadow_streams.specs.Shadows.{counted}
use Rattle.shadow_streams.proofs.shadow.counted.Given as goal

abbrev pub invariant-loop-kernel : goal.invariant-loop-kernel
invariant-loop-kernel l = record {
  counted : l.grants ≡ counted (take l.kernel-index l.kernels);
  few : AllByRecursion (λ (count : ℕ). count ≤ l.kernel-index) l.grants;
}
