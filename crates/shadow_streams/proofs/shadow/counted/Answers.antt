use Rattle.std.proofs.Common.{◌≤◌, ◌+◌, ℕ, ap, sym, subst, ◌∙◌, replicate}
use Rattle.std.specs.List.{AllByRecursion}
use Rattle.shadow_streams.specs.Shadows.{raised}
use Rattle.shadow_streams.proofs.ShadowLaws.{counted_next, raised_within}
use Rattle.shadow_streams.proofs.shadow.counted.Goals as goal

pub loop-kernel-preserved : goal.loop-kernel-preserved
loop-kernel-preserved c = record {
  counted = c.raise.ensures ∙ ap (raised c.kernel-item.result) c.loop-kernel.invariant.counted ∙ sym (counted_next (λ grants kernel. raised kernel grants) (replicate 16 0) c.args.kernels.now c.loop-kernel.kernel-index c.kernel-item.result c.loop-kernel-test.true c.kernel-item.is);
  few = subst (AllByRecursion (λ (count : ℕ). count ≤ c.loop-kernel.kernel-index + 1)) (sym c.raise.ensures) (raised_within c.loop-kernel.kernel-index c.kernel-item.result c.loop-kernel.grants c.loop-kernel.invariant.few);
}
