use Rattle.std.proofs.Common.{◌≡◌, List, ℕ, map, fold, Bor}
use Rattle.sprite_paths.specs.Path.{step_into}
use Rattle.sprite_paths.proofs.path.walk.Given as goal

abbrev pub invariant-loop-part : goal.invariant-loop-part
invariant-loop-part l = l.parts ≡ fold step_into l.fn.parts (map (λ (part : Bor (List ℕ)). part.now) l.yielded)
