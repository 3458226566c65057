use Rattle.std.proofs.Common.{◌≡◌, ℕ, suc, ◌+◌, ◌∷◌, ◌++◌, [], List, ap, ap₂, ◌∙◌, arith}
use Rattle.file_views.specs.Contents.{numbers_from}
use Rattle.file_coherence.proofs.ListLaws.{numbers_more}
use Rattle.file_coherence.proofs.contents.numbers_from.Goals as goal

pub loop-done-preserved : goal.loop-done-preserved
loop-done-preserved c =
    let more : suc c.loop-done._done ≡ c.loop-done._done + 1 = omega arith in
    let numbers : c.append.new.self ≡ numbers_from c.args.first (c.loop-done._done + 1) =
    c.in_ok-append.ensures.ok
    ∙ (ap₂ (λ (ns : List ℕ) (n : ℕ). ns ++ n ∷ []) c.loop-done.invariant.0 c.loop-done.invariant.1
    ∙ (numbers_more c.args.first c.loop-done._done ∙ ap (λ (k : ℕ). numbers_from c.args.first k) more)) in
    (numbers, omega (arith, c.in_ok-number.ensures, c.loop-done.invariant.1))
