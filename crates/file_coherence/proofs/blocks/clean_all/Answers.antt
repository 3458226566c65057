use Rattle.std.proofs.Common.{◌≡◌, ◌<◌, ℕ, suc, ◌+◌, ◌++◌, [], List, length, map, take, drop, set, get_or, None, ap, ◌∙◌, arith}
use Rattle.file_views.specs.declared.Held.{Held}
use Rattle.file_views.specs.Clients.{cleaned}
use Rattle.file_coherence.proofs.ListLaws.{mapped_more}
use Rattle.file_coherence.proofs.blocks.clean_all.Goals as goal

pub loop-at-preserved : goal.loop-at-preserved
loop-at-preserved c =
    let some : Held = record { block = record { 0 = 0 }; bytes = []; dirty = None } in
    let more : suc c.loop-at.at ≡ c.loop-at.at + 1 = omega arith in
    let less : c.loop-at.at < length c.args.blocks.now = omega (arith, c.loop-at-test.true, c.len-at-end.ensures) in
    c.clean_at.ensures some
    ∙ (ap (λ (xs : List Held). set xs c.loop-at.at (cleaned (get_or xs c.loop-at.at some))) c.loop-at.invariant
    ∙ (mapped_more cleaned c.args.blocks.now c.loop-at.at some less
    ∙ ap (λ (k : ℕ). map cleaned (take k c.args.blocks.now) ++ drop k c.args.blocks.now) more))
