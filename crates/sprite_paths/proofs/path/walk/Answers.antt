-- At the end of the loop every part was gone through.
use Rattle.std.proofs.Common.{rules, tests, ap, ◌∙◌, fold}
use Rattle.std.proofs.lemmas.Iterator.Consumers.{YieldsList-at, YieldsList-end}
use Rattle.std.proofs.lemmas.Iterator.Splits.{YieldsList-from_slice_split}
use Rattle.sprite_paths.specs.Path.{is_slash, step_into}
use Rattle.sprite_paths.proofs.path.walk.Goals as goal

pub returns : goal.returns
returns c =
    let split = c.split-part-items.ensures in
    let end =
    YieldsList-end
    (YieldsList-at c.into_iter-part-iterator.ensures.into_iter_gives (YieldsList-from_slice_split _ is_slash c.args.text.now split.rest split.done split.closure (λ x b q k. search (rules, tests))))
    c.loop-part.yielded _ c.loop-part.yielded_by _ _ c.in-None.is c.next.ensures.steps in
    c.loop-part.invariant ∙ ap (fold step_into c.args.parts) end.0
