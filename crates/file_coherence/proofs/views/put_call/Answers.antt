use Rattle.std.proofs.Common.{◌≡◌, ◌<◌, ℕ, suc, ◌+◌, ◌++◌, List, length, map, take, drop, set, get_or, None, false, ap, ◌∙◌, arith}
use Rattle.file_views.specs.declared.FileBody.TheVariants as form
use Rattle.file_views.specs.declared.FileCall.{FileCall}
use Rattle.file_coherence.specs.Parts.{in_place}
use Rattle.file_coherence.proofs.ListLaws.{mapped_more}
use Rattle.file_coherence.proofs.views.put_call.Goals as goal

pub loop-at-preserved : goal.loop-at-preserved
loop-at-preserved c =
    let some : FileCall = record { number = 0; from = 0; to = 0; body = form.Done; dirty = None; taken = false; reply = None } in
    let more : suc c.loop-at.at ≡ c.loop-at.at + 1 = omega arith in
    let less : c.loop-at.at < length c.args.calls.now = omega (arith, c.loop-at-test.true, c.len-at-end.ensures) in
    c.in_ok-put_call_at.ensures some
    ∙ (ap (λ (xs : List FileCall). set xs c.loop-at.at (in_place c.args.new.now (get_or xs c.loop-at.at some))) c.loop-at.invariant
    ∙ (mapped_more (in_place c.args.new.now) c.args.calls.now c.loop-at.at some less
    ∙ ap (λ (k : ℕ). map (in_place c.args.new.now) (take k c.args.calls.now) ++ drop k c.args.calls.now) more))
