use Rattle.std.proofs.Common.{◌≡◌, ◌∙◌, suc, ◌+◌, ◌∷◌, ◌&&◌, drop, sym, ap, add-one, drop-cons}
use Rattle.unix_calls.specs.declared.event.Rec.{Rec}
use Rattle.trace_bursts.specs.Reasons.{are_whole}
use Rattle.trace_bursts.proofs.ReasonLaws.{whole_goes}
use Rattle.trace_bursts.proofs.reasons.bursts_are_whole.Goals as goal

pub returns-then-not-is_whole : goal.returns-then-not-is_whole
returns-then-not-is_whole c =
    let trace = c.args.trace.now in
    let i = c.loop-place.place in
    let r = c.index-trace-place.result in
    let cut : drop i trace ≡ r ∷ drop (i + 1) trace = rw add-one (drop-cons trace i r c.loop-place-test.true ∙ ap (λ (x : Rec). x ∷ drop (suc i) trace) (sym c.index-trace-place.is)) in
    let whole = sym c.is_whole.ensures ∙ c.if-not-is_whole.true in
    sym (sym c.loop-place.invariant ∙ (whole_goes trace i r cut ∙ ap (λ b. b && are_whole (drop (i + 1) trace)) whole))

pub loop-place-preserved : goal.loop-place-preserved
loop-place-preserved c =
    let trace = c.args.trace.now in
    let i = c.loop-place.place in
    let r = c.index-trace-place.result in
    let cut : drop i trace ≡ r ∷ drop (i + 1) trace = rw add-one (drop-cons trace i r c.loop-place-test.true ∙ ap (λ (x : Rec). x ∷ drop (suc i) trace) (sym c.index-trace-place.is)) in
    let whole = sym c.is_whole.ensures ∙ c.if-not-is_whole.false in
    sym (whole_goes trace i r cut ∙ ap (λ b. b && are_whole (drop (i + 1) trace)) whole) ∙ c.loop-place.invariant
