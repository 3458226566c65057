use Rattle.std.proofs.Common.{◌≡◌, ◌∙◌, suc, ◌+◌, ◌∷◌, drop, sym, ap, add-one, drop-cons, arith}
use Rattle.std.proofs.lemmas.List.{drop_all}
use Rattle.unix_calls.specs.declared.event.Rec.{Rec}
use Rattle.open_worth.specs.MovedOpens.{moved_in, moved_on, all_counted}
use Rattle.open_worth.proofs.moved_opens.moved_opens.Goals as goal

pub offset_bounds-openings-place : goal.offset_bounds-openings-place
offset_bounds-openings-place c =
    let same = c.requires in
    let short = c.loop-place-test.true in
    omega (arith, same, short)

pub loop-place-preserved : goal.loop-place-preserved
loop-place-preserved c =
    let trace = c.args.trace.now in
    let openings = c.args.openings.now in
    let i = c.loop-place.place in
    let r = c.index-trace-place.result in
    let cut : drop i trace ≡ r ∷ drop (i + 1) trace = rw add-one (drop-cons trace i r c.loop-place-test.true ∙ ap (λ (x : Rec). x ∷ drop (suc i) trace) (sym c.index-trace-place.is)) in
    moved_on c.loop-place.count c.in_ok-count.count r trace openings i c.is_moved_open.result (moved_in trace openings) cut c.loop-place.invariant c.is_moved_open.ensures c.in_ok-count.ensures.sum

pub returns : goal.returns
returns c =
    let trace = c.args.trace.now in
    let i = c.loop-place.place in
    all_counted c.loop-place.count (moved_in trace c.args.openings.now) (drop i trace) (drop i c.args.openings.now) (drop_all i trace c.loop-place-test.false) c.loop-place.invariant
