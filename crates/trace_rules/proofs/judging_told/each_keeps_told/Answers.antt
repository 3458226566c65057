use Rattle.std.proofs.Common.{◌∙◌, drop, sym, ap, subst, arith}
use Rattle.std.proofs.lemmas.List.{drop_all}
use Rattle.trace_rules.proofs.JudgingLaws.{begins_with, breaks_with, ends_with, goes_with, item_there, next_with}
use Rattle.trace_rules.proofs.judging_told.each_keeps_told.Goals as goal

pub loop-place-init : goal.loop-place-init
loop-place-init g c =
    let d = c.args.c.now in
    let trace = c.args.trace.now in
    begins_with (g.J.LooksBackTold.told_from d) d (λ past x. g.J.LooksBackTold.test d trace past x) (g.J.LooksBackTold.tells d trace c.args.judge.now) trace c.args.told.now c.requires.tells c.requires.told

pub offset_bounds-told-place : goal.offset_bounds-told-place
offset_bounds-told-place g c =
    let d = c.args.c.now in
    let there = item_there d (g.J.LooksBackTold.told_of d) (g.J.LooksBackTold.told_from d) (g.met.J.LooksBackTold.each d) c.args.told.now c.args.trace.now c.loop-place.place c.requires.told c.loop-place-test.true in
    omega (arith, there)

pub bounds-told-place : goal.bounds-told-place
bounds-told-place g c =
    let d = c.args.c.now in
    item_there d (g.J.LooksBackTold.told_of d) (g.J.LooksBackTold.told_from d) (g.met.J.LooksBackTold.each d) c.args.told.now c.args.trace.now c.loop-place.place c.requires.told c.loop-place-test.true

pub returns-then-not-branch : goal.returns-then-not-branch
returns-then-not-branch g c =
    let trace = c.args.trace.now in
    let told = c.args.told.now in
    let i = c.loop-place.place in
    let r = c.index-trace-place.result in
    let d = c.args.c.now in
    let item = c.index-told-place.result in
    let each = g.met.J.LooksBackTold.each d in
    let there = item_there d (g.J.LooksBackTold.told_of d) (g.J.LooksBackTold.told_from d) each told trace i c.requires.told c.loop-place-test.true in
    let next = next_with (g.J.LooksBackTold.told_of d) (g.J.LooksBackTold.told_from d) d (λ past x. g.J.LooksBackTold.test d trace past x) (g.J.LooksBackTold.tells d trace c.loop-place.judge) trace told i r item item each c.loop-place-test.true there c.index-trace-place.is c.index-told-place.is c.loop-place.invariant in
    let fits = g.met.J.LooksBackTold.is_told d trace c.loop-place.judge next.past r next.told ∙ ap (λ t. g.J.LooksBackTold.fits d c.loop-place.judge r t) (sym next.item_is) ∙ sym c.in_ok-fits.ensures in
    breaks_with next (fits ∙ c.if-not-branch.true)

pub loop-place-preserved : goal.loop-place-preserved
loop-place-preserved g c =
    let trace = c.args.trace.now in
    let told = c.args.told.now in
    let i = c.loop-place.place in
    let r = c.index-trace-place.result in
    let d = c.args.c.now in
    let item = c.index-told-place.result in
    let each = g.met.J.LooksBackTold.each d in
    let there = item_there d (g.J.LooksBackTold.told_of d) (g.J.LooksBackTold.told_from d) each told trace i c.requires.told c.loop-place-test.true in
    let next = next_with (g.J.LooksBackTold.told_of d) (g.J.LooksBackTold.told_from d) d (λ past x. g.J.LooksBackTold.test d trace past x) (g.J.LooksBackTold.tells d trace c.loop-place.judge) trace told i r item item each c.loop-place-test.true there c.index-trace-place.is c.index-told-place.is c.loop-place.invariant in
    let fits = g.met.J.LooksBackTold.is_told d trace c.loop-place.judge next.past r next.told ∙ ap (λ t. g.J.LooksBackTold.fits d c.loop-place.judge r t) (sym next.item_is) ∙ sym c.in_ok-fits.ensures in
    let goes = subst (λ t. g.J.LooksBackTold.goes_on d r t c.loop-place.judge c.go_on.new.self) next.item_is c.in_ok-go_on.ensures in
    goes_with (g.J.LooksBackTold.tells d trace c.go_on.new.self) next (fits ∙ c.if-not-branch.false) (g.met.J.LooksBackTold.tells_on d trace c.loop-place.judge c.go_on.new.self next.past r next.told goes)

pub returns : goal.returns
returns g c =
    let trace = c.args.trace.now in
    let i = c.loop-place.place in
    let d = c.args.c.now in
    ends_with (g.J.LooksBackTold.told_from d) d (λ past x. g.J.LooksBackTold.test d trace past x) (g.J.LooksBackTold.tells d trace c.loop-place.judge) trace (drop i trace) (drop i c.args.told.now) (drop_all i trace c.loop-place-test.false) c.loop-place.invariant
