use Rattle.std.proofs.Common.{◌≡◌, ◌∙◌, ◌≤◌, suc, ◌-◌, ◌∷◌, List, length, drop, sym, ap, subst, arith, drop-cons}
use Rattle.unix_calls.specs.declared.event.Rec.{Rec}
use Rattle.trace_bursts.specs.Behind.{AddsRec, TellsBehind}
use Rattle.trace_bursts.proofs.BehindLaws.{behind_goes}
use Rattle.trace_bursts.proofs.behind.behind_entries.Goals as goal

pub loop-place-preserved : goal.loop-place-preserved
loop-place-preserved c =
    let trace = c.args.trace.now in
    let i = c.loop-place.place in
    let r = c.index-trace-place.result in
    let few : i ≤ length trace = c.loop-place.invariant.1 in
    let short : suc (i - 1) ≤ length trace = omega (arith, few, c.loop-place-test.true) in
    let next : suc (i - 1) ≡ i = omega (arith, c.loop-place-test.true) in
    let cut : drop (i - 1) trace ≡ r ∷ drop i trace = drop-cons trace (i - 1) r short ∙ (ap (λ (x : Rec). x ∷ drop (suc (i - 1)) trace) (sym c.index-trace-place.is) ∙ ap (λ n. r ∷ drop n trace) next) in
    let adds = subst (λ (x : Rec). AddsRec x.event c.loop-place.behind c.add.new.behind) (sym c.index-trace-place.is) c.in_ok-add.ensures in
    (subst (λ (rest : List Rec). TellsBehind rest c.add.new.behind) (sym cut) (behind_goes (drop i trace) r c.loop-place.behind c.add.new.behind c.loop-place.invariant.0 adds), omega (arith, few))
