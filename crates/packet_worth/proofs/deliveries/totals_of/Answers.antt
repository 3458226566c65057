use Rattle.std.proofs.Common.{◌≡◌, ◌∙◌, suc, ◌+◌, ◌∷◌, [], List, drop, sym, ap, subst, add-one, drop-cons}
use Rattle.std.proofs.lemmas.List.{drop_all}
use Rattle.unix_calls.specs.declared.event.Rec.{Rec}
use Rattle.packet_worth.specs.Counts.{Counting}
use Rattle.packet_worth.proofs.CountLaws.{counting_begins, counting_goes, counting_ends}
use Rattle.packet_worth.proofs.deliveries.totals_of.Goals as goal

pub loop-rec-init : goal.loop-rec-init
loop-rec-init c = counting_begins c.no_totals-totals.result c.args.trace.now c.no_totals-totals.ensures.delivered c.no_totals-totals.ensures.sent c.no_totals-totals.ensures.expired

pub loop-rec-preserved : goal.loop-rec-preserved
loop-rec-preserved c =
    let trace = c.args.trace.now in
    let i = c.loop-rec.rec-index in
    let r = c.rec-item.result in
    let cut : drop i trace ≡ r ∷ drop (i + 1) trace = rw add-one (drop-cons trace i r c.loop-rec-test.true ∙ ap (λ (x : Rec). x ∷ drop (suc i) trace) (sym c.rec-item.is)) in
    let here = subst (λ (rest : List Rec). Counting c.loop-rec.totals trace rest) cut c.loop-rec.invariant in
    counting_goes c.loop-rec.totals c.count.new.totals trace (drop (i + 1) trace) r here c.in_ok-count.ensures

pub returns : goal.returns
returns c =
    let trace = c.args.trace.now in
    let all : drop c.loop-rec.rec-index trace ≡ [] = drop_all c.loop-rec.rec-index trace c.loop-rec-test.false in
    counting_ends c.loop-rec.totals trace (subst (λ (rest : List Rec). Counting c.loop-rec.totals trace rest) all c.loop-rec.invariant)
