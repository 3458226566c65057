use Rattle.std.proofs.Common.{◌≡◌, ◌∙◌, ◌+◌, ◌∷◌, ◌++◌, [], List, take, take_all, sym, ap, subst, add-one}
use Rattle.std.proofs.Math.Seq.{take-suc}
use Rattle.unix_calls.specs.declared.event.Rec.{Rec}
use Rattle.cache_worth.specs.Counts.{TellsCounts}
use Rattle.cache_worth.specs.CountLaws.{counts_told_on}
use Rattle.cache_worth.proofs.counts.counted.Goals as goal

pub loop-rec-preserved : goal.loop-rec-preserved
loop-rec-preserved c =
    let trace = c.args.trace.now in
    let i = c.loop-rec.rec-index in
    let r = c.rec-item.result in
    let front : take (i + 1) trace ≡ take i trace ++ r ∷ [] = rw add-one (take-suc trace i r c.loop-rec-test.true ∙ ap (λ (x : Rec). take i trace ++ x ∷ []) (sym c.rec-item.is)) in
    subst (λ (records : List Rec). TellsCounts c.count.new.counts.entries records) (sym front) (counts_told_on r c.loop-rec.counts.entries c.count.new.counts.entries (take i trace) c.loop-rec.invariant c.in_ok-count.ensures)

pub returns : goal.returns
returns c =
    let trace = c.args.trace.now in
    let all : take c.loop-rec.rec-index trace ≡ trace = take_all c.loop-rec.rec-index trace c.loop-rec-test.false in
    subst (λ (records : List Rec). TellsCounts c.loop-rec.counts.entries records) all c.loop-rec.invariant
