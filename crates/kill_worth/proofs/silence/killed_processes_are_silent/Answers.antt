use Rattle.std.proofs.Common.{◌≡◌, ◌∙◌, suc, ◌+◌, ◌∷◌, [], List, drop, sym, ap, subst, add-one, drop-cons}
use Rattle.std.proofs.lemmas.List.{drop_all}
use Rattle.unix_calls.specs.declared.event.Rec.{Rec}
use Rattle.kill_worth.specs.Known.{Hearing}
use Rattle.kill_worth.proofs.KnownLaws.{hearing_begins, hearing_breaks, hearing_goes, hearing_ends}
use Rattle.kill_worth.proofs.silence.killed_processes_are_silent.Goals as goal

pub loop-rec-init : goal.loop-rec-init
loop-rec-init c = hearing_begins c.args.c.now c.in_ok-judge.judge c.args.trace.now c.in_ok-judge.ensures

pub returns-then-not-may_issue : goal.returns-then-not-may_issue
returns-then-not-may_issue c =
    let trace = c.args.trace.now in
    let i = c.loop-rec.rec-index in
    let r = c.rec-item.result in
    let cut : drop i trace ≡ r ∷ drop (i + 1) trace = rw add-one (drop-cons trace i r c.loop-rec-test.true ∙ ap (λ (x : Rec). x ∷ drop (suc i) trace) (sym c.rec-item.is)) in
    let here = subst (λ (rest : List Rec). Hearing c.args.c.now c.loop-rec.judge trace rest) cut c.loop-rec.invariant in
    hearing_breaks c.args.c.now c.loop-rec.judge trace (drop (i + 1) trace) r here (sym c.may_issue.ensures ∙ c.if-not-may_issue.true)

pub loop-rec-preserved : goal.loop-rec-preserved
loop-rec-preserved c =
    let trace = c.args.trace.now in
    let i = c.loop-rec.rec-index in
    let r = c.rec-item.result in
    let cut : drop i trace ≡ r ∷ drop (i + 1) trace = rw add-one (drop-cons trace i r c.loop-rec-test.true ∙ ap (λ (x : Rec). x ∷ drop (suc i) trace) (sym c.rec-item.is)) in
    let here = subst (λ (rest : List Rec). Hearing c.args.c.now c.loop-rec.judge trace rest) cut c.loop-rec.invariant in
    hearing_goes c.args.c.now c.loop-rec.judge c.keep_knowledge.new.judge trace (drop (i + 1) trace) r here (sym c.may_issue.ensures ∙ c.if-not-may_issue.false) c.in_ok-keep_knowledge.ensures

pub returns : goal.returns
returns c =
    let trace = c.args.trace.now in
    let all : drop c.loop-rec.rec-index trace ≡ [] = drop_all c.loop-rec.rec-index trace c.loop-rec-test.false in
    hearing_ends c.args.c.now c.loop-rec.judge trace (subst (λ (rest : List Rec). Hearing c.args.c.now c.loop-rec.judge trace rest) all c.loop-rec.invariant)
