use Rattle.std.proofs.Common.{◌≡◌, ◌∙◌, suc, ◌+◌, ◌∷◌, [], List, drop, sym, ap, subst, add-one, drop-cons}
use Rattle.std.proofs.lemmas.List.{drop_all}
use Rattle.unix_calls.specs.declared.event.Rec.{Rec}
use Rattle.trace_rules.specs.Judging.{Here}
use Rattle.trace_rules.proofs.JudgingLaws.{begins, breaks, goes, ends}
use Rattle.trace_rules.proofs.judging.each_keeps.Goals as goal

pub loop-rec-init : goal.loop-rec-init
loop-rec-init g c = begins c.args.c.now (λ past r. g.J.LooksBack.test c.args.c.now past r) (g.J.LooksBack.tells c.args.judge.now) c.args.trace.now c.requires

pub returns-then-not-branch : goal.returns-then-not-branch
returns-then-not-branch g c =
    let trace = c.args.trace.now in
    let i = c.loop-rec.rec-index in
    let r = c.rec-item.result in
    let cut : drop i trace ≡ r ∷ drop (i + 1) trace = rw add-one (drop-cons trace i r c.loop-rec-test.true ∙ ap (λ (x : Rec). x ∷ drop (suc i) trace) (sym c.rec-item.is)) in
    let here = subst (λ (rest : List Rec). Here c.args.c.now (λ past x. g.J.LooksBack.test c.args.c.now past x) (g.J.LooksBack.tells c.loop-rec.judge) trace rest) cut c.loop-rec.invariant in
    breaks c.args.c.now (λ past x. g.J.LooksBack.test c.args.c.now past x) (g.J.LooksBack.tells c.loop-rec.judge) trace (drop (i + 1) trace) r here (g.met.J.LooksBack.is_told c.args.c.now c.loop-rec.judge here.past r here.told ∙ sym c.in_ok-fits.ensures ∙ c.if-not-branch.true)

pub loop-rec-preserved : goal.loop-rec-preserved
loop-rec-preserved g c =
    let trace = c.args.trace.now in
    let i = c.loop-rec.rec-index in
    let r = c.rec-item.result in
    let cut : drop i trace ≡ r ∷ drop (i + 1) trace = rw add-one (drop-cons trace i r c.loop-rec-test.true ∙ ap (λ (x : Rec). x ∷ drop (suc i) trace) (sym c.rec-item.is)) in
    let here = subst (λ (rest : List Rec). Here c.args.c.now (λ past x. g.J.LooksBack.test c.args.c.now past x) (g.J.LooksBack.tells c.loop-rec.judge) trace rest) cut c.loop-rec.invariant in
    goes c.args.c.now (λ past x. g.J.LooksBack.test c.args.c.now past x) (g.J.LooksBack.tells c.loop-rec.judge) (g.J.LooksBack.tells c.go_on.new.self) trace (drop (i + 1) trace) r here (g.met.J.LooksBack.is_told c.args.c.now c.loop-rec.judge here.past r here.told ∙ sym c.in_ok-fits.ensures ∙ c.if-not-branch.false) (g.met.J.LooksBack.tells_on c.args.c.now c.loop-rec.judge c.go_on.new.self here.past r here.told c.in_ok-go_on.ensures)

pub returns : goal.returns
returns g c =
    let trace = c.args.trace.now in
    let all : drop c.loop-rec.rec-index trace ≡ [] = drop_all c.loop-rec.rec-index trace c.loop-rec-test.false in
    ends c.args.c.now (λ past x. g.J.LooksBack.test c.args.c.now past x) (g.J.LooksBack.tells c.loop-rec.judge) trace (subst (λ (rest : List Rec). Here c.args.c.now (λ past x. g.J.LooksBack.test c.args.c.now past x) (g.J.LooksBack.tells c.loop-rec.judge) trace rest) all c.loop-rec.invariant)
