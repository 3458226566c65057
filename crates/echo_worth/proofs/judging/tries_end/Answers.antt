use Rattle.std.proofs.Common.{◌≡◌, ◌∙◌, suc, ◌+◌, ◌∷◌, [], List, drop, sym, ap, subst, add-one, drop-cons}
use Rattle.std.proofs.lemmas.List.{drop_all}
use Rattle.unix_calls.specs.declared.event.Rec.{Rec}
use Rattle.trace_rules.specs.Judging.{Here}
use Rattle.trace_rules.proofs.JudgingLaws.{begins, breaks, goes, ends}
use Rattle.echo_worth.specs.Parts.{echo_well}
use Rattle.echo_worth.specs.Told.{TellsKept}
use Rattle.echo_worth.specs.EchoLaws.{echoes_judged, echoes_go_on, nothing_told}
use Rattle.echo_worth.proofs.judging.tries_end.Goals as goal

pub loop-rec-init : goal.loop-rec-init
loop-rec-init c =
    let d = c.args.c.now in
    begins d (λ past r. echo_well d past r.kernel r.event) (TellsKept d c.in_ok-kept.kept) c.args.trace.now (nothing_told d c.in_ok-kept.kept c.in_ok-kept.ensures.nothing c.in_ok-kept.ensures.places)

pub returns-then-not-may_come : goal.returns-then-not-may_come
returns-then-not-may_come c =
    let d = c.args.c.now in
    let trace = c.args.trace.now in
    let i = c.loop-rec.rec-index in
    let r = c.rec-item.result in
    let kept = c.loop-rec.kept in
    let cut : drop i trace ≡ r ∷ drop (i + 1) trace = rw add-one (drop-cons trace i r c.loop-rec-test.true ∙ ap (λ (x : Rec). x ∷ drop (suc i) trace) (sym c.rec-item.is)) in
    let here = subst (λ (rest : List Rec). Here d (λ past x. echo_well d past x.kernel x.event) (TellsKept d kept) trace rest) cut c.loop-rec.invariant in
    breaks d (λ past x. echo_well d past x.kernel x.event) (TellsKept d kept) trace (drop (i + 1) trace) r here (echoes_judged d kept here.past r.kernel r.event here.told ∙ sym c.may_come.ensures ∙ c.if-not-may_come.true)

pub loop-rec-preserved : goal.loop-rec-preserved
loop-rec-preserved c =
    let d = c.args.c.now in
    let trace = c.args.trace.now in
    let i = c.loop-rec.rec-index in
    let r = c.rec-item.result in
    let kept = c.loop-rec.kept in
    let after = c.go_on.new.kept in
    let cut : drop i trace ≡ r ∷ drop (i + 1) trace = rw add-one (drop-cons trace i r c.loop-rec-test.true ∙ ap (λ (x : Rec). x ∷ drop (suc i) trace) (sym c.rec-item.is)) in
    let here = subst (λ (rest : List Rec). Here d (λ past x. echo_well d past x.kernel x.event) (TellsKept d kept) trace rest) cut c.loop-rec.invariant in
    goes d (λ past x. echo_well d past x.kernel x.event) (TellsKept d kept) (TellsKept d after) trace (drop (i + 1) trace) r here (echoes_judged d kept here.past r.kernel r.event here.told ∙ sym c.may_come.ensures ∙ c.if-not-may_come.false) (echoes_go_on d kept after here.past r here.told c.in_ok-go_on.ensures)

pub returns : goal.returns
returns c =
    let d = c.args.c.now in
    let trace = c.args.trace.now in
    let all : drop c.loop-rec.rec-index trace ≡ [] = drop_all c.loop-rec.rec-index trace c.loop-rec-test.false in
    ends d (λ past r. echo_well d past r.kernel r.event) (TellsKept d c.loop-rec.kept) trace (subst (λ (rest : List Rec). Here d (λ past r. echo_well d past r.kernel r.event) (TellsKept d c.loop-rec.kept) trace rest) all c.loop-rec.invariant)
