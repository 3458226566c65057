use Rattle.std.proofs.Common.{◌≡◌, ◌∙◌, suc, ◌+◌, ◌∷◌, ◌++◌, [], Bool, List, take, take_all, drop, sym, ap, subst, refl, add-one, drop-cons}
use Rattle.std.proofs.Math.ListN.{take-append-drop}
use Rattle.std.proofs.Math.Seq.{take-suc}
use Rattle.unix_calls.specs.declared.event.Rec.{Rec}
use Rattle.calls_once.specs.Passes.{Goes, Tells}
use Rattle.calls_once.proofs.PassLaws.{not_once, once_told, tells_on}
use Rattle.calls_once.proofs.once.calls_are_once.Goals as goal

pub returns-then-not-branch : goal.returns-then-not-branch
returns-then-not-branch c =
    let trace = c.args.trace.now in
    let i = c.loop-record.record-index in
    let r = c.record-item.result in
    let cut : drop i trace ≡ r ∷ drop (i + 1) trace = rw add-one (drop-cons trace i r c.loop-record-test.true ∙ ap (λ (x : Rec). x ∷ drop (suc i) trace) (sym c.record-item.is)) in
    let parts : take i trace ++ r ∷ drop (i + 1) trace ≡ trace = ap (λ (rest : List Rec). take i trace ++ rest) (sym cut) ∙ take-append-drop i trace in
    let goes = subst (λ (made : Bool). Goes c.loop-record.turns.entries r.event made c.go_on.new.turns.entries) c.if-not-branch.true c.in_ok-go_on.ensures in (
      λ told. absurd (cc (told)),
      λ once. absurd (not_once c.loop-record.turns.entries c.go_on.new.turns.entries (take i trace) (drop (i + 1) trace) trace r parts c.loop-record.invariant goes once),
    )

pub loop-record-preserved : goal.loop-record-preserved
loop-record-preserved c =
    let trace = c.args.trace.now in
    let i = c.loop-record.record-index in
    let r = c.record-item.result in
    let front : take (i + 1) trace ≡ take i trace ++ r ∷ [] = rw add-one (take-suc trace i r c.loop-record-test.true ∙ ap (λ (x : Rec). take i trace ++ x ∷ []) (sym c.record-item.is)) in
    subst (λ (records : List Rec). Tells c.go_on.new.turns.entries records) (sym front) (tells_on c.loop-record.turns.entries c.go_on.new.turns.entries (take i trace) r c.loop-record.invariant (subst (λ (made : Bool). Goes c.loop-record.turns.entries r.event made c.go_on.new.turns.entries) c.if-not-branch.false c.in_ok-go_on.ensures))

pub returns : goal.returns
returns c =
    let trace = c.args.trace.now in
    let i = c.loop-record.record-index in
    let all : take i trace ≡ trace = take_all i trace c.loop-record-test.false in (
      λ told. once_told c.loop-record.turns.entries trace (subst (λ (records : List Rec). Tells c.loop-record.turns.entries records) all c.loop-record.invariant),
      λ once. refl,
    )
