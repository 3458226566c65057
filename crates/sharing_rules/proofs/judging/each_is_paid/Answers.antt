use Rattle.std.proofs.Common.{◌≡◌, ◌∙◌, suc, ◌+◌, ◌∷◌, List, Option, drop, sym, ap, ap₂, subst, add-one, drop-cons}
use Rattle.unix_calls.specs.declared.event.Rec.{Rec}
use Rattle.trace_tables.specs.declared.Tied.{Tied}
use Rattle.sharing_rules.specs.declared.entry_facts.EntryFacts.{EntryFacts}
use Rattle.sharing_rules.specs.Judging.{HereOwing}
use Rattle.sharing_rules.proofs.PaidLaws.{begins, facts_there, first_or, first_of, goes, tie_there}
use Rattle.sharing_rules.proofs.judging.each_is_paid.Goals as goal

pub loop-place-init : goal.loop-place-init
loop-place-init g c =
    let d = c.args.c.now in
    begins d (g.J.Judges.test d) (g.J.Judges.tells d c.args.judge.now) (g.J.Judges.owes d c.args.judge.now) c.args.trace.now c.args.ties.now c.args.facts.now c.requires.told c.requires.free c.requires.tied c.requires.facts

pub loop-place-preserved : goal.loop-place-preserved
loop-place-preserved g c =
    let trace = c.args.trace.now in
    let ties = c.args.ties.now in
    let facts = c.args.facts.now in
    let i = c.loop-place.place in
    let r = c.index-trace-place.result in
    let tie = c.index-ties-place.result in
    let fact = c.index-facts-place.result in
    let d = c.args.c.now in
    let judge = c.loop-place.judge in
    let tie_in = tie_there d ties trace i c.requires.tied c.loop-place-test.true in
    let fact_in = facts_there d facts trace i c.requires.facts c.loop-place-test.true in
    let cut : drop i trace ≡ r ∷ drop (i + 1) trace = rw add-one (drop-cons trace i r c.loop-place-test.true ∙ ap (λ (x : Rec). x ∷ drop (suc i) trace) (sym c.index-trace-place.is)) in
    let cut_ties : drop i ties ≡ tie ∷ drop (i + 1) ties = rw add-one (drop-cons ties i tie tie_in ∙ ap (λ (x : Option Tied). x ∷ drop (suc i) ties) (sym c.index-ties-place.is)) in
    let cut_facts : drop i facts ≡ fact ∷ drop (i + 1) facts = rw add-one (drop-cons facts i fact fact_in ∙ ap (λ (x : EntryFacts). x ∷ drop (suc i) facts) (sym c.index-facts-place.is)) in
    let at = subst (λ (rest : List Rec). HereOwing d (g.J.Judges.test d) (g.J.Judges.tells d judge) (g.J.Judges.owes d judge) trace rest (drop i ties) (drop i facts)) cut c.loop-place.invariant in
    let by_ties = subst (λ (more : List (Option Tied)). HereOwing d (g.J.Judges.test d) (g.J.Judges.tells d judge) (g.J.Judges.owes d judge) trace (r ∷ drop (i + 1) trace) more (drop i facts)) cut_ties at in
    let here = subst (λ (more : List EntryFacts). HereOwing d (g.J.Judges.test d) (g.J.Judges.tells d judge) (g.J.Judges.owes d judge) trace (r ∷ drop (i + 1) trace) (tie ∷ drop (i + 1) ties) more) cut_facts by_ties in
    let first = first_of d here.past r (drop (i + 1) trace) tie (drop (i + 1) ties) fact (drop (i + 1) facts) here.tied here.facts_are in
    let fits = ap₂ (λ t f. g.J.Judges.fits d judge r t f) (sym first.tied) (sym first.told) ∙ sym c.fits.ensures ∙ c.if-not-fits.false in
    let other = c.index-facts-place-in-loop-place.result in
    let cut_other : drop i facts ≡ other ∷ drop (i + 1) facts = rw add-one (drop-cons facts i other fact_in ∙ ap (λ (x : EntryFacts). x ∷ drop (suc i) facts) (sym c.index-facts-place-in-loop-place.is)) in
    let same : other ≡ fact = ap (first_or fact) (sym cut_other ∙ cut_facts) in
    let went = subst (λ (f : EntryFacts). g.J.Judges.goes_on d r f judge c.go_on.new.self) (same ∙ first.told) c.in_ok-go_on.ensures in
    goes d (g.J.Judges.test d) (g.J.Judges.tells d judge) (g.J.Judges.tells d c.go_on.new.self) (g.J.Judges.owes d judge) (g.J.Judges.owes d c.go_on.new.self) trace (drop (i + 1) trace) r tie (drop (i + 1) ties) fact (drop (i + 1) facts) here (g.met.J.Judges.tells_on d judge c.go_on.new.self here.past r here.told went) (g.met.J.Judges.keeps d judge c.go_on.new.self here.past r (drop (i + 1) trace) here.told fits went)
