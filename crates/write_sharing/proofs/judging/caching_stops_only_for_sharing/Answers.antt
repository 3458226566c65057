use Rattle.std.proofs.Common.{◌≡◌, ◌∙◌, suc, ◌+◌, ◌∷◌, [], Bool, false, List, Option, get_or, drop, sym, ap, subst, add-one, drop-cons}
use Rattle.std.proofs.lemmas.List.{drop_all}
use Rattle.unix_calls.specs.declared.event.Rec.{Rec}
use Rattle.trace_tables.specs.declared.tied.Tied.{Tied}
use Rattle.write_sharing.specs.Judged.{HereSharing}
use Rattle.write_sharing.proofs.RuleLaws.{sharing_starts, nothing_owed}
use Rattle.write_sharing.proofs.TraceLaws.{tie_there, cut_there, begins, trace_breaks, trace_goes, trace_ends}
use Rattle.write_sharing.proofs.judging.caching_stops_only_for_sharing.Goals as goal

pub loop-place-init : goal.loop-place-init
loop-place-init c =
    let d = c.args.c.now in
    let none = c.new-sharing.result in
    let is = c.new-sharing.ensures in
    begins d none c.args.trace.now c.args.ties.now c.args.cuts.now (sharing_starts d none is.opens is.licensed is.grants is.stops is.called is.stopped is.last) (nothing_owed d none c.args.trace.now is.opens is.licensed is.grants is.stops is.called is.last) c.requires.tied c.requires.cut

pub bounds-cuts-place : goal.bounds-cuts-place
bounds-cuts-place c = cut_there c.args.c.now c.args.cuts.now c.args.trace.now c.loop-place.place c.requires.cut c.loop-place-test.true

pub bounds-ties-place : goal.bounds-ties-place
bounds-ties-place c = tie_there c.args.c.now c.args.ties.now c.args.trace.now c.loop-place.place c.requires.tied c.loop-place-test.true

pub returns-then-not-fits : goal.returns-then-not-fits
returns-then-not-fits c =
    let trace = c.args.trace.now in
    let ties = c.args.ties.now in
    let cuts = c.args.cuts.now in
    let i = c.loop-place.place in
    let r = c.index-trace-place.result in
    let tie = c.index-ties-place.result in
    let truncates : Bool = get_or cuts i false in
    let d = c.args.c.now in
    let old = c.loop-place.sharing in
    let cut : drop i trace ≡ r ∷ drop (i + 1) trace = rw add-one (drop-cons trace i r c.loop-place-test.true ∙ ap (λ (x : Rec). x ∷ drop (suc i) trace) (sym c.index-trace-place.is)) in
    let cut_ties : drop i ties ≡ tie ∷ drop (i + 1) ties = rw add-one (drop-cons ties i tie (tie_there d ties trace i c.requires.tied c.loop-place-test.true) ∙ ap (λ (x : Option Tied). x ∷ drop (suc i) ties) (sym c.index-ties-place.is)) in
    let cut_cuts : drop i cuts ≡ truncates ∷ drop (i + 1) cuts = rw add-one (drop-cons cuts i false (cut_there d cuts trace i c.requires.cut c.loop-place-test.true)) in
    let at = subst (λ (rest : List Rec). HereSharing d old trace rest (drop i ties) (drop i cuts)) cut c.loop-place.invariant in
    let by_ties = subst (λ (more : List (Option Tied)). HereSharing d old trace (r ∷ drop (i + 1) trace) more (drop i cuts)) cut_ties at in
    let here = subst (λ (more : List Bool). HereSharing d old trace (r ∷ drop (i + 1) trace) (tie ∷ drop (i + 1) ties) more) cut_cuts by_ties in
    trace_breaks d trace (drop (i + 1) trace) r tie (drop (i + 1) ties) truncates (drop (i + 1) cuts) c.in_ok-fits.fits old c.take.new.sharing here c.in_ok-fits.ensures c.if-not-fits.true

pub loop-place-preserved : goal.loop-place-preserved
loop-place-preserved c =
    let trace = c.args.trace.now in
    let ties = c.args.ties.now in
    let cuts = c.args.cuts.now in
    let i = c.loop-place.place in
    let r = c.index-trace-place.result in
    let tie = c.index-ties-place.result in
    let truncates : Bool = get_or cuts i false in
    let d = c.args.c.now in
    let old = c.loop-place.sharing in
    let cut : drop i trace ≡ r ∷ drop (i + 1) trace = rw add-one (drop-cons trace i r c.loop-place-test.true ∙ ap (λ (x : Rec). x ∷ drop (suc i) trace) (sym c.index-trace-place.is)) in
    let cut_ties : drop i ties ≡ tie ∷ drop (i + 1) ties = rw add-one (drop-cons ties i tie (tie_there d ties trace i c.requires.tied c.loop-place-test.true) ∙ ap (λ (x : Option Tied). x ∷ drop (suc i) ties) (sym c.index-ties-place.is)) in
    let cut_cuts : drop i cuts ≡ truncates ∷ drop (i + 1) cuts = rw add-one (drop-cons cuts i false (cut_there d cuts trace i c.requires.cut c.loop-place-test.true)) in
    let at = subst (λ (rest : List Rec). HereSharing d old trace rest (drop i ties) (drop i cuts)) cut c.loop-place.invariant in
    let by_ties = subst (λ (more : List (Option Tied)). HereSharing d old trace (r ∷ drop (i + 1) trace) more (drop i cuts)) cut_ties at in
    let here = subst (λ (more : List Bool). HereSharing d old trace (r ∷ drop (i + 1) trace) (tie ∷ drop (i + 1) ties) more) cut_cuts by_ties in
    trace_goes d trace (drop (i + 1) trace) r tie (drop (i + 1) ties) truncates (drop (i + 1) cuts) c.in_ok-fits.fits old c.take.new.sharing here c.in_ok-fits.ensures c.if-not-fits.false

pub returns : goal.returns
returns c =
    let trace = c.args.trace.now in
    let i = c.loop-place.place in
    let d = c.args.c.now in
    let kept = c.loop-place.sharing in
    let all : drop i trace ≡ [] = drop_all i trace c.loop-place-test.false in
    let here = subst (λ (rest : List Rec). HereSharing d kept trace rest (drop i c.args.ties.now) (drop i c.args.cuts.now)) all c.loop-place.invariant in
    c.is_paid.ensures ∙ trace_ends d kept trace (drop i c.args.ties.now) (drop i c.args.cuts.now) here
