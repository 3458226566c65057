use Rattle.std.proofs.Common.{◌≡◌, ◌∙◌, ◌≤◌, suc, ◌-◌, ◌∷◌, ◌&&◌, [], List, Option, length, drop, sym, ap, ap₂, subst, arith, drop-cons}
use Rattle.std.proofs.lemmas.List.{drop_all}
use Rattle.unix_calls.specs.declared.event.Rec.{Rec}
use Rattle.kill_worth.specs.declared.keys.KillAt.{KillAt}
use Rattle.kill_worth.specs.Told.{TellsTold, are_paid, is_paid}
use Rattle.kill_worth.proofs.ToldLaws.{told_begins, told_goes, is_kept, none_paid}
use Rattle.kill_worth.proofs.telling.are_paid.Goals as goal

pub offset_bounds-kills-place : goal.offset_bounds-kills-place
offset_bounds-kills-place c =
    let same = c.requires in
    let few : c.loop-place.place ≤ length c.args.trace.now = c.loop-place.invariant.1 in
    omega (arith, same, few, c.loop-place-test.true)

pub loop-place-init : goal.loop-place-init
loop-place-init c =
    let trace = c.args.trace.now in
    let kills = c.args.kills.now in
    let all : drop (length trace) trace ≡ [] = drop_all (length trace) trace (omega arith) in
    (subst (λ (rest : List Rec). TellsTold c.nothing_told-told.result rest) (sym all) (told_begins c.nothing_told-told.result c.nothing_told-told.ensures.steps c.nothing_told-told.ensures.marks), omega arith, none_paid (drop (length trace) kills) (drop (length trace) trace) all)

pub loop-place-preserved : goal.loop-place-preserved
loop-place-preserved c =
    let trace = c.args.trace.now in
    let kills = c.args.kills.now in
    let i = c.loop-place.place in
    let r = c.index-trace-place.result in
    let k = c.index-kills-place.result in
    let few : i ≤ length trace = c.loop-place.invariant.1 in
    let same : length kills ≡ length trace = c.requires in
    let short : suc (i - 1) ≤ length trace = omega (arith, few, c.loop-place-test.true) in
    let short_kills : suc (i - 1) ≤ length kills = omega (arith, few, same, c.loop-place-test.true) in
    let next : suc (i - 1) ≡ i = omega (arith, c.loop-place-test.true) in
    let cut : drop (i - 1) trace ≡ r ∷ drop i trace = drop-cons trace (i - 1) r short ∙ (ap (λ (x : Rec). x ∷ drop (suc (i - 1)) trace) (sym c.index-trace-place.is) ∙ ap (λ n. r ∷ drop n trace) next) in
    let cut_kills : drop (i - 1) kills ≡ k ∷ drop i kills = drop-cons kills (i - 1) k short_kills ∙ (ap (λ (x : Option KillAt). x ∷ drop (suc (i - 1)) kills) (sym c.index-kills-place.is) ∙ ap (λ n. k ∷ drop n kills) next) in
    let told = c.loop-place.invariant.0 in
    let here : c.is_told-here.result ≡ is_paid k (drop i trace) = c.is_told-here.ensures ∙ is_kept c.loop-place.told k (drop i trace) told in
    let paid : c.loop-place.paid ≡ are_paid (drop i kills) (drop i trace) = c.loop-place.invariant.2 in (
      subst (λ (rest : List Rec). TellsTold c.put_before.new.told rest) (sym cut) (told_goes c.loop-place.told c.put_before.new.told r (drop i trace) told c.in_ok-put_before.ensures),
      omega (arith, few),
      c.are_both-paid.ensures ∙ ap₂ (λ a b. a && b) here paid ∙ sym (ap₂ (λ ks rs. are_paid ks rs) cut_kills cut),
    )
