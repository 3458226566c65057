use Rattle.std.proofs.Common.{◌≡◌, ◌<◌, ◌+◌, ◌-◌, ◌∷◌, ℕ, suc, false, drop, length, sym, ap, subst, ◌∙◌, arith, add-one, drop-cons}
use Rattle.std.proofs.lemmas.List.{take_rest}
use Rattle.unix_calls.specs.declared.event.Rec.{Rec}
use Rattle.call_journal.specs.Past.{some_then}
use Rattle.cause_judge.specs.Causes.{is_cause}
use Rattle.cause_judge.proofs.CauseLaws.{none_at, some_at}
use Rattle.cause_judge.proofs.causes.has_cause.Goals as goal

pub returns-then-is_cause : goal.returns-then-is_cause
returns-then-is_cause c =
    let recs = c.args.before.now in
    let test = is_cause c.args.c.now c.args.kernel c.args.entry.now.pid c.args.entry.now.number in
    let at = c.loop-place.place - 1 in
    let rec = c.index-before-place.result in
    let within : at < length recs = omega (arith, c.loop-place-test.true, c.loop-place.invariant.within) in
    let cut : drop at recs ≡ rec ∷ drop (at + 1) recs = rw add-one (drop-cons recs at rec within ∙ ap (λ (x : Rec). x ∷ drop (suc at) recs) (sym c.index-before-place.is)) in
    sym (some_at test at rec (drop (at + 1) recs) recs cut (ap (test rec) (sym (take_rest recs (at + 1))) ∙ sym c.is_cause.ensures ∙ c.if-is_cause.true))

pub loop-place-preserved : goal.loop-place-preserved
loop-place-preserved c =
    let recs = c.args.before.now in
    let test = is_cause c.args.c.now c.args.kernel c.args.entry.now.pid c.args.entry.now.number in
    let at = c.loop-place.place - 1 in
    let rec = c.index-before-place.result in
    let within : at < length recs = omega (arith, c.loop-place-test.true, c.loop-place.invariant.within) in
    let cut : drop at recs ≡ rec ∷ drop (at + 1) recs = rw add-one (drop-cons recs at rec within ∙ ap (λ (x : Rec). x ∷ drop (suc at) recs) (sym c.index-before-place.is)) in
    let next : c.loop-place.place ≡ at + 1 = omega (arith, c.loop-place-test.true) in
    let behind : some_then test (drop (at + 1) recs) ≡ false = subst (λ (n : ℕ). some_then test (drop n recs) ≡ false) next c.loop-place.invariant.none in
    record {
      within = omega (arith, c.loop-place.invariant.within);
      none = none_at test at rec (drop (at + 1) recs) recs cut (ap (test rec) (sym (take_rest recs (at + 1))) ∙ sym c.is_cause.ensures ∙ c.if-is_cause.false) behind;
    }
