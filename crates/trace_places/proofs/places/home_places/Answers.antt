use Rattle.std.proofs.Common.{◌≡◌, ◌∙◌, ℕ, suc, ◌+◌, ◌∷◌, [], List, drop, sym, ap, subst, add-one, drop-cons}
use Rattle.std.proofs.lemmas.List.{drop_all}
use Rattle.unix_calls.specs.declared.state.Process.{Process}
use Rattle.call_journal.specs.Calls.{or_else}
use Rattle.call_journal.specs.Past.{at_homes}
use Rattle.trace_places.specs.Places.{place_kept, place_among}
use Rattle.trace_places.specs.PlaceLaws.{home_more, or_nothing}
use Rattle.trace_places.proofs.places.home_places.Goals as goal

pub loop-p-preserved : goal.loop-p-preserved
loop-p-preserved c = λ pid.
    let ps = c.args.ps.now in
    let i = c.loop-p.p-index in
    let p = c.p-item.result in
    let before = c.loop-p.places.entries in
    let after = c.put_home.new.places.entries in
    let cut : drop i ps ≡ p ∷ drop (i + 1) ps = rw add-one (drop-cons ps i p c.loop-p-test.true ∙ ap (λ (x : Process). x ∷ drop (suc i) ps) (sym c.p-item.is)) in
    home_more before after p (drop (i + 1) ps) pid (c.in_ok-put_home.ensures pid)
    ∙ sym (ap (λ (rest : List Process). or_else (place_kept before pid) (place_among (at_homes rest) pid)) cut)
    ∙ c.loop-p.invariant pid

pub returns : goal.returns
returns c = λ pid.
    let ps = c.args.ps.now in
    let all : drop c.loop-p.p-index ps ≡ [] = drop_all c.loop-p.p-index ps c.loop-p-test.false in
    sym (or_nothing (place_kept c.loop-p.places.entries pid))
    ∙ sym (ap (λ (rest : List Process). or_else (place_kept c.loop-p.places.entries pid) (place_among (at_homes rest) pid)) all)
    ∙ c.loop-p.invariant pid
