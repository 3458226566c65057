use Rattle.std.proofs.Common.{[], ◌∷◌, ◌++◌, ℕ, ◌+◌, List, Result, Err, ap, subst, sym, ◌∙◌, drop}
use Rattle.server_names.specs.declared.end.NameEnd.{NameEnd}
use Rattle.server_names.specs.declared.name.Node.TheVariants.{Dir}
use Rattle.server_names.specs.declared.name.Entry.TheVariants.{Node as Named}
use Rattle.server_names.specs.Names.{Tree, on_way, entry_made, with_way, done, Answers}
use Rattle.server_names.proofs.WayLaws.{way_stops, way_on}
use Rattle.server_names.proofs.names.Names.make_way.Goals as goal

pub returns-in-Err-clause-answer : goal.returns-in-Err-clause-answer
returns-in-Err-clause-answer c =
    let tree = c.loop-part.self in
    let here = c.loop-part.here in
    let i = c.loop-part.part-index in
    let parts = c.args.parts.now in
    let part = c.part-item.result in
    let pushed = c.parts.ensures ∙ c.in_ok-push.ensures.ok ∙ ap (λ (p : List ℕ). here ++ p ∷ []) c.in_ok-copy.ensures in
    let step = way_on tree here parts i part c.loop-part-test.true c.part-item.is in
    let failed = subst (λ (path : List (List ℕ)). Answers {A = Unit {0}} (Err c.in-Err.end) (done (on_way tree (entry_made tree path (Named Dir))))) pushed c.in-Err.ensures.answer in
    subst (λ (r : Result Tree NameEnd). Answers {A = Unit {0}} (Err c.in-Err.end) (done r)) (sym step ∙ c.loop-part.invariant)
    (way_stops (on_way tree (entry_made tree (here ++ part ∷ []) (Named Dir))) (λ next. with_way next (here ++ part ∷ []) (drop (i + 1) parts)) c.in-Err.end failed)
