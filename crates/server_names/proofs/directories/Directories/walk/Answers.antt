use Rattle.std.proofs.Common.{[], ◌∷◌, ◌++◌, ℕ, ◌+◌, List, Option, Err, sym, ap, subst, ◌∙◌, drop}
use Rattle.server_names.specs.declared.name.Entry.{Entry}
use Rattle.server_names.specs.Names.{entry_in, passed, walked, Answers}
use Rattle.server_names.proofs.WalkLaws.{walk_on, stops, moves_on}
use Rattle.server_names.proofs.directories.Directories.walk.Goals as goal

pub returns-in-Err : goal.returns-in-Err
returns-in-Err c =
    let tree = c.args.self.now in
    let here = c.loop-part.here in
    let i = c.loop-part.part-index in
    let parts = c.args.parts.now in
    let part = c.part-item.result in
    let step = walk_on tree here parts i part c.loop-part-test.true c.part-item.is in
    subst (Answers (Err c.in-Err.end)) (sym step ∙ c.loop-part.invariant) (stops (passed (entry_in tree here part)) (walked tree (here ++ part ∷ []) (drop (i + 1) parts)) c.in-Err.end (subst (λ (o : Option Entry). Answers (Err c.in-Err.end) (passed o)) c.entry_in.ensures c.in-Err.ensures))

pub loop-part-preserved : goal.loop-part-preserved
loop-part-preserved c =
    let tree = c.args.self.now in
    let here = c.loop-part.here in
    let i = c.loop-part.part-index in
    let parts = c.args.parts.now in
    let part = c.part-item.result in
    let pushed = c.in_ok-push.ensures.ok ∙ ap (λ (p : List ℕ). here ++ p ∷ []) c.in_ok-copy.ensures in
    let step = walk_on tree here parts i part c.loop-part-test.true c.part-item.is in
    ap (λ (h : List (List ℕ)). walked tree h (drop (i + 1) parts)) pushed ∙ sym (moves_on (passed (entry_in tree here part)) (walked tree (here ++ part ∷ []) (drop (i + 1) parts)) c.in_default.field-0 (ap passed (sym c.entry_in.ensures) ∙ c.in_default.ensures)) ∙ sym step ∙ c.loop-part.invariant
