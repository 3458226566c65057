use Rattle.std.proofs.Common.{◌≡◌, ℕ, ◌+◌, ◌==◌, true≢false, ◌++◌, [], List, length, take, drop, ap, sym, ◌∙◌}
use Rattle.file_views.specs.Contents.{grown}
use Rattle.file_coherence.proofs.ByteLaws.{over_grown}
use Rattle.file_coherence.proofs.contents.overlay.Goals as goal

pub returns : goal.returns
returns c =
    let some : c.args.new.now ≡ [] → ⊥ = λ e. true≢false (sym (c.is_empty.ensures ∙ ap (λ (xs : List ℕ). length xs == 0) e) ∙ c.if-is_empty.false) in
    c.of_vec.ensures ∙ (c.in_ok-write_over.ensures
    ∙ (ap (λ (xs : List ℕ). take c.args.at (grown xs (c.args.at + length c.args.new.now)) ++ c.args.new.now ++ drop (c.args.at + length c.args.new.now) (grown xs (c.args.at + length c.args.new.now))) (c.into_vec-items.ensures ∙ c.replace.ensures.value)
    ∙ over_grown c.args.bytes.now c.args.at c.args.new.now some))
