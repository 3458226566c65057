use Rattle.std.proofs.Common.{ℕ, List, sym, ap, subst, ◌∙◌}
use Rattle.server_names.specs.Names.{Tree, parent, made, unlisted, IsSound}
use Rattle.server_names.proofs.SoundLaws.{sound_renamed}
use Rattle.server_names.proofs.names.Names.rename.Goals as goal

pub invariant_of-self-2 : goal.invariant_of-self-2
invariant_of-self-2 c =
    let tree = c.self.inside.tree in
    let old = c.parts-old.result.now in
    let new = c.parts-new.result.now in
    let node = c.in_ok-node.node in
    let after = c.take.ensures
    ∙ ap (λ (t : Tree). unlisted t c.in_ok-above.above c.last_of.result.now) c.in_ok-put.ensures.ok
    ∙ ap (λ (d : List (List ℕ)). unlisted (made tree new node) d c.last_of.result.now) (c.in_ok-above.ensures ∙ c.parent.ensures)
    ∙ ap (λ (p : List ℕ). unlisted (made tree new node) (parent old) p) c.last_of.ensures in
    subst IsSound (sym after) (sound_renamed tree old new node c.in_ok-node.ensures c.self.invariant)
