use Rattle.std.proofs.Common.{ℕ, List, sym, ap, subst, ◌∙◌}
use Rattle.std.specs.Map.{remove_entry}
use Rattle.server_names.specs.Names.{Tree, is_at, parent, unlisted, IsSound}
use Rattle.server_names.proofs.SoundLaws.{sound_removed}
use Rattle.server_names.proofs.names.Names.remove.Goals as goal

pub invariant_of-self : goal.invariant_of-self
invariant_of-self c =
    let tree = c.self.inside.tree in
    let path = c.parts-path.result.now in
    let after = c.take.ensures
    ∙ ap (λ (t : Tree). unlisted t c.in_ok-above.above c.last_of.result.now) c.forget.ensures
    ∙ ap (λ (p : List (List ℕ)). unlisted (remove_entry (is_at p) tree) c.in_ok-above.above c.last_of.result.now) c.in_ok-name.ensures
    ∙ ap (λ (d : List (List ℕ)). unlisted (remove_entry (is_at path) tree) d c.last_of.result.now) (c.in_ok-above.ensures ∙ c.parent.ensures)
    ∙ ap (λ (p : List ℕ). unlisted (remove_entry (is_at path) tree) (parent path) p) c.last_of.ensures in
    subst IsSound (sym after) (sound_removed tree path c.args.directory c.in_ok-node.node c.in_ok-node.ensures c.self.invariant)
