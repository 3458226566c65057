use Rattle.std.proofs.Common.{length, slice_get, sym, ap, subst, ◌∙◌, arith}
use Rattle.std.specs.List.{prefix_len}
use Rattle.std.proofs.lemmas.List.Edits.{length-remove}
use Rattle.unix_calls.specs.Lawful.{holds}
use Rattle.unix_world.proofs.SeekLaws.{held_within}
use Rattle.unix_world.proofs.TreeLaws.{Goes, goes_first, goes_on, gone, has_path, precedes}
use Rattle.unix_world.proofs.tree.remove_name.Goals as goal

pub loop-nodes-init : goal.loop-nodes-init
loop-nodes-init c =
    let path = c.args.path.now in
    goes_first path c.place_of-at.result c.args.nodes.now c.requires (c.place_of-at.ensures.count ∙ ap (prefix_len (precedes path)) c.as_slice.ensures)

pub remove-gone-requires : goal.remove-gone-requires
remove-gone-requires c =
    let path = c.args.path.now in
    let at = c.place_of-at.result in
    let is = ap (λ l. holds (has_path path) (slice_get l at)) (sym c.as_slice-in-loop-nodes.ensures) ∙ sym c.is_at.ensures ∙ c.loop-nodes-test.true in
    held_within (has_path path) c.loop-nodes.nodes at is

pub loop-nodes-smaller : goal.loop-nodes-smaller
loop-nodes-smaller c =
    let path = c.args.path.now in
    let at = c.place_of-at.result in
    let is = ap (λ l. holds (has_path path) (slice_get l at)) (sym c.as_slice-in-loop-nodes.ensures) ∙ sym c.is_at.ensures ∙ c.loop-nodes-test.true in
    let within = held_within (has_path path) c.loop-nodes.nodes at is in
    omega (arith, ap length c.remove-gone.ensures.list, length-remove c.loop-nodes.nodes at within)

pub loop-nodes-preserved : goal.loop-nodes-preserved
loop-nodes-preserved c =
    let path = c.args.path.now in
    let at = c.place_of-at.result in
    let is = ap (λ l. holds (has_path path) (slice_get l at)) (sym c.as_slice-in-loop-nodes.ensures) ∙ sym c.is_at.ensures ∙ c.loop-nodes-test.true in
    subst (Goes path at c.args.nodes.now) (sym c.remove-gone.ensures.list) (goes_on path at c.args.nodes.now c.loop-nodes.nodes is c.loop-nodes.invariant)

pub returns : goal.returns
returns c =
    let path = c.args.path.now in
    let at = c.place_of-at.result in
    let is = ap (λ l. holds (has_path path) (slice_get l at)) (sym c.as_slice-in-loop-nodes.ensures) ∙ sym c.is_at.ensures ∙ c.loop-nodes-test.false in
    gone path at c.args.nodes.now c.loop-nodes.nodes is c.loop-nodes.invariant
