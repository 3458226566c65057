use Rattle.std.proofs.Common.{ℕ, List, ◌≤◌, length, sym, ap, subst, ◌∙◌, arith}
use Rattle.std.specs.List.{position_or_len}
use Rattle.unix_calls.specs.declared.state.Named.{Named}
use Rattle.unix_calls.specs.Tree.{path_before}
use Rattle.unix_world.specs.Paths.{MayPrecede}
use Rattle.unix_world.specs.Places.{Ordered}
use Rattle.unix_world.proofs.TreeLaws.{with_name_is, with_ordered, place_within}
use Rattle.unix_world.proofs.tree.add_name.Goals as goal

pub insert-requires : goal.insert-requires
insert-requires c =
    let nodes = c.args.nodes.now in
    let items = c.into_vec-list.ensures ∙ c.replace.ensures.value in
    let place = c.place_for-at.ensures.count ∙ ap (position_or_len (λ (x : Named). path_before c.args.path.now x.path)) c.as_slice.ensures in
    let within = subst (λ (l : List Named). c.place_for-at.result ≤ length l) (sym items) (subst (λ (n : ℕ). n ≤ length nodes) (sym place) (place_within c.args.path.now nodes)) in
    omega (arith, within, c.into_vec-list.result.ok)

pub returns-clause-added : goal.returns-clause-added
returns-clause-added c =
    rw (c.of_vec.ensures, c.in_ok-insert.ensures.items, c.into_vec-list.ensures, c.replace.ensures.value, c.place_for-at.ensures.count, c.as_slice.ensures, c.in_ok-path.ensures)
    (sym (with_name_is (record { path = c.args.path.now; node = c.args.node }) c.args.nodes.now))

pub returns-clause-ordered : goal.returns-clause-ordered
returns-clause-ordered c =
    rw (c.of_vec.ensures, c.in_ok-insert.ensures.items, c.into_vec-list.ensures, c.replace.ensures.value, c.place_for-at.ensures.count, c.as_slice.ensures, c.in_ok-path.ensures)
    (subst (Ordered MayPrecede) (with_name_is (record { path = c.args.path.now; node = c.args.node }) c.args.nodes.now) (with_ordered (record { path = c.args.path.now; node = c.args.node }) c.args.nodes.now c.requires))
