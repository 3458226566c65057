use Rattle.std.proofs.Common.{ap, sym, ◌∙◌, take, arith}
use Rattle.unix_calls.specs.Tree.{node_at, walk_stop}
use Rattle.unix_world.proofs.TreeLaws.{walk_stops, walk_goes, walk_last}
use Rattle.unix_world.proofs.tree.walk.Goals as goal

pub returns-then-is_some : goal.returns-then-is_some
returns-then-is_some c =
    let nodes = c.args.nodes.now in
    let stop = c.walk_stop-stop.ensures ∙ ap walk_stop (c.node_at.ensures ∙ ap (node_at nodes) c.split_at.ensures.front) in
    walk_stops nodes c.args.path.now c.loop-count.count c.walk_stop-stop.result
    (omega (arith, c.loop-count-test.true, c.saturating_sub-count-end.ensures))
    stop
    (sym c.is_some.ensures ∙ c.if-is_some.true)
    ∙ c.loop-count.invariant

pub loop-count-preserved : goal.loop-count-preserved
loop-count-preserved c =
    let nodes = c.args.nodes.now in
    let stop = c.walk_stop-stop.ensures ∙ ap walk_stop (c.node_at.ensures ∙ ap (node_at nodes) c.split_at.ensures.front) in
    walk_goes nodes c.args.path.now c.loop-count.count c.walk_stop-stop.result
    (omega (arith, c.loop-count-test.true, c.saturating_sub-count-end.ensures))
    stop
    (sym c.is_some.ensures ∙ c.if-is_some.false)
    ∙ c.loop-count.invariant

pub returns : goal.returns
returns c =
    sym (walk_last c.args.nodes.now (take c.loop-count.count c.args.path.now) c.args.path.now c.loop-count.count
    (omega (arith, c.loop-count-test.false, c.saturating_sub-count-end.ensures)))
    ∙ c.loop-count.invariant
