use Rattle.std.proofs.Common.{sym, ◌∙◌}
use Rattle.unix_world.proofs.TreeLaws.{no_node, node_there}
use Rattle.unix_world.proofs.tree.looked_up.Goals as goal

pub returns-in-Some : goal.returns-in-Some
returns-in-Some c = sym (node_there c.args.path.now c.args.nodes.now c.in-Some.at _ (sym c.find.ensures ∙ c.in-Some.is))

pub returns-in-None : goal.returns-in-None
returns-in-None c = sym (no_node c.args.path.now c.args.nodes.now (sym c.find.ensures ∙ c.in-None.is))
