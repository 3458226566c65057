use Rattle.std.proofs.Common.{ap, sym, subst, take, ◌∙◌}
use Rattle.std.specs.List.{prefix_len}
use Rattle.unix_calls.specs.Tree.{names_in}
use Rattle.unix_world.specs.Paths.{MayPrecede}
use Rattle.unix_world.specs.Places.{Ordered}
use Rattle.unix_world.proofs.SeekLaws.{ordered_drop}
use Rattle.unix_world.proofs.TreeLaws.{names_within, up_to}
use Rattle.unix_world.proofs.tree.within.Goals as goal

pub end_of-requires : goal.end_of-requires
end_of-requires c =
    subst (Ordered MayPrecede) (sym c.split_at.ensures.back) (ordered_drop MayPrecede c.place_of.result c.args.nodes.now c.requires)

pub returns : goal.returns
returns c =
    let directory = c.args.directory.now in
    let ends = c.end_of.ensures.count ∙ ap (prefix_len (up_to directory)) c.split_at.ensures.back in
    ap (λ l. names_in l directory) (c.split_at-2.ensures.front ∙ ap (take c.end_of.result) c.split_at.ensures.back)
    ∙ names_within directory c.args.nodes.now c.place_of.result c.end_of.result c.requires c.place_of.ensures.count ends
