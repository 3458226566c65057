use Rattle.std.proofs.Common.{ap, ◌∙◌}
use Rattle.version_table.specs.Opens.{are_roomy, left_by}
use Rattle.version_table.proofs.OpenLaws.{left_roomy}
use Rattle.version_table.proofs.opens.opened.Goals as goal

pub add-requires : goal.add-requires
add-requires c =
    ap are_roomy (c.leave.ensures ∙ ap (λ xs. left_by xs c.args.action.now) c.in_ok-after.ensures) ∙ left_roomy c.args.opens.now c.args.action.now c.requires
