use Rattle.std.proofs.Common.{sym, ◌∙◌}
use Rattle.version_table.proofs.OpenLaws.{all_off, some_off, none_off}
use Rattle.version_table.proofs.opens.take_off.Goals as goal

pub returns-then-open-grants : goal.returns-then-open-grants
returns-then-open-grants c =
    c.remove.ensures.list ∙ all_off c.args.opens.now c.args.stream.now c.args.kernel c.args.grants c.in-Some.at c.at-open.result.now (sym c.place_of.ensures ∙ c.in-Some.is) c.at-open.ensures c.if-open-grants.true

pub returns-else-open-grants : goal.returns-else-open-grants
returns-else-open-grants c =
    c.replace.ensures.list ∙ some_off c.args.opens.now c.args.stream.now c.args.kernel c.args.grants c.in-Some.at c.at-open.result.now (sym c.place_of.ensures ∙ c.in-Some.is) c.at-open.ensures c.if-open-grants.false

pub returns-in_default : goal.returns-in_default
returns-in_default c = none_off c.args.opens.now c.args.stream.now c.args.kernel c.args.grants (sym c.place_of.ensures ∙ c.in_default.is)
