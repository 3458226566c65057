use Rattle.std.proofs.Common.{sym, ◌∙◌}
use Rattle.version_table.specs.Opens.{is_stream}
use Rattle.sprite_ids.proofs.OnceLaws.{less_here}
use Rattle.version_table.proofs.OpenLaws.{less_none}
use Rattle.version_table.proofs.opens.take_out.Goals as goal

pub returns-in-Some : goal.returns-in-Some
returns-in-Some c =
    c.remove.ensures.list ∙ less_here (is_stream c.args.stream.now) c.args.streams.now c.in-Some.at c.remove.result (sym c.place_in.ensures ∙ c.in-Some.is)

pub returns-in_default : goal.returns-in_default
returns-in_default c = sym (less_none (is_stream c.args.stream.now) c.args.streams.now (sym c.place_in.ensures ∙ c.in_default.is))
