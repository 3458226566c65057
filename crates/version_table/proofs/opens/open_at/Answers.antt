use Rattle.std.proofs.Common.{sym, ◌∙◌}
use Rattle.version_table.specs.Opens.{is_at}
use Rattle.version_table.proofs.OpenLaws.{found_get, found_none}
use Rattle.version_table.proofs.opens.open_at.Goals as goal

pub returns-in-Some : goal.returns-in-Some
returns-in-Some c = sym (found_get (is_at c.args.stream.now c.args.kernel) c.args.opens.now c.in-Some.at c.at.result.now (sym c.place_of.ensures ∙ c.in-Some.is) c.at.ensures)

pub returns-in-None : goal.returns-in-None
returns-in-None c = sym (found_none (is_at c.args.stream.now c.args.kernel) c.args.opens.now (sym c.place_of.ensures ∙ c.in-None.is))
