use Rattle.std.proofs.Common.{sym, ◌∙◌}
use Rattle.sprite_ids.proofs.OnceLaws.{less_here}
use Rattle.version_table.proofs.OpenLaws.{less_none}
use Rattle.server_kernel.specs.Files.{is_that}
use Rattle.server_kernel.proofs.files.take_out.Goals as goal

pub returns-in-Some : goal.returns-in-Some
returns-in-Some c =
    c.remove.ensures.list ∙ less_here (is_that c.args.file.now) c.args.files.now c.in-Some.at c.remove.result (sym c.place_in.ensures ∙ c.in-Some.is)

pub returns-in_default : goal.returns-in_default
returns-in_default c = sym (less_none (is_that c.args.file.now) c.args.files.now (sym c.place_in.ensures ∙ c.in_default.is))
