use Rattle.std.proofs.Common.{◌∙◌, sym, ap}
use Rattle.std.specs.List.{position}
use Rattle.server_names.specs.Names.{is_listed}
use Rattle.server_names.proofs.DirectoryLaws.{taken_out, none_out}
use Rattle.server_names.proofs.directories.take_out.Goals as goal

pub returns-in-Some : goal.returns-in-Some
returns-in-Some c = c.remove.ensures.list ∙ taken_out c.args.part.now c.args.entries.now c.in-Some.at c.remove.result (ap (position (is_listed c.args.part.now)) (sym c.as_slice.ensures) ∙ sym c.place_of.ensures ∙ c.in-Some.is)

pub returns-in-None : goal.returns-in-None
returns-in-None c = none_out c.args.part.now c.args.entries.now (ap (position (is_listed c.args.part.now)) (sym c.as_slice.ensures) ∙ sym c.place_of.ensures ∙ c.in-None.is)
