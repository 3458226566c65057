use Rattle.std.proofs.Common.{◌∙◌, sym}
use Rattle.server_names.proofs.DirectoryLaws.{absent, taken_there, none_taken_there}
use Rattle.server_names.proofs.directories.Directories.take.Goals as goal

pub returns-in-Some : goal.returns-in-Some
returns-in-Some c = c.take_at.ensures ∙ taken_there c.args.self.now c.args.directory.now c.in-Some.at c.args.part.now (rw (← c.self.view_is) (sym c.in-Some.ensures.index))

pub returns-in-None : goal.returns-in-None
returns-in-None c = none_taken_there c.args.self.now c.args.directory.now c.args.part.now (rw (← c.self.view_is) (absent _ c.in-None.ensures.found))
