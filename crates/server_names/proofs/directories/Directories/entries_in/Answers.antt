use Rattle.std.proofs.Common.{ap, ◌∙◌}
use Rattle.server_names.specs.Names.{or_empty}
use Rattle.server_names.proofs.directories.Directories.entries_in.Goals as goal

pub returns-in-Some : goal.returns-in-Some
returns-in-Some c = rw (← c.self.view_is) (c.as_slice.ensures ∙ ap or_empty c.in-Some.ensures.value)

pub returns-in-None : goal.returns-in-None
returns-in-None c = rw (← c.self.view_is) (ap or_empty c.in-None.ensures.value)
