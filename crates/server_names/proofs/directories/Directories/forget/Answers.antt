use Rattle.server_names.proofs.directories.Directories.forget.Goals as goal

pub returns : goal.returns
returns c = rw (← c.self.view_is) c.shift_remove.ensures.entries
