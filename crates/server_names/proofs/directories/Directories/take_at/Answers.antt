use Rattle.std.proofs.Common.{◌∙◌, sym, ap}
use Rattle.std.specs.Map.{remove_entry}
use Rattle.indexmap.specs.IndexMap.{set_value_at}
use Rattle.server_names.specs.Names.{is_part}
use Rattle.server_names.proofs.DirectoryLaws.{listed_here, set_past}
use Rattle.server_names.proofs.directories.Directories.take_at.Goals as goal

pub returns : goal.returns
returns c =
    let entries = c.self.inside.lists.entries in
    let seen = listed_here entries c.args.at c.in-Some.entries.now c.in-Some.ensures.value in
    rw (← c.self.view_is) (ap (set_value_at entries c.args.at) (c.take_out.ensures ∙ ap (remove_entry (is_part c.args.part.now)) (sym seen)))

pub returns-in_default : goal.returns-in_default
returns-in_default c = rw (← c.self.view_is) (set_past c.self.inside.lists.entries c.args.at _ c.in_default.ensures.value)
