-- A server's names behind an entry that changes none.
use Rattle.std.specs.Prelude.{◌≡◌, ◌≤◌, false, List, length, Some}
use Rattle.server_names.specs.Names.{Tree}
use Rattle.unix_calls.specs.declared.Description.{Description}
use Rattle.unix_calls.specs.declared.Entry.{Entry}
use Rattle.unix_calls.specs.State.{Unix}
use Rattle.unix_calls.specs.After.{after, state_of}
use Rattle.unix_frames.specs.Frames.{changes_names, may}
use Rattle.tree_laws.specs.Trees.{AreNames, Parts, Ties}

-- a server's names are still those of the one-kernel Unix behind an entry of a history whose call changes no names
abbrev pub NamesGoOn : Type 0
NamesGoOn = (ties : Ties) (c : Description) (journal : List Entry) (u v : Unix) (e : Entry) (root : Parts) (tree : Tree)
    → length c.starts ≤ 200 → state_of c journal ≡ Some u → after c u e ≡ Some v → may changes_names e.call ≡ false
    → AreNames ties u.roots root u.nodes tree → AreNames ties v.roots root v.nodes tree
