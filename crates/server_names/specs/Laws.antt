-- What a name is found as after a call, for all names of a domain.
use Rattle.std.specs.Prelude.{◌≡◌, ℕ, Bool, List, [], Some, Ok, Err}
use Rattle.sprite_ids.specs.declared.Errno.TheVariants.{NoEntry}
use Rattle.server_names.specs.declared.end.NameEnd.TheVariants.{Errno as Refused}
use Rattle.server_names.specs.declared.name.Node.{Node}
use Rattle.server_names.specs.declared.name.Entry.{Entry}
use Rattle.server_names.specs.Names.{Tree, entry_at, parent, walked, found, make_answer, made, remove_answer, removed, IsSound}

-- a name that was made is found as what it was made
abbrev pub MadeIsFound : Type 0
MadeIsFound = (tree : Tree) (path : List (List ℕ)) (node : Node) → make_answer tree path ≡ Ok tt → found (made tree path node) path ≡ Ok node

-- a name that was taken away is found no more
abbrev pub RemovedIsGone : Type 0
RemovedIsGone = (tree : Tree) (path : List (List ℕ)) (directory : Bool) (node : Node) → IsSound tree → remove_answer tree path directory ≡ Ok node → found (removed tree path) path ≡ Err (Refused NoEntry)

-- each entry hangs in a directory to which a walk goes: a remote link does too
abbrev pub EntriesHangInDirectories : Type 0
EntriesHangInDirectories = (tree : Tree) (path : List (List ℕ)) (entry : Entry) → IsSound tree → entry_at tree path ≡ Some entry → walked tree [] (parent path) ≡ Ok tt
