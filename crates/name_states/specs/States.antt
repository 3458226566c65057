-- How the names stand in each state of the one-kernel Unix.
use Rattle.std.specs.Prelude.{◌≡◌, List, Some}
use Rattle.unix_calls.specs.declared.Description.{Description}
use Rattle.unix_calls.specs.declared.Entry.{Entry}
use Rattle.unix_calls.specs.State.{Unix}
use Rattle.unix_calls.specs.Lawful.{Lawful}
use Rattle.unix_calls.specs.After.{state_of}
use Rattle.tree_laws.specs.Wellnamed.{AreNamedWell}

-- each path stands once, and above each name is a directory, in each state of a history
abbrev pub StatesNameWell : Type 0
StatesNameWell = (c : Description) (journal : List Entry) (u : Unix) → Lawful c → state_of c journal ≡ Some u → AreNamedWell u.nodes
