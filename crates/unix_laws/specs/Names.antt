-- How the names of files and devices stand.
use Rattle.std.specs.Prelude.{◌≡◌, ◌==◌, ℕ, Bool, true, false, List, Some}
use Rattle.unix_calls.specs.declared.Description.{Description}
use Rattle.unix_calls.specs.declared.Entry.{Entry}
use Rattle.unix_calls.specs.declared.state.Node.{Node}
use Rattle.unix_calls.specs.declared.state.Node.TheVariants.{Directory, FileNode, DeviceNode}
use Rattle.unix_calls.specs.Tree.{node_at}
use Rattle.unix_calls.specs.State.{Unix, same_file}
use Rattle.unix_calls.specs.After.{state_of}

-- whether two nodes are one file, or one device
abbrev pub same_thing : Node → Node → Bool
same_thing (FileNode one) (FileNode two) = same_file one two
same_thing (DeviceNode one) (DeviceNode two) = one == two
same_thing Directory other = false
same_thing (FileNode one) Directory = false
same_thing (FileNode one) (DeviceNode two) = false
same_thing (DeviceNode one) Directory = false
same_thing (DeviceNode one) (FileNode two) = false

-- a file has one name at most, and so has a device, in each state of a history
abbrev pub ThingsHaveOneName : Type 0
ThingsHaveOneName = (c : Description) (journal : List Entry) (u : Unix) (one two : List (List ℕ)) (node other : Node) → state_of c journal ≡ Some u → node_at u.nodes one ≡ Some node → node_at u.nodes two ≡ Some other → same_thing node other ≡ true → one ≡ two
