-- A server's names of one domain against the tree of the one-kernel Unix.
use Rattle.std.specs.Prelude.{◌≡◌, ℕ, true, if◌then◌else◌, List, [], ◌∷◌, ◌++◌, length, Option, Some, None}
use Rattle.std.specs.Option.{option_map}
use Rattle.sprite_ids.specs.declared.DeviceId.{DeviceId}
use Rattle.sprite_ids.specs.declared.FileId.{FileId}
use Rattle.sprite_paths.specs.Path.{IsPrefix}
use Rattle.server_names.specs.declared.Entry.{Entry}
use Rattle.server_names.specs.declared.Entry.TheVariants.{Node as Named, Link}
use Rattle.server_names.specs.declared.Node.{Node}
use Rattle.server_names.specs.declared.Node.TheVariants.{Dir, File, Device}
use Rattle.server_names.specs.Names.{Tree, count, entry_in}
use Rattle.unix_calls.specs.declared.state.FileName.{FileName}
use Rattle.unix_calls.specs.declared.state.Named.{Named as NamedNode}
use Rattle.unix_calls.specs.declared.state.Node.{Node as UnixNode}
use Rattle.unix_calls.specs.declared.state.Node.TheVariants.{Directory, FileNode, DeviceNode}
use Rattle.unix_calls.specs.Domains.{begins_domain}
use Rattle.unix_calls.specs.Tree.{looked_up, names_in as unix_names_in, node_at}

-- a path, by its parts
abbrev pub Parts : Type 0
Parts = List (List ℕ)

-- which file and which device of the kernels is which of the one-kernel Unix
pub record Ties : Type 0 where
  pub file : FileName → FileId
  pub device : ℕ → DeviceId

-- what the one-kernel Unix has at a path, as a server has it
abbrev pub plain : Ties → UnixNode → Node
plain ties Directory = Dir
plain ties (FileNode name) = File (ties.file name)
plain ties (DeviceNode place) = Device (ties.device place)

-- and as a domain's names have it: another domain's root is a remote link
abbrev pub told_node : Ties → List Parts → Parts → UnixNode → Entry
told_node ties roots path node = if begins_domain roots path then Link path else Named (plain ties node)

abbrev pub told : Ties → List Parts → Parts → Option UnixNode → Option Entry
told ties roots path node = option_map (told_node ties roots path) node

-- no longer domain than that one has the path
abbrev pub IsOwn : List Parts → Parts → Parts → Type 0
IsOwn roots root path = (other : Parts) → begins_domain roots other ≡ true → IsPrefix other path → IsPrefix other root

-- each path stands once among the names
abbrev pub AreNamedOnce : List NamedNode → Type 0
AreNamedOnce [] = Unit {0}
AreNamedOnce (first ∷ rest) = (looked_up rest first.path ≡ None) × AreNamedOnce rest

-- the names of a domain are those of the one-kernel Unix: the parts on the way to its root are directories, each directory of the
-- domain has the same names, as many, and where a domain begins there is a directory
pub record AreNames (ties : Ties) (roots : List Parts) (root : Parts) (nodes : List NamedNode) (tree : Tree) : Type 0 where
  pub way : (before : Parts) (part : List ℕ) → IsPrefix (before ++ part ∷ []) root → (entry_in tree before part ≡ Some (Named Dir)) × (node_at nodes (before ++ part ∷ []) ≡ Some Directory)
  pub names : (directory : Parts) (part : List ℕ) → IsPrefix root directory → IsOwn roots root directory → entry_in tree directory part ≡ told ties roots (directory ++ part ∷ []) (node_at nodes (directory ++ part ∷ []))
  pub counts : (directory : Parts) → IsPrefix root directory → IsOwn roots root directory → count tree directory ≡ length (unix_names_in nodes directory)
  pub begins : (path : Parts) → begins_domain roots path ≡ true → node_at nodes path ≡ Some Directory
  pub once : AreNamedOnce nodes
