-- The tree of names: a flat map from whole paths to what stands there.
use Rattle.std.specs.Prelude.{ℕ, Bool, true, false, ◌&&◌, ◌||◌, ◌==◌, not, if◌then◌else◌, List, [], ◌∷◌, ◌++◌, length, nat_lt, nat_le, nat_eq, take, ◌-◌, filter, Option, Some, None}
use Rattle.std.specs.Cmp.Lexicographic.{pointwise}
use Rattle.sprite_ids.specs.declared.errno.Errno.{Errno}
use Rattle.sprite_ids.specs.declared.errno.Errno.TheVariants as errno
-- a file, what stands at a path, and a path with it: plain values of `src/`
pub use Rattle.unix_calls.specs.declared.state.FileName.{FileName}
pub use Rattle.unix_calls.specs.declared.state.FileName.TheVariants.{Boot, Made}
pub use Rattle.unix_calls.specs.declared.state.Node.{Node}
pub use Rattle.unix_calls.specs.declared.state.Node.TheVariants.{Directory, FileNode, DeviceNode}
pub use Rattle.unix_calls.specs.declared.state.Named.{Named}

-- whether two paths are the same
abbrev pub same_path : List (List ℕ) → List (List ℕ) → Bool
same_path = pointwise (pointwise nat_eq)

-- the order of bytes: a text stands behind each that it begins with
abbrev pub text_before : List ℕ → List ℕ → Bool
text_before [] [] = false
text_before [] (b ∷ bs) = true
text_before (a ∷ more) [] = false
text_before (a ∷ more) (b ∷ bs) = nat_lt a b || (a == b && text_before more bs)

-- the order of paths, part by part
abbrev pub path_before : List (List ℕ) → List (List ℕ) → Bool
path_before [] [] = false
path_before [] (b ∷ bs) = true
path_before (a ∷ more) [] = false
path_before (a ∷ more) (b ∷ bs) = text_before a b || (pointwise nat_eq a b && path_before more bs)

-- what stands at a path below the root
abbrev pub looked_up : List Named → List (List ℕ) → Option Node
looked_up [] path = None
looked_up (n ∷ ns) path = if same_path n.path path then Some n.node else looked_up ns path

-- what stands at a path; the root is a directory
abbrev pub node_at : List Named → List (List ℕ) → Option Node
node_at nodes [] = Some Directory
node_at nodes (part ∷ parts) = looked_up nodes (part ∷ parts)

-- the tree with one name more, in its place
abbrev pub with_name : Named → List Named → List Named
with_name n [] = n ∷ []
with_name n (m ∷ ms) = if path_before n.path m.path then n ∷ m ∷ ms else m ∷ with_name n ms

-- the tree without a name
abbrev pub without_name : List (List ℕ) → List Named → List Named
without_name path nodes = filter (λ (n : Named). not (same_path n.path path)) nodes

-- the directory above a path
abbrev pub above : List (List ℕ) → List (List ℕ)
above path = take (length path - 1) path

-- the last parts of the paths right below a directory; none for other paths
abbrev pub name_below : List (List ℕ) → List (List ℕ) → Option (List ℕ)
name_below [] (part ∷ []) = Some part
name_below (d ∷ ds) (part ∷ parts) = if pointwise nat_eq d part then name_below ds parts else None
name_below directory path = None

-- a name before others, where there is one
abbrev pub and_name : Option (List ℕ) → List (List ℕ) → List (List ℕ)
and_name (Some name) names = name ∷ names
and_name None names = names

-- the names in a directory, in byte order
abbrev pub names_in : List Named → List (List ℕ) → List (List ℕ)
names_in [] directory = []
names_in (n ∷ ns) directory = and_name (name_below directory n.path) (names_in ns directory)

-- whether a directory has no room for one name more
abbrev pub is_full : List Named → List (List ℕ) → Bool
is_full nodes directory = nat_le 256 (length (names_in nodes directory))

-- why a walk does not go on at a part: nothing is there, or no directory
abbrev pub walk_stop : Option Node → Option Errno
walk_stop (Some Directory) = None
walk_stop (Some node) = Some errno.NotDir
walk_stop None = Some errno.NoEntry

-- the first of two refusals
abbrev pub first_of : Option Errno → Option Errno → Option Errno
first_of (Some e) other = Some e
first_of None other = other

-- walk: each part of the path before the last one is a directory, else the first that isn't one refuses
abbrev pub walk_from : List Named → List (List ℕ) → List (List ℕ) → Option Errno
walk_from nodes done [] = None
walk_from nodes done (last ∷ []) = None
walk_from nodes done (part ∷ more ∷ rest) =
    first_of (walk_stop (node_at nodes (done ++ part ∷ []))) (walk_from nodes (done ++ part ∷ []) (more ∷ rest))

-- the walk along a whole path
abbrev pub walk : List Named → List (List ℕ) → Option Errno
walk nodes path = walk_from nodes [] path
