-- Requests on names, at the servers of domains and in the one-kernel Unix.
use Rattle.std.specs.Prelude.{◌≡◌, ◌<◌, Bool, true, false, ◌&&◌, not, if◌then◌else◌, List, ℕ, length, Option, Some, None, Result, Ok, Err}
use Rattle.std.specs.List.{list_any}
use Rattle.sprite_ids.specs.declared.Errno.{Errno}
use Rattle.sprite_ids.specs.declared.Errno.TheVariants as errno
use Rattle.sprite_paths.specs.Path.{IsPrefix, is_prefix}
use Rattle.server_names.specs.declared.NameEnd.{NameEnd}
use Rattle.server_names.specs.declared.NameEnd.TheVariants.{Errno as Refused, Redirect, NoMemory}
use Rattle.server_names.specs.declared.Node.{Node}
use Rattle.server_names.specs.Names.{IsListing, Tree, count_answer, done, found, made, make_answer, remove_answer, removed, rename_answer, renamed}
use Rattle.unix_calls.specs.declared.state.Node.{Node as UnixNode}
use Rattle.unix_calls.specs.declared.state.Node.TheVariants.{Directory}
use Rattle.unix_calls.specs.Domains.{begins_domain}
use Rattle.unix_calls.specs.Tree.{first_of, names_in as unix_names_in, node_at, same_path, walk}
use Rattle.unix_calls.specs.State.{Unix}
use Rattle.unix_calls.specs.NameCalls.{chdir_refusal, listing, missing, moved_to, named, new_refusal, rename_refusal, rmdir_refusal, unlink_refusal, unnamed}
use Rattle.tree_laws.specs.Trees.{Parts, Ties, plain}

-- ---- what is asked, and what is given

-- what a path names; how many names a directory has, and which; a new name for a node; a name less, that of a directory or of
-- what is none; another name
pub data Request : Type 0 where
  Finds : Parts → Request
  Counts : Parts → Request
  Lists : Parts → Request
  Makes : Parts → UnixNode → Request
  Removes : Parts → Bool → Request
  Renames : Parts → Parts → Request

pub data Given : Type 0 where
  Is : Node → Given
  Many : ℕ → Given
  Text : List ℕ → Given
  Done : Given

-- the path by which a request goes to a server
abbrev pub path_of : Request → Parts
path_of (Finds path) = path
path_of (Counts path) = path
path_of (Lists path) = path
path_of (Makes path node) = path
path_of (Removes path directory) = path
path_of (Renames old new) = old

-- ---- at the server of a domain

abbrev pub given_by : {A : Type 0} → (A → Given) → Result A NameEnd → Result Given NameEnd
given_by what (Ok value) = Ok (what value)
given_by what (Err end) = Err end

abbrev pub is_done : {A : Type 0} → Result A NameEnd → Result Given NameEnd
is_done answer = given_by (λ value. Done) answer

-- a domain's root is in use
abbrev pub remove_at : Parts → Tree → Parts → Bool → Result Node NameEnd
remove_at root tree path directory = if directory && same_path path root then Err (Refused errno.Busy) else remove_answer tree path directory

-- whether the domain that hangs there has one of the two paths and not the other
abbrev pub has_one : Parts → Parts → Parts → Bool
has_one path other root = if is_prefix root path then not (is_prefix root other) else is_prefix root other

-- whether the two paths lie in two domains
abbrev pub are_apart : List Parts → Parts → Parts → Bool
are_apart roots path other = list_any (has_one path other) roots

-- names in two domains can't be one file's, unless the walk of the old one leads on into another domain
abbrev pub apart_found : Result Node NameEnd → Result (Unit {0}) NameEnd
apart_found (Ok node) = Err (Refused errno.XDev)
apart_found (Err (Refused why)) = Err (Refused errno.XDev)
apart_found (Err (Redirect path)) = Err (Redirect path)
apart_found (Err NoMemory) = Err NoMemory

abbrev pub rename_at : List Parts → Tree → Parts → Parts → Result (Unit {0}) NameEnd
rename_at roots tree old new = if are_apart roots old new then apart_found (found tree old) else rename_answer tree old new

-- the text of a listing is any in the order of bytes
abbrev pub ListsTo : Tree → Parts → Result Given NameEnd → Type 0
ListsTo tree path (Ok (Text text)) = (many : ℕ) × ((count_answer tree path ≡ Ok many) × IsListing tree path text)
ListsTo tree path (Ok given) = ⊥
ListsTo tree path (Err end) = done (count_answer tree path) ≡ Err end

-- what the server of a domain answers
abbrev pub IsAnswer : List Parts → Parts → Tree → Request → Result Given NameEnd → Type 0
IsAnswer roots root tree (Finds path) answer = answer ≡ given_by Is (found tree path)
IsAnswer roots root tree (Counts path) answer = answer ≡ given_by Many (count_answer tree path)
IsAnswer roots root tree (Lists path) answer = ListsTo tree path answer
IsAnswer roots root tree (Makes path node) answer = answer ≡ is_done (make_answer tree path)
IsAnswer roots root tree (Removes path directory) answer = answer ≡ is_done (remove_at root tree path directory)
IsAnswer roots root tree (Renames old new) answer = answer ≡ is_done (rename_at roots tree old new)

-- a domain's names after a request that was done
abbrev pub renamed_as : Tree → Parts → Parts → Result Node NameEnd → Tree
renamed_as tree old new (Ok node) = renamed tree old new node
renamed_as tree old new (Err end) = tree

abbrev pub tree_done : Ties → Tree → Request → Tree
tree_done ties tree (Finds path) = tree
tree_done ties tree (Counts path) = tree
tree_done ties tree (Lists path) = tree
tree_done ties tree (Makes path node) = made tree path (plain ties node)
tree_done ties tree (Removes path directory) = removed tree path
tree_done ties tree (Renames old new) = renamed_as tree old new (found tree old)

-- the names of all domains, each by where it hangs
abbrev pub Trees : Type 0
Trees = Parts → Tree

-- those with other names in one of them
abbrev pub with_tree : Parts → Tree → Trees → Trees
with_tree root tree trees other = if same_path other root then tree else trees other

-- after a request and its answer: a refused or redirected one changes nothing
abbrev pub trees_after : Ties → Trees → Parts → Request → Result Given NameEnd → Trees
trees_after ties trees root request (Ok given) = with_tree root (tree_done ties (trees root) request) trees
trees_after ties trees root request (Err end) = trees

-- ---- in the one-kernel Unix

abbrev pub unless : {A : Type 0} → Option Errno → A → Result A Errno
unless None given = Ok given
unless (Some why) given = Err why

abbrev pub stands : Option UnixNode → UnixNode
stands (Some node) = node
stands None = Directory

abbrev pub remove_refusal : Unix → Parts → Bool → Option Errno
remove_refusal u path true = rmdir_refusal u path
remove_refusal u path false = unlink_refusal u path

-- its answer to a request
abbrev pub row : Ties → Unix → Request → Result Given Errno
row ties u (Finds path) = unless (first_of (walk u.nodes path) (missing (node_at u.nodes path))) (Is (plain ties (stands (node_at u.nodes path))))
row ties u (Counts path) = unless (chdir_refusal u path) (Many (length (unix_names_in u.nodes path)))
row ties u (Lists path) = unless (chdir_refusal u path) (Text (listing u path))
row ties u (Makes path node) = unless (new_refusal u path) Done
row ties u (Removes path directory) = unless (remove_refusal u path directory) Done
row ties u (Renames old new) = unless (rename_refusal u old new) Done

-- and its state after one that was done
abbrev pub unix_done : Unix → Request → Unix
unix_done u (Finds path) = u
unix_done u (Counts path) = u
unix_done u (Lists path) = u
unix_done u (Makes path node) = named path node u
unix_done u (Removes path directory) = unnamed path u
unix_done u (Renames old new) = moved_to old new (node_at u.nodes old) u

-- ---- both

-- a walk is sent on to a longer domain of the path
pub record IsLonger (roots : List Parts) (root path to : Parts) : Type 0 where
  pub begins : begins_domain roots to ≡ true
  pub below : IsPrefix root to
  pub longer : length root < length to
  pub on_way : IsPrefix to path

-- an answer is the one-kernel Unix's, or sends the walk on
abbrev pub AsOne : {A : Type 0} → List Parts → Parts → Parts → Result A NameEnd → Result A Errno → Type 0
AsOne roots root path (Ok given) wanted = wanted ≡ Ok given
AsOne roots root path (Err (Refused why)) wanted = wanted ≡ Err why
AsOne roots root path (Err (Redirect to)) wanted = IsLonger roots root path to
AsOne roots root path (Err NoMemory) wanted = ⊥

abbrev pub unix_after : Unix → Request → Result Given NameEnd → Unix
unix_after u request (Ok given) = unix_done u request
unix_after u request (Err end) = u
