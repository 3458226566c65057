-- What the server of a domain answers about its names is what the one-kernel Unix answers.
use Rattle.std.specs.Prelude.{◌≡◌, Bool, true, false, List, [], ◌∷◌, ◌++◌, ℕ, length, Option, Some, None, Result, Ok, Err}
use Rattle.std.specs.Option.{option_map}
use Rattle.sprite_ids.specs.declared.Errno.{Errno}
use Rattle.sprite_paths.specs.Path.{IsPrefix}
use Rattle.server_names.specs.declared.NameEnd.{NameEnd}
use Rattle.server_names.specs.declared.NameEnd.TheVariants.{Errno as Refused, Redirect, NoMemory}
use Rattle.server_names.specs.declared.Node.{Node}
use Rattle.server_names.specs.Names.{IsSound, Tree, found, count_answer, made, make_answer, remove_answer, removed}
use Rattle.unix_calls.specs.declared.state.Node.{Node as UnixNode}
use Rattle.unix_calls.specs.Domains.{begins_domain}
use Rattle.unix_calls.specs.Tree.{first_of, names_in as unix_names_in, node_at, walk, with_name, without_name}
use Rattle.unix_calls.specs.State.{Unix}
use Rattle.unix_calls.specs.NameCalls.{missing, new_refusal, no_directory, rmdir_refusal, unlink_refusal}
use Rattle.tree_laws.specs.Trees.{AreNames, Parts, Ties, plain}

-- an answer at the server is the refusal of the one-kernel Unix, or there is none; a walk that met a remote link says nothing
abbrev pub AnswersAs : {A : Type 0} → Result A NameEnd → Option Errno → Type 0
AnswersAs (Ok done) refusal = refusal ≡ None
AnswersAs (Err (Refused errno)) refusal = refusal ≡ Some errno
AnswersAs (Err (Redirect path)) refusal = Unit {0}
AnswersAs (Err NoMemory) refusal = Unit {0}

-- and where there is an answer, it is that one
abbrev pub GivesAs : {A : Type 0} → Result A NameEnd → Option A → Type 0
GivesAs (Ok given) wanted = wanted ≡ Some given
GivesAs (Err end) wanted = Unit {0}

-- what a path below a domain's root names
pub record FindsAs (ties : Ties) (u : Unix) (tree : Tree) (path : Parts) : Type 0 where
  pub answers : AnswersAs (found tree path) (first_of (walk u.nodes path) (missing (node_at u.nodes path)))
  pub gives : GivesAs (found tree path) (option_map (plain ties) (node_at u.nodes path))

abbrev pub FindsAsOne : Type 0
FindsAsOne = (ties : Ties) (u : Unix) (root : Parts) (tree : Tree) (directory : Parts) (part : List ℕ)
    → AreNames ties u.roots root u.nodes tree → IsPrefix root directory → FindsAs ties u tree (directory ++ part ∷ [])

-- how many names a directory below a domain's root has
pub record CountsAs (u : Unix) (tree : Tree) (path : Parts) : Type 0 where
  pub answers : AnswersAs (count_answer tree path) (first_of (walk u.nodes path) (first_of (missing (node_at u.nodes path)) (no_directory (node_at u.nodes path))))
  pub gives : GivesAs (count_answer tree path) (Some (length (unix_names_in u.nodes path)))

abbrev pub CountsAsOne : Type 0
CountsAsOne = (ties : Ties) (u : Unix) (root : Parts) (tree : Tree) (directory : Parts) (part : List ℕ)
    → AreNames ties u.roots root u.nodes tree → IsPrefix root directory → CountsAs u tree (directory ++ part ∷ [])

-- making a name below a domain's root: it answers as the one-kernel Unix does, and leads to the same names
abbrev pub MakesAsOne : Type 0
MakesAsOne = (ties : Ties) (u : Unix) (root : Parts) (tree : Tree) (directory : Parts) (part : List ℕ)
    → AreNames ties u.roots root u.nodes tree → IsPrefix root directory
    → AnswersAs (make_answer tree (directory ++ part ∷ [])) (new_refusal u (directory ++ part ∷ []))

abbrev pub MadeIsSame : Type 0
MadeIsSame = (ties : Ties) (u : Unix) (root : Parts) (tree : Tree) (directory : Parts) (part : List ℕ) (node : UnixNode)
    → AreNames ties u.roots root u.nodes tree → IsPrefix root directory → make_answer tree (directory ++ part ∷ []) ≡ Ok tt
    → AreNames ties u.roots root (with_name (record { path = directory ++ part ∷ []; node = node }) u.nodes) (made tree (directory ++ part ∷ []) (plain ties node))

-- taking a name away below a domain's root, that of a directory which is no domain's root or that of what is none
pub record RemovesAs (u : Unix) (tree : Tree) (path : Parts) : Type 0 where
  pub directory : begins_domain u.roots path ≡ false → AnswersAs (remove_answer tree path true) (rmdir_refusal u path)
  pub other : AnswersAs (remove_answer tree path false) (unlink_refusal u path)

abbrev pub RemovesAsOne : Type 0
RemovesAsOne = (ties : Ties) (u : Unix) (root : Parts) (tree : Tree) (directory : Parts) (part : List ℕ)
    → AreNames ties u.roots root u.nodes tree → IsPrefix root directory → RemovesAs u tree (directory ++ part ∷ [])

abbrev pub RemovedIsSame : Type 0
RemovedIsSame = (ties : Ties) (u : Unix) (root : Parts) (tree : Tree) (directory : Parts) (part : List ℕ) (as_directory : Bool) (node : Node)
    → AreNames ties u.roots root u.nodes tree → IsSound tree → IsPrefix root directory → remove_answer tree (directory ++ part ∷ []) as_directory ≡ Ok node
    → AreNames ties u.roots root (without_name (directory ++ part ∷ []) u.nodes) (removed tree (directory ++ part ∷ []))
