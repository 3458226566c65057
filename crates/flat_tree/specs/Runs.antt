-- Any list of requests on names, each sent to the server of some domain of its path.
use Rattle.std.specs.Prelude.{◌≡◌, true, List, [], ◌∷◌, Result, Err}
use Rattle.sprite_paths.specs.Path.{IsPrefix}
use Rattle.server_names.specs.declared.NameEnd.{NameEnd}
use Rattle.server_names.specs.declared.NameEnd.TheVariants.{Redirect}
use Rattle.server_names.specs.Names.{IsSound}
use Rattle.unix_calls.specs.declared.Description.{Description}
use Rattle.unix_calls.specs.Boot.{boot_of}
use Rattle.unix_calls.specs.Domains.{begins_domain, roots_of}
use Rattle.unix_calls.specs.State.{Unix}
use Rattle.tree_laws.specs.Trees.{AreNames, IsOwn, Parts, Ties}
use Rattle.flat_tree.specs.Listings.{AreAscending}
use Rattle.flat_tree.specs.Opening.{AreOpened}
use Rattle.flat_tree.specs.Requests.{AsOne, Given, IsAnswer, Request, Trees, path_of, row, trees_after, unix_after}

-- a request, where it is sent, and the answer
pub record Asked : Type 0 where
  pub root : Parts
  pub request : Request
  pub answer : Result Given NameEnd

-- it is sent to a domain of its path
pub record IsSent (roots : List Parts) (asked : Asked) : Type 0 where
  pub begins : begins_domain roots asked.root ≡ true
  pub prefix : IsPrefix asked.root (path_of asked.request)

-- the servers answer these requests so, one after another
abbrev pub Answered : Ties → List Parts → Trees → List Asked → Type 0
Answered ties roots trees [] = Unit {0}
Answered ties roots trees (asked ∷ more) =
    IsSent roots asked × (IsAnswer roots asked.root (trees asked.root) asked.request asked.answer
    × Answered ties roots (trees_after ties trees asked.root asked.request asked.answer) more)

-- and so does one tree, or the walk is sent on
abbrev pub AnsweredAsOne : Ties → Unix → List Asked → Type 0
AnsweredAsOne ties u [] = Unit {0}
AnsweredAsOne ties u (asked ∷ more) =
    AsOne u.roots asked.root (path_of asked.request) asked.answer (row ties u asked.request) × AnsweredAsOne ties (unix_after u asked.request asked.answer) more

-- the names of all domains are those of one tree
pub record AreOneTree (ties : Ties) (u : Unix) (trees : Trees) : Type 0 where
  pub names : (root : Parts) → begins_domain u.roots root ≡ true → AreNames ties u.roots root u.nodes (trees root)
  pub sound : (root : Parts) → begins_domain u.roots root ≡ true → IsSound (trees root)
  pub ascending : AreAscending u.nodes
  pub whole : begins_domain u.roots [] ≡ true

-- then any list of requests is answered so
abbrev pub RequestsAnswerAsOne : Type 0
RequestsAnswerAsOne = (ties : Ties) (u : Unix) (trees : Trees) (all : List Asked) → AreOneTree ties u trees → Answered ties u.roots trees all → AnsweredAsOne ties u all

-- they begin so, where `/` is a domain
abbrev pub OpenedAsOne : Type 0
OpenedAsOne = (ties : Ties) (c : Description) (trees : Trees) → begins_domain (roots_of c.kernels) [] ≡ true → AreOpened ties c trees → AreOneTree ties (boot_of c) trees

-- so from the start on the servers answer any list of requests as one tree
abbrev pub ServersAnswerAsOne : Type 0
ServersAnswerAsOne = (ties : Ties) (c : Description) (trees : Trees) (all : List Asked) → begins_domain (roots_of c.kernels) [] ≡ true → AreOpened ties c trees
    → Answered ties (roots_of c.kernels) trees all → AnsweredAsOne ties (boot_of c) all

-- where no longer domain has the path, the answer is never a redirect
abbrev pub LongestAnswers : Type 0
LongestAnswers = (ties : Ties) (u : Unix) (asked : Asked) (to : Parts) → IsOwn u.roots asked.root (path_of asked.request)
    → AsOne u.roots asked.root (path_of asked.request) asked.answer (row ties u asked.request) → asked.answer ≡ Err (Redirect to) → ⊥
