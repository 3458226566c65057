-- The names that a server keeps, and requests of processes that are at that call.
use Rattle.std.specs.Prelude.{◌≡◌, true, false, List, [], ◌∷◌, Some}
use Rattle.std.specs.List.{list_any}
use Rattle.std.specs.Option.{is_some}
use Rattle.sprite_paths.specs.Path.{clean_path}
use Rattle.packet_bodies.specs.declared.NameOp.{NameOp}
use Rattle.packet_bodies.specs.declared.NameOp.TheVariants as ops
use Rattle.packet_bodies.specs.declared.NameRequest.{NameRequest}
use Rattle.unix_calls.specs.declared.Description.{Description}
use Rattle.unix_calls.specs.Domains.{begins_domain}
use Rattle.unix_calls.specs.State.{Unix}
use Rattle.unix_calls.specs.Tree.{same_path}
use Rattle.server_kernel.specs.declared.Domain.{Domain}
use Rattle.server_kernel.specs.declared.Server.{Server}
use Rattle.server_kernel.specs.Directory.{domain_at}
use Rattle.server_kernel.specs.Names.{name_call, text_or_none}
use Rattle.home_laws.specs.Calls.{Calls}
use Rattle.tree_laws.specs.Trees.{Parts, Ties}
use Rattle.flat_tree.specs.Requests.{Trees}
use Rattle.flat_tree.specs.Runs.{AreOneTree}

-- a server has a domain at most once, each with its names
abbrev pub AreKept : List Parts → Trees → List Domain → Type 0
AreKept roots trees [] = Unit {0}
AreKept roots trees (domain ∷ more) =
    (begins_domain roots domain.root ≡ true) × ((domain.names ≡ trees domain.root)
    × ((list_any (λ (other : Domain). same_path domain.root other.root) more ≡ false) × AreKept roots trees more))

-- the names of all domains are those of the one-kernel Unix, and the server has those of its own
pub record Serves (ties : Ties) (u : Unix) (trees : Trees) (s : Server) : Type 0 where
  pub one : AreOneTree ties u trees
  pub roots : s.roots ≡ u.roots
  pub kept : AreKept u.roots trees s.domains

-- where a rename is asked for, its new text leads to its new path
abbrev pub NewFits : NameOp → Parts → NameRequest → Type 0
NewFits ops.Rename cwd r = (new : Parts) × ((r.second ≡ Some new) × (clean_path cwd (text_or_none r.second_text) ≡ Some new))
NewFits _ cwd r = Unit {0}

-- a request is a process's next call, at the paths to which its texts lead there, and the server has a domain of the path
pub record Fits (c : Description) (u : Unix) (s : Server) (r : NameRequest) : Type 0 where
  pub calls : Calls c u r.pid r.number (name_call r)
  pub path : clean_path calls.may.process.cwd r.text ≡ Some r.path
  pub new : NewFits r.op calls.may.process.cwd r
  pub here : is_some (domain_at r.path s) ≡ true
