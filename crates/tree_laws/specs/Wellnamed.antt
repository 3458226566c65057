-- How the names of the one-kernel Unix stand.
use Rattle.std.specs.Prelude.{◌≡◌, true, List, [], ◌∷◌, ◌++◌, ℕ, Some}
use Rattle.std.specs.Option.{is_some}
use Rattle.unix_calls.specs.declared.Description.{Description}
use Rattle.unix_calls.specs.declared.Entry.{Entry}
use Rattle.unix_calls.specs.declared.state.Named.{Named as NamedNode}
use Rattle.unix_calls.specs.declared.state.Node.TheVariants.{Directory}
use Rattle.unix_calls.specs.State.{Unix}
use Rattle.unix_calls.specs.Tree.{node_at}
use Rattle.unix_calls.specs.After.{after}
use Rattle.tree_laws.specs.Trees.{AreNamedOnce, Parts}

-- each path stands once, and above each name is a directory
pub record AreNamedWell (nodes : List NamedNode) : Type 0 where
  pub once : AreNamedOnce nodes
  pub hang : (directory : Parts) (part : List ℕ) → is_some (node_at nodes (directory ++ part ∷ [])) ≡ true → node_at nodes directory ≡ Some Directory

-- each entry keeps that
abbrev pub EntriesNameWell : Type 0
EntriesNameWell = (c : Description) (u v : Unix) (e : Entry) → after c u e ≡ Some v → AreNamedWell u.nodes → AreNamedWell v.nodes
