-- What the prefix table keeps, for all domains and paths.
use Rattle.std.specs.Prelude.{◌≡◌, ◌≢◌, ◌↔◌, ℕ, true, List, length, map, Some, None, Option, option_map}
use Rattle.std.specs.List.{AllByRecursion, find}
use Rattle.prefix_table.specs.declared.prefixes.Domain.{Domain}
use Rattle.prefix_table.specs.Prefixes.{is_of, knows, longest, learned, IsAmong, Matches, MatchesUpTo}

-- the domain is known and matches the path, and none that matches it has a longer prefix
pub record IsLongest (domains : List Domain) (path : List (List ℕ)) (domain : Domain) : Type 0 where
  pub known : IsAmong domain domains
  pub matching : Matches path domain
  pub others : AllByRecursion (MatchesUpTo (length domain.prefix) path) domains

-- what is found for a path is its longest known prefix
abbrev pub LongestIsLongest : Type 0
LongestIsLongest = (domains : List Domain) (path : List (List ℕ)) (domain : Domain) → longest domains path ≡ Some domain → IsLongest domains path domain

-- nothing is found for a path exactly where no known prefix matches it
abbrev pub NoneMatches : Type 0
NoneMatches = (domains : List Domain) (path : List (List ℕ)) → (longest domains path ≡ None) ↔ AllByRecursion (λ domain. Matches path domain → ⊥) domains

-- learning a known prefix leaves the prefixes and their order
abbrev pub KnownKeepPlaces : Type 0
KnownKeepPlaces = (domains : List Domain) (prefix : List (List ℕ)) (server : ℕ) → knows domains prefix ≡ true → map (λ (domain : Domain). domain.prefix) (learned domains prefix server) ≡ map (λ (domain : Domain). domain.prefix) domains

-- the server of a prefix, where it is known
abbrev pub server_at : List Domain → List (List ℕ) → Option ℕ
server_at domains prefix = option_map (λ (domain : Domain). domain.server) (find (is_of prefix) domains)

-- a learned prefix has its server, and the other prefixes keep theirs
abbrev pub OtherServersStay : Type 0
OtherServersStay = (domains : List Domain) (prefix other : List (List ℕ)) (server : ℕ) → (server_at (learned domains prefix server) prefix ≡ Some server) × (other ≢ prefix → server_at (learned domains prefix server) other ≡ server_at domains other)
