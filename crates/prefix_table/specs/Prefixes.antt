-- The known prefixes, and the longest one of a path.
use Rattle.std.specs.Prelude.{◌≡◌, ◌⊎◌, ◌≤◌, ℕ, nat_eq, nat_lt, Bool, if◌then◌else◌, List, [], ◌∷◌, length, fold, Option, Some, None}
use Rattle.std.specs.List.{list_any}
use Rattle.std.specs.Cmp.Lexicographic.{pointwise}
use Rattle.sprite_paths.specs.Path.{is_prefix, IsPrefix}
use Rattle.prefix_table.specs.declared.prefixes.Domain.{Domain}

-- the domain of that prefix and server
abbrev pub domain : List (List ℕ) → ℕ → Domain
domain prefix server = record { prefix = prefix; server = server }

-- whether it is the domain of that prefix
abbrev pub is_of : List (List ℕ) → Domain → Bool
is_of prefix entry = pointwise (pointwise nat_eq) entry.prefix prefix

-- whether the prefix is known
abbrev pub knows : List Domain → List (List ℕ) → Bool
knows domains prefix = list_any (is_of prefix) domains

-- the domain with the longer prefix
abbrev pub longer : Option Domain → Domain → Option Domain
longer None domain = Some domain
longer (Some best) domain = if nat_lt (length best.prefix) (length domain.prefix) then Some domain else Some best

-- the better of two for a path: a prefix that matches it and is longer
abbrev pub better : List (List ℕ) → Option Domain → Domain → Option Domain
better path best domain = if is_prefix domain.prefix path then longer best domain else best

-- the domain of the longest prefix that matches the path
abbrev pub longest : List Domain → List (List ℕ) → Option Domain
longest domains path = fold (better path) None domains

-- the domains after one was learned: a known prefix keeps its place, and a new one comes last
abbrev pub learned : List Domain → List (List ℕ) → ℕ → List Domain
learned [] prefix server = domain prefix server ∷ []
learned (first ∷ rest) prefix server = if is_of prefix first then record first { server = server } ∷ rest else first ∷ learned rest prefix server

-- whether the two have one prefix
abbrev pub same_prefix : Domain → Domain → Bool
same_prefix entry other = is_of entry.prefix other

-- the domain is one of these
abbrev pub IsAmong : Domain → List Domain → Type 0
IsAmong domain [] = ⊥
IsAmong domain (first ∷ rest) = (first ≡ domain) ⊎ IsAmong domain rest

-- the domain's prefix matches the path
abbrev pub Matches : List (List ℕ) → Domain → Type 0
Matches path domain = IsPrefix domain.prefix path

-- where the domain's prefix matches the path, it has at most that many parts
abbrev pub MatchesUpTo : ℕ → List (List ℕ) → Domain → Type 0
MatchesUpTo len path domain = Matches path domain → length domain.prefix ≤ len
