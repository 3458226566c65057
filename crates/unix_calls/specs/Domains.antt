-- The domains of a cluster: the parts of the tree of names, each with one server.
use Rattle.std.specs.Prelude.{◌≡◌, ◌<◌, ◌≤◌, ◌++◌, ℕ, ◌+◌, ◌-◌, Bool, true, if◌then◌else◌, List, [], ◌∷◌, length, nat_lt, slice_get, Option, Some, None}
use Rattle.std.specs.List.{AllByRecursion, flat_map, list_any}
use Rattle.std.specs.Option.{option_map, unwrap_or}
use Rattle.sprite_paths.specs.Path.{is_prefix, IsPrefix}
use Rattle.unix_calls.specs.declared.description.KernelLine.{KernelLine}
use Rattle.unix_calls.specs.declared.domains.Found.{Found}
use Rattle.unix_calls.specs.Tree.{same_path}

-- the paths of all domains, in file order
abbrev pub roots_of : List KernelLine → List (List (List ℕ))
roots_of lines = flat_map (λ (line : KernelLine). line.serves) lines

-- whether a domain begins at that path
abbrev pub begins_domain : List (List (List ℕ)) → List (List ℕ) → Bool
begins_domain roots path = list_any (same_path path) roots

-- the longer of the best domain so far and the one at that place, whose path is the root
abbrev pub longer : Option Found → ℕ → List (List ℕ) → Option Found
longer None place root = Some (record { place = place; parts = length root })
longer (Some best) place root =
    if nat_lt best.parts (length root) then Some (record { place = place; parts = length root }) else Some best

-- the better of the two for a path: a domain that has the path, and is longer
abbrev pub better : List (List ℕ) → Option Found → ℕ → List (List ℕ) → Option Found
better path best place root = if is_prefix root path then longer best place root else best

-- the best domain of a path after some more, which stand from that place on
abbrev pub best_from : List (List ℕ) → Option Found → ℕ → List (List (List ℕ)) → Option Found
best_from path best place [] = best
best_from path best place (root ∷ roots) = best_from path (better path best place root) (place + 1) roots

-- the place of the longest domain of a path, counted from 0; 0 where no domain has it
abbrev pub domain_of : List (List (List ℕ)) → List (List ℕ) → ℕ
domain_of roots path = unwrap_or (option_map (λ (best : Found). best.place) (best_from path None 0 roots)) 0

-- the number of the kernel that serves the domain at a place, of kernels whose numbers begin with that one
abbrev pub server_from : ℕ → List KernelLine → ℕ → ℕ
server_from number [] domain = number
server_from number (line ∷ lines) domain =
    if nat_lt domain (length line.serves) then number else server_from (number + 1) lines (domain - length line.serves)

-- the number of the kernel that serves the domain at a place
abbrev pub server_of : List KernelLine → ℕ → ℕ
server_of lines domain = server_from 1 lines domain

-- where a domain has the path, it has at most that many parts
abbrev pub HasUpTo : ℕ → List (List ℕ) → List (List ℕ) → Type 0
HasUpTo parts path root = IsPrefix root path → length root ≤ parts

-- the longest domain of a path stands at that place: it is a domain, the path begins with it, and no longer one does so
pub record IsLongest (roots : List (List (List ℕ))) (path : List (List ℕ)) (place : ℕ) : Type 0 where
  pub root : List (List ℕ)
  pub there : slice_get roots place ≡ Some root
  pub prefix : IsPrefix root path
  pub others : AllByRecursion (HasUpTo (length root) path) roots

-- where `/` is a domain, the place of a path's longest domain is that of its longest domain
abbrev pub DomainIsLongest : Type 0
DomainIsLongest = (roots : List (List (List ℕ))) (path : List (List ℕ)) → begins_domain roots [] ≡ true → IsLongest roots path (domain_of roots path)

-- the kernel of that number serves the domain at the place: the place is among its own, counted on from those of the kernels
-- before it
pub record IsServer (lines : List KernelLine) (domain number : ℕ) : Type 0 where
  pub before : List KernelLine
  pub line : KernelLine
  pub after : List KernelLine
  pub all : lines ≡ before ++ line ∷ after
  pub counted : number ≡ length before + 1
  pub from : length (roots_of before) ≤ domain
  pub to : domain < length (roots_of before) + length line.serves

-- the server of a domain is the kernel that serves it
abbrev pub ServerServes : Type 0
ServerServes = (lines : List KernelLine) (domain : ℕ) → domain < length (roots_of lines) → IsServer lines domain (server_of lines domain)
