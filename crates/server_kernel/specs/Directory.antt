-- The names in the domains of the server.
use Rattle.std.specs.Prelude.{ℕ, ◌==◌, Bool, not, if◌then◌else◌, List, Option, Some, None, Result, Ok, Err, nat_eq, slice_get, slice_set}
use Rattle.std.specs.List.{list_any, position}
use Rattle.std.specs.Cmp.Lexicographic.{pointwise}
use Rattle.sprite_ids.specs.declared.Errno.TheVariants.{NoEntry}
use Rattle.sprite_paths.specs.Path.{is_prefix}
use Rattle.server_names.specs.declared.NameEnd.{NameEnd}
use Rattle.server_names.specs.declared.NameEnd.TheVariants.{Errno as Refused}
use Rattle.server_names.specs.declared.Node.{Node}
use Rattle.server_names.specs.Names as names
use Rattle.server_kernel.specs.declared.server.Domain.{Domain}
use Rattle.server_kernel.specs.declared.server.Server.{Server}

-- a path, by its parts
abbrev pub Parts : Type 0
Parts = List (List ℕ)

-- whether the path lies in the domain
abbrev pub has_path : Parts → Domain → Bool
has_path path domain = is_prefix domain.root path

-- the domain at a looked-up place
abbrev pub at_place : List Domain → Option ℕ → Option Domain
at_place domains (Some at) = slice_get domains at
at_place domains None = None

-- the domain of this server in which the path lies: the longest, since longer ones stand first
abbrev pub domain_at : Parts → Server → Option Domain
domain_at path s = at_place s.domains (position (has_path path) s.domains)

-- what the path names in a looked-up domain; nothing where it lies in none of this server
abbrev pub found_by : Parts → Option Domain → Result Node NameEnd
found_by path (Some domain) = names.found domain.names path
found_by path None = Err (Refused NoEntry)

abbrev pub found_in : Parts → Server → Result Node NameEnd
found_in path s = found_by path (domain_at path s)

-- how many entries the directory has
abbrev pub count_by : Parts → Option Domain → Result ℕ NameEnd
count_by path (Some domain) = names.count_answer domain.names path
count_by path None = Err (Refused NoEntry)

abbrev pub count_in : Parts → Server → Result ℕ NameEnd
count_in path s = count_by path (domain_at path s)

-- a looked-up domain after a change
abbrev pub change_at : ℕ → (Domain → Domain) → Option Domain → List Domain → List Domain
change_at at change (Some domain) domains = slice_set domains at (change domain)
change_at at change None domains = domains

-- the domains after a change of the one at a place
abbrev pub changed_at : ℕ → (Domain → Domain) → List Domain → List Domain
changed_at at change domains = change_at at change (slice_get domains at) domains

-- the server after a change of the domain at a looked-up place
abbrev pub with_change : (Domain → Domain) → Option ℕ → Server → Server
with_change change (Some at) s = record s { domains = changed_at at change s.domains }
with_change change None s = s

-- the server after a change of the domain in which the path lies
abbrev pub with_domain : Parts → (Domain → Domain) → Server → Server
with_domain path change s = with_change change (position (has_path path) s.domains) s

-- whether a name can be made
abbrev pub make_by : Parts → Option Domain → Result (Unit {0}) NameEnd
make_by path (Some domain) = names.make_answer domain.names path
make_by path None = Err (Refused NoEntry)

abbrev pub make_in : Parts → Server → Result (Unit {0}) NameEnd
make_in path s = make_by path (domain_at path s)

-- a name is made
abbrev pub made_domain : Parts → Node → Domain → Domain
made_domain path node domain = record domain { names = names.made domain.names path node }

abbrev pub with_made : Parts → Node → Server → Server
with_made path node s = with_domain path (made_domain path node) s

-- what can be taken away
abbrev pub remove_by : Parts → Bool → Option Domain → Result Node NameEnd
remove_by path directory (Some domain) = names.remove_answer domain.names path directory
remove_by path directory None = Err (Refused NoEntry)

abbrev pub remove_in : Parts → Bool → Server → Result Node NameEnd
remove_in path directory s = remove_by path directory (domain_at path s)

-- a name is taken away
abbrev pub removed_domain : Parts → Domain → Domain
removed_domain path domain = record domain { names = names.removed domain.names path }

abbrev pub with_removed : Parts → Server → Server
with_removed path s = with_domain path (removed_domain path) s

-- whether a name can be given another one of its domain
abbrev pub rename_by : Parts → Parts → Option Domain → Result (Unit {0}) NameEnd
rename_by old new (Some domain) = names.rename_answer domain.names old new
rename_by old new None = Err (Refused NoEntry)

abbrev pub rename_in : Parts → Parts → Server → Result (Unit {0}) NameEnd
rename_in old new s = rename_by old new (domain_at old s)

-- what was found has another name
abbrev pub renamed_found : Parts → Parts → Result Node NameEnd → Domain → Domain
renamed_found old new (Ok node) domain = record domain { names = names.renamed domain.names old new node }
renamed_found old new (Err end) domain = domain

abbrev pub renamed_domain : Parts → Parts → Domain → Domain
renamed_domain old new domain = renamed_found old new (names.found domain.names old) domain

abbrev pub with_renamed : Parts → Parts → Server → Server
with_renamed old new s = with_domain old (renamed_domain old new) s

-- whether a domain of this server hangs there
abbrev pub is_root : Parts → Server → Bool
is_root path s = list_any (λ (domain : Domain). pointwise (pointwise nat_eq) path domain.root) s.domains

-- whether the domain that hangs there has one of the two paths and not the other
abbrev pub has_one : Parts → Parts → Parts → Bool
has_one root path other = if is_prefix root path then not (is_prefix root other) else is_prefix root other

-- whether the two paths lie in two domains of the cluster
abbrev pub are_apart : Parts → Parts → Server → Bool
are_apart path other s = list_any (λ root. has_one root path other) s.roots
