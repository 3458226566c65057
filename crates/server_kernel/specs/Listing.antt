-- The names of a directory in the order of their bytes.
use Rattle.std.specs.Prelude.{ℕ, List, [], Option, Some, None, Result, Ok, Err, fold, map}
use Rattle.std.specs.BTreeMap.{insert_entry}
use Rattle.std.specs.Map.{keys_of}
use Rattle.std.specs.Ordering.{nat_cmp}
use Rattle.std.specs.Cmp.Lexicographic.{slice_cmp}
use Rattle.sprite_ids.specs.declared.Errno.TheVariants.{NoEntry}
use Rattle.server_names.specs.declared.NameEnd.{NameEnd}
use Rattle.server_names.specs.declared.NameEnd.TheVariants.{Errno as Refused}
use Rattle.server_names.specs.Names.{Tree, names_in, count_answer, done, lines}
use Rattle.server_kernel.specs.declared.server.Domain.{Domain}
use Rattle.server_kernel.specs.declared.server.Server.{Server}
use Rattle.server_kernel.specs.Directory.{Parts, domain_at}

-- the names that are sorted so far, with one more
abbrev pub with_sorted : List (List ℕ × Unit {0}) → List ℕ → List (List ℕ × Unit {0})
with_sorted names name = insert_entry (slice_cmp nat_cmp) names name tt

-- the names one after the other
abbrev pub sorted_entries : List (List ℕ) → List (List ℕ × Unit {0})
sorted_entries names = fold with_sorted [] names

-- the names in the order of their bytes
abbrev pub sorted_names : List (List ℕ) → List (List ℕ)
sorted_names names = keys_of (sorted_entries names)

-- entries with what their keys are seen as
abbrev pub keyed : {K X : Type 0} → (K → List ℕ) → List (K × X) → List (List ℕ × X)
keyed seen entries = map (λ entry. (seen entry.0, entry.1)) entries

-- each of them with a byte 10 behind it
abbrev pub listing : List (List ℕ) → List ℕ
listing names = lines (sorted_names names)

-- of a directory that was found
abbrev pub listed : Tree → Parts → Result (Unit {0}) NameEnd → Result (List ℕ) NameEnd
listed tree path (Ok found) = Ok (listing (names_in tree path))
listed tree path (Err end) = Err end

abbrev pub list_by : Parts → Option Domain → Result (List ℕ) NameEnd
list_by path (Some domain) = listed domain.names path (done (count_answer domain.names path))
list_by path None = Err (Refused NoEntry)

abbrev pub list_in : Parts → Server → Result (List ℕ) NameEnd
list_in path s = list_by path (domain_at path s)
