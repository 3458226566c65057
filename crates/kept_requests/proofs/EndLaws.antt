-- No call ends at a name for want of memory: that is the code's answer alone, and not one of the names.
use Rattle.std.proofs.Common.{◌≡◌, ◌==◌, nat_lt, Bool, true, false, cond, [], ◌∷◌, ◌++◌, length, Option, Some, None, Result, Ok, Err, refl}
use Rattle.server_names.specs.declared.NameEnd.{NameEnd}
use Rattle.server_names.specs.declared.NameEnd.TheVariants.{Errno as Refused, Redirect, NoMemory}
use Rattle.server_names.specs.declared.Entry.{Entry}
use Rattle.server_names.specs.declared.Entry.TheVariants as entries
use Rattle.server_names.specs.declared.Node.{Node}
use Rattle.server_names.specs.declared.Node.TheVariants as nodes
use Rattle.server_names.specs.Names as names
use Rattle.server_names.specs.Names.{Tree}
use Rattle.server_kernel.specs.declared.Domain.{Domain}
use Rattle.server_kernel.specs.declared.Server.{Server}
use Rattle.server_kernel.specs.Directory as directory
use Rattle.server_kernel.specs.Directory.{Parts}
use Rattle.server_kernel.specs.Listing as listing

-- an end that is an answer
abbrev pub is_answer : NameEnd → Bool
is_answer (Refused why) = true
is_answer (Redirect path) = true
is_answer NoMemory = false

abbrev pub Ends : {A : Type 0} → Result A NameEnd → Type 0
Ends (Ok value) = Unit {0}
Ends (Err end) = is_answer end ≡ true

-- ---- the names of one domain

goes_so : {A : Type 0} (r : Result (Unit {0}) NameEnd) (next : Result A NameEnd) → Ends r → Ends next → Ends (names.goes_on r next)
goes_so (Ok done) next h k = k
goes_so (Err end) next h k = h

one_of : {A : Type 0} (b : Bool) (r next : Result A NameEnd) → Ends r → Ends next → Ends (cond b r next)
one_of true r next h k = h
one_of false r next h k = k

done_so : {A : Type 0} (r : Result A NameEnd) → Ends r → Ends (names.done r)
done_so (Ok value) h = tt
done_so (Err end) h = h

passed_so : (o : Option Entry) → Ends (names.passed o)
passed_so None = refl
passed_so (Some (entries.Node nodes.Dir)) = tt
passed_so (Some (entries.Node (nodes.File file))) = refl
passed_so (Some (entries.Node (nodes.Device device))) = refl
passed_so (Some (entries.Link path)) = refl

named_so : (o : Option Entry) → Ends (names.named o)
named_so None = refl
named_so (Some (entries.Node node)) = tt
named_so (Some (entries.Link path)) = refl

freed_so : (o : Option Entry) → Ends (names.freed o)
freed_so None = tt
freed_so (Some (entries.Node node)) = refl
freed_so (Some (entries.Link path)) = refl

renamable_so : (node : Node) → Ends (names.renamable node)
renamable_so nodes.Dir = refl
renamable_so (nodes.File file) = tt
renamable_so (nodes.Device device) = tt

module _ (tree : Tree) where
  walked_so : (rest here : Parts) → Ends (names.walked tree here rest)
  walked_so [] here = tt
  walked_so (part ∷ rest) here = goes_so (names.passed (names.entry_in tree here part)) _ (passed_so (names.entry_in tree here part)) (walked_so rest (here ++ part ∷ []))

  found_at : (path : Parts) → Ends (names.found tree path)
  found_at path = one_of (length path == 0) _ _ tt (goes_so (names.walked tree [] (names.parent path)) _ (walked_so (names.parent path) []) (named_so (names.entry_at tree path)))

  roomy_so : (path : Parts) → Ends (names.roomy tree path)
  roomy_so path = one_of (nat_lt (names.count tree path) 256) _ _ tt refl

  make_at : (path : Parts) → Ends (names.make_answer tree path)
  make_at path =
      one_of (length path == 0) _ _ refl (goes_so (names.walked tree [] (names.parent path)) _ (walked_so (names.parent path) [])
      (goes_so (names.freed (names.entry_at tree path)) _ (freed_so (names.entry_at tree path)) (roomy_so (names.parent path))))

  removable_so : (node : Node) (whole : Bool) (path : Parts) → Ends (names.removable tree path whole node)
  removable_so nodes.Dir true path = one_of (names.count tree path == 0) _ _ tt refl
  removable_so (nodes.File file) true path = refl
  removable_so (nodes.Device device) true path = refl
  removable_so nodes.Dir false path = refl
  removable_so (nodes.File file) false path = tt
  removable_so (nodes.Device device) false path = tt

  removable_by : (r : Result Node NameEnd) (whole : Bool) (path : Parts) → Ends r → Ends (names.removable_found tree path whole r)
  removable_by (Ok node) whole path h = removable_so node whole path
  removable_by (Err end) whole path h = h

  remove_at : (whole : Bool) (path : Parts) → Ends (names.remove_answer tree path whole)
  remove_at true path = one_of (length path == 0) _ _ refl (removable_by (names.found tree path) true path (found_at path))
  remove_at false path = one_of (length path == 0) _ _ refl (removable_by (names.found tree path) false path (found_at path))

  renamed_so : (r : Result Node NameEnd) (target : Result (Unit {0}) NameEnd) → Ends r → Ends target → Ends (names.renamed_found r target)
  renamed_so (Ok node) target h k = goes_so (names.renamable node) _ (renamable_so node) (goes_so target _ k tt)
  renamed_so (Err end) target h k = h

  target_at : (old new : Parts) → Ends (names.rename_target tree old new)
  target_at old new =
      one_of (length new == 0) _ _ refl (goes_so (names.walked tree [] (names.parent new)) _ (walked_so (names.parent new) [])
      (goes_so (names.freed (names.entry_at tree new)) _ (freed_so (names.entry_at tree new)) (one_of (names.is_at (names.parent old) (names.parent new)) _ _ tt (roomy_so (names.parent new)))))

  rename_at : (old new : Parts) → Ends (names.rename_answer tree old new)
  rename_at old new = done_so (names.renamed_node tree old new) (renamed_so (names.found tree old) (names.rename_target tree old new) (found_at old) (target_at old new))

  counted_so : (r : Result Node NameEnd) (path : Parts) → Ends r → Ends (names.count_found tree path r)
  counted_so (Ok nodes.Dir) path h = tt
  counted_so (Ok (nodes.File file)) path h = refl
  counted_so (Ok (nodes.Device device)) path h = refl
  counted_so (Err end) path h = h

  count_at : (path : Parts) → Ends (names.count_answer tree path)
  count_at path = counted_so (names.found tree path) path (found_at path)

  listed_so : (r : Result (Unit {0}) NameEnd) (path : Parts) → Ends r → Ends (listing.listed tree path r)
  listed_so (Ok done) path h = tt
  listed_so (Err end) path h = h

  list_at : (path : Parts) → Ends (listing.listed tree path (names.done (names.count_answer tree path)))
  list_at path = listed_so (names.done (names.count_answer tree path)) path (done_so (names.count_answer tree path) (count_at path))

-- ---- of the domain in which a path lies, if it lies in one

got_so : {A : Type 0} (f : Option Domain → Result A NameEnd) (o : Option Domain) → ((domain : Domain) → Ends (f (Some domain))) → Ends (f None) → Ends (f o)
got_so f (Some domain) some none = some domain
got_so f None some none = none

module _ (path : Parts) (s : Server) where
  abbrev there : Option Domain
  there = directory.domain_at path s

  pub found_ends : Ends (directory.found_in path s)
  found_ends = got_so (directory.found_by path) there (λ domain. found_at domain.names path) refl

  pub count_ends : Ends (directory.count_in path s)
  count_ends = got_so (directory.count_by path) there (λ domain. count_at domain.names path) refl

  pub make_ends : Ends (directory.make_in path s)
  make_ends = got_so (directory.make_by path) there (λ domain. make_at domain.names path) refl

  pub remove_ends : (whole : Bool) → Ends (directory.remove_in path whole s)
  remove_ends whole = got_so (directory.remove_by path whole) there (λ domain. remove_at domain.names whole path) refl

  pub rename_ends : (new : Parts) → Ends (directory.rename_in path new s)
  rename_ends new = got_so (directory.rename_by path new) there (λ domain. rename_at domain.names path new) refl

  pub list_ends : Ends (listing.list_in path s)
  list_ends = got_so (listing.list_by path) there (λ domain. list_at domain.names path) refl
