-- How a call ends at a name: with an error of a server's own, or at a remote link of the names.
use Rattle.std.proofs.Common.{◌≡◌, ℕ, ◌==◌, nat_lt, Bool, true, false, cond, List, [], ◌∷◌, ◌++◌, length, Option, Some, None, position, Result, Ok, Err, slice_get, refl}
use Rattle.server_names.specs.declared.NameEnd.{NameEnd}
use Rattle.server_names.specs.declared.NameEnd.TheVariants.{Errno as Refused, Redirect, NoMemory}
use Rattle.server_names.specs.declared.Entry.{Entry}
use Rattle.server_names.specs.declared.Entry.TheVariants as entries
use Rattle.server_names.specs.declared.Node.{Node}
use Rattle.server_names.specs.declared.Node.TheVariants as nodes
use Rattle.server_names.specs.Names as names
use Rattle.server_names.specs.Names.{Tree}
use Rattle.server_kernel.specs.declared.Domain.{Domain}
use Rattle.server_kernel.specs.declared.Server.{Server}
use Rattle.server_kernel.specs.Directory as directory
use Rattle.server_kernel.specs.Directory.{Parts}
use Rattle.server_kernel.specs.Listing as listing
use Rattle.server_walks.specs.Served.{is_refusal}

-- another domain hangs in these names at that path
pub record IsLinked (tree : Tree) (path : Parts) : Type 0 where
  pub directory : Parts
  pub name : List ℕ
  pub there : names.entry_in tree directory name ≡ Some (entries.Link path)

-- and in one of these domains
pub record HangsIn (domains : List Domain) (path : Parts) : Type 0 where
  pub at : ℕ
  pub domain : Domain
  pub there : slice_get domains at ≡ Some domain
  pub linked : IsLinked domain.names path

-- an end at a name of these domains is so; so is a result that ends so
abbrev pub EndsSo : List Domain → NameEnd → Type 0
EndsSo domains (Refused why) = is_refusal why ≡ true
EndsSo domains (Redirect path) = HangsIn domains path
EndsSo domains NoMemory = Unit {0}

abbrev pub ResultSo : {A : Type 0} → List Domain → Result A NameEnd → Type 0
ResultSo domains (Ok value) = Unit {0}
ResultSo domains (Err end) = EndsSo domains end

-- the same of the names of one domain
abbrev EndsAt : Tree → NameEnd → Type 0
EndsAt tree (Refused why) = is_refusal why ≡ true
EndsAt tree (Redirect path) = IsLinked tree path
EndsAt tree NoMemory = Unit {0}

abbrev ResultAt : {A : Type 0} → Tree → Result A NameEnd → Type 0
ResultAt tree (Ok value) = Unit {0}
ResultAt tree (Err end) = EndsAt tree end

-- ---- results of the names of one domain

module _ (tree : Tree) where
  goes_so : {A : Type 0} (r : Result (Unit {0}) NameEnd) (next : Result A NameEnd) → ResultAt tree r → ResultAt tree next → ResultAt tree (names.goes_on r next)
  goes_so (Ok done) next h k = k
  goes_so (Err end) next h k = h

  one_of : {A : Type 0} (b : Bool) (r next : Result A NameEnd) → ResultAt tree r → ResultAt tree next → ResultAt tree (cond b r next)
  one_of true r next h k = h
  one_of false r next h k = k

  done_so : {A : Type 0} (r : Result A NameEnd) → ResultAt tree r → ResultAt tree (names.done r)
  done_so (Ok value) h = tt
  done_so (Err end) h = h

  passed_by : (o : Option Entry) (here : Parts) (part : List ℕ) → names.entry_in tree here part ≡ o → ResultAt tree (names.passed o)
  passed_by None here part e = refl
  passed_by (Some (entries.Node nodes.Dir)) here part e = tt
  passed_by (Some (entries.Node (nodes.File file))) here part e = refl
  passed_by (Some (entries.Node (nodes.Device device))) here part e = refl
  passed_by (Some (entries.Link path)) here part e = record { directory = here; name = part; there = e }

  walked_so : (rest here : Parts) → ResultAt tree (names.walked tree here rest)
  walked_so [] here = tt
  walked_so (part ∷ rest) here = goes_so (names.passed (names.entry_in tree here part)) _ (passed_by (names.entry_in tree here part) here part refl) (walked_so rest (here ++ part ∷ []))

  named_by : (o : Option Entry) (here : Parts) (part : List ℕ) → names.entry_in tree here part ≡ o → ResultAt tree (names.named o)
  named_by None here part e = refl
  named_by (Some (entries.Node node)) here part e = tt
  named_by (Some (entries.Link path)) here part e = record { directory = here; name = part; there = e }

  found_at : (path : Parts) → ResultAt tree (names.found tree path)
  found_at path = one_of (length path == 0) _ _ tt (goes_so (names.walked tree [] (names.parent path)) _ (walked_so (names.parent path) []) (named_by (names.entry_at tree path) (names.parent path) (names.last_of path) refl))

  freed_by : (o : Option Entry) (here : Parts) (part : List ℕ) → names.entry_in tree here part ≡ o → ResultAt tree (names.freed o)
  freed_by None here part e = tt
  freed_by (Some (entries.Node node)) here part e = refl
  freed_by (Some (entries.Link path)) here part e = record { directory = here; name = part; there = e }

  roomy_so : (path : Parts) → ResultAt tree (names.roomy tree path)
  roomy_so path = one_of (nat_lt (names.count tree path) 256) _ _ tt refl

  make_at : (path : Parts) → ResultAt tree (names.make_answer tree path)
  make_at path =
      one_of (length path == 0) _ _ refl (goes_so (names.walked tree [] (names.parent path)) _ (walked_so (names.parent path) [])
      (goes_so (names.freed (names.entry_at tree path)) _ (freed_by (names.entry_at tree path) (names.parent path) (names.last_of path) refl) (roomy_so (names.parent path))))

  removable_so : (node : Node) (directory : Bool) (path : Parts) → ResultAt tree (names.removable tree path directory node)
  removable_so nodes.Dir true path = one_of (names.count tree path == 0) _ _ tt refl
  removable_so (nodes.File file) true path = refl
  removable_so (nodes.Device device) true path = refl
  removable_so nodes.Dir false path = refl
  removable_so (nodes.File file) false path = tt
  removable_so (nodes.Device device) false path = tt

  removable_by : (r : Result Node NameEnd) (directory : Bool) (path : Parts) → ResultAt tree r → ResultAt tree (names.removable_found tree path directory r)
  removable_by (Ok node) directory path h = removable_so node directory path
  removable_by (Err end) directory path h = h

  remove_at : (directory : Bool) (path : Parts) → ResultAt tree (names.remove_answer tree path directory)
  remove_at true path = one_of (length path == 0) _ _ refl (removable_by (names.found tree path) true path (found_at path))
  remove_at false path = one_of (length path == 0) _ _ refl (removable_by (names.found tree path) false path (found_at path))

  renamable_so : (node : Node) → ResultAt tree (names.renamable node)
  renamable_so nodes.Dir = refl
  renamable_so (nodes.File file) = tt
  renamable_so (nodes.Device device) = tt

  renamed_so : (r : Result Node NameEnd) (target : Result (Unit {0}) NameEnd) → ResultAt tree r → ResultAt tree target → ResultAt tree (names.renamed_found r target)
  renamed_so (Ok node) target h k = goes_so (names.renamable node) _ (renamable_so node) (goes_so target _ k tt)
  renamed_so (Err end) target h k = h

  target_at : (old new : Parts) → ResultAt tree (names.rename_target tree old new)
  target_at old new =
      one_of (length new == 0) _ _ refl (goes_so (names.walked tree [] (names.parent new)) _ (walked_so (names.parent new) [])
      (goes_so (names.freed (names.entry_at tree new)) _ (freed_by (names.entry_at tree new) (names.parent new) (names.last_of new) refl) (one_of (names.is_at (names.parent old) (names.parent new)) _ _ tt (roomy_so (names.parent new)))))

  rename_at : (old new : Parts) → ResultAt tree (names.rename_answer tree old new)
  rename_at old new = done_so (names.renamed_node tree old new) (renamed_so (names.found tree old) (names.rename_target tree old new) (found_at old) (target_at old new))

  counted_so : (r : Result Node NameEnd) (path : Parts) → ResultAt tree r → ResultAt tree (names.count_found tree path r)
  counted_so (Ok nodes.Dir) path h = tt
  counted_so (Ok (nodes.File file)) path h = refl
  counted_so (Ok (nodes.Device device)) path h = refl
  counted_so (Err end) path h = h

  count_at : (path : Parts) → ResultAt tree (names.count_answer tree path)
  count_at path = counted_so (names.found tree path) path (found_at path)

  listed_so : (r : Result (Unit {0}) NameEnd) (path : Parts) → ResultAt tree r → ResultAt tree (listing.listed tree path r)
  listed_so (Ok done) path h = tt
  listed_so (Err end) path h = h

  list_at : (path : Parts) → ResultAt tree (listing.listed tree path (names.done (names.count_answer tree path)))
  list_at path = listed_so (names.done (names.count_answer tree path)) path (done_so (names.count_answer tree path) (count_at path))

-- ---- of the domain in which a path lies, if it lies in one

hangs_so : {A : Type 0} (r : Result A NameEnd) (at : ℕ) (domain : Domain) (domains : List Domain) → slice_get domains at ≡ Some domain → ResultAt domain.names r → ResultSo domains r
hangs_so (Ok value) at domain domains e h = tt
hangs_so (Err (Refused why)) at domain domains e h = h
hangs_so (Err (Redirect path)) at domain domains e h = record { at = at; domain = domain; there = e; linked = h }
hangs_so (Err NoMemory) at domain domains e h = tt

got_so : {A : Type 0} (f : Option Domain → Result A NameEnd) (o : Option Domain) (at : ℕ) (domains : List Domain) → ((domain : Domain) → ResultAt domain.names (f (Some domain))) → ResultSo domains (f None) → slice_get domains at ≡ o → ResultSo domains (f o)
got_so f (Some domain) at domains some none e = hangs_so (f (Some domain)) at domain domains e (some domain)
got_so f None at domains some none e = none

placed_so : {A : Type 0} (f : Option Domain → Result A NameEnd) (o : Option ℕ) (domains : List Domain) → ((domain : Domain) → ResultAt domain.names (f (Some domain))) → ResultSo domains (f None) → ResultSo domains (f (directory.at_place domains o))
placed_so f (Some at) domains some none = got_so f (slice_get domains at) at domains some none refl
placed_so f None domains some none = none

module _ (path : Parts) (s : Server) where
  abbrev place : Option ℕ
  place = position (directory.has_path path) s.domains

  pub found_so : ResultSo s.domains (directory.found_in path s)
  found_so = placed_so (directory.found_by path) place s.domains (λ domain. found_at domain.names path) refl

  pub count_so : ResultSo s.domains (directory.count_in path s)
  count_so = placed_so (directory.count_by path) place s.domains (λ domain. count_at domain.names path) refl

  pub make_so : ResultSo s.domains (directory.make_in path s)
  make_so = placed_so (directory.make_by path) place s.domains (λ domain. make_at domain.names path) refl

  pub remove_so : (whole : Bool) → ResultSo s.domains (directory.remove_in path whole s)
  remove_so whole = placed_so (directory.remove_by path whole) place s.domains (λ domain. remove_at domain.names whole path) refl

  pub rename_so : (new : Parts) → ResultSo s.domains (directory.rename_in path new s)
  rename_so new = placed_so (directory.rename_by path new) place s.domains (λ domain. rename_at domain.names path new) refl

  pub list_so : ResultSo s.domains (listing.list_in path s)
  list_so = placed_so (listing.list_by path) place s.domains (λ domain. list_at domain.names path) refl
