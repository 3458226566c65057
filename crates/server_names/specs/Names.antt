-- The names of one domain, below its root.
use Rattle.std.specs.Prelude.{◌≡◌, ℕ, ◌+◌, ◌-◌, ◌≤◌, ◌<◌, ◌==◌, nat_lt, nat_eq, Bool, true, false, if◌then◌else◌, List, [], ◌∷◌, ◌++◌, length, take, slice_get, Option, Some, None, Result, Ok, Err}
use Rattle.std.specs.List.{AllByRecursion, flat_map}
use Rattle.std.specs.List.Sorted.{IsPermutation, IsSorted}
use Rattle.std.specs.Ordering.{nat_cmp}
use Rattle.std.specs.Map.{keys_of, lookup, remove_entry, set_value}
use Rattle.indexmap.specs.IndexMap.{insert_entry}
use Rattle.std.specs.Cmp.Lexicographic.{pointwise, slice_cmp}
use Rattle.sprite_ids.specs.declared.Errno.TheVariants.{NoEntry, Exists, NotDir, IsDir, NotEmpty, TooMany, Busy}
use Rattle.server_names.specs.declared.end.NameEnd.{NameEnd}
use Rattle.server_names.specs.declared.end.NameEnd.TheVariants.{Errno as Refused, Redirect, NoMemory}
use Rattle.server_names.specs.declared.name.Node.{Node}
use Rattle.server_names.specs.declared.name.Node.TheVariants.{Dir, File, Device}
use Rattle.server_names.specs.declared.name.Entry.{Entry}
use Rattle.server_names.specs.declared.name.Entry.TheVariants.{Node as Named, Link}

-- the entries of a directory in the order in which they were made, each with its name
abbrev pub Listed : Type 0
Listed = List (List ℕ × Entry)

-- the directories that had entries, each by its path, in the order of their first ones
abbrev pub Tree : Type 0
Tree = List (List (List ℕ) × Listed)

-- whether the two are one path
abbrev pub is_at : List (List ℕ) → List (List ℕ) → Bool
is_at path other = pointwise (pointwise nat_eq) path other

-- whether the two are one name
abbrev pub is_part : List ℕ → List ℕ → Bool
is_part part other = pointwise nat_eq part other

-- looked-up entries, or none
abbrev pub or_empty : Option Listed → Listed
or_empty (Some entries) = entries
or_empty None = []

-- the entries of a directory
abbrev pub entries_in : Tree → List (List ℕ) → Listed
entries_in tree directory = or_empty (lookup (is_at directory) tree)

-- the entry of that name in a directory
abbrev pub entry_in : Tree → List (List ℕ) → List ℕ → Option Entry
entry_in tree directory part = lookup (is_part part) (entries_in tree directory)

-- the directory that has the path's last part
abbrev pub parent : List (List ℕ) → List (List ℕ)
parent path = take (length path - 1) path

-- a looked-up part, or no bytes
abbrev pub or_none : Option (List ℕ) → List ℕ
or_none (Some part) = part
or_none None = []

-- the last part of a path
abbrev pub last_of : List (List ℕ) → List ℕ
last_of parts = or_none (slice_get parts (length parts - 1))

-- the entry of that path
abbrev pub entry_at : Tree → List (List ℕ) → Option Entry
entry_at tree path = entry_in tree (parent path) (last_of path)

-- whether the entry has that name
abbrev pub is_listed : List ℕ → List ℕ × Entry → Bool
is_listed part listed = is_part part listed.0

-- the entries of a looked-up directory, or none
abbrev pub or_first : Option (List (List ℕ) × Listed) → Listed
or_first (Some directory) = directory.1
or_first None = []

-- the entries of the directory at a place
abbrev pub listed_at : Tree → ℕ → Listed
listed_at tree at = or_first (slice_get tree at)

-- how many entries a directory has
abbrev pub count : Tree → List (List ℕ) → ℕ
count tree directory = length (entries_in tree directory)

-- the directories with one more entry in one of them, behind its others
abbrev pub listed : Tree → List (List ℕ) → List ℕ → Entry → Tree
listed tree directory part entry = insert_entry is_at tree directory (entries_in tree directory ++ (part, entry) ∷ [])

-- the directories without that entry of one of them
abbrev pub unlisted : Tree → List (List ℕ) → List ℕ → Tree
unlisted tree directory part = set_value (is_at directory) tree (remove_entry (is_part part) (entries_in tree directory))

-- the first of two, and the second where it is Ok
abbrev pub goes_on : {A : Type 0} → Result (Unit {0}) NameEnd → Result A NameEnd → Result A NameEnd
goes_on (Ok done) next = next
goes_on (Err end) next = Err end

-- whether a walk goes on at a looked-up entry
abbrev pub passed : Option Entry → Result (Unit {0}) NameEnd
passed None = Err (Refused NoEntry)
passed (Some (Named Dir)) = Ok tt
passed (Some (Named (File file))) = Err (Refused NotDir)
passed (Some (Named (Device device))) = Err (Refused NotDir)
passed (Some (Link path)) = Err (Redirect path)

-- a walk from there on by these parts
abbrev pub walked : Tree → List (List ℕ) → List (List ℕ) → Result (Unit {0}) NameEnd
walked tree here [] = Ok tt
walked tree here (part ∷ rest) = goes_on (passed (entry_in tree here part)) (walked tree (here ++ part ∷ []) rest)

-- what a looked-up entry names
abbrev pub named : Option Entry → Result Node NameEnd
named None = Err (Refused NoEntry)
named (Some (Named node)) = Ok node
named (Some (Link path)) = Err (Redirect path)

-- what the path names: the domain's root is a directory
abbrev pub found : Tree → List (List ℕ) → Result Node NameEnd
found tree path = if length path == 0 then Ok Dir else goes_on (walked tree [] (parent path)) (named (entry_at tree path))

-- whether a looked-up name is free
abbrev pub freed : Option Entry → Result (Unit {0}) NameEnd
freed None = Ok tt
freed (Some (Named node)) = Err (Refused Exists)
freed (Some (Link path)) = Err (Redirect path)

-- whether the directory takes one more entry
abbrev pub roomy : Tree → List (List ℕ) → Result (Unit {0}) NameEnd
roomy tree directory = if nat_lt (count tree directory) 256 then Ok tt else Err (Refused TooMany)

-- what making a name answers
abbrev pub make_answer : Tree → List (List ℕ) → Result (Unit {0}) NameEnd
make_answer tree path = if length path == 0 then Err (Refused Exists) else goes_on (walked tree [] (parent path)) (goes_on (freed (entry_at tree path)) (roomy tree (parent path)))

-- the names with one more entry
abbrev pub put : Tree → List (List ℕ) → Entry → Tree
put tree path entry = listed tree (parent path) (last_of path) entry

-- the names after one was made
abbrev pub made : Tree → List (List ℕ) → Node → Tree
made tree path node = put tree path (Named node)

-- whether a node can be taken away: a directory only as one and without entries, any other node only as none
abbrev pub removable : Tree → List (List ℕ) → Bool → Node → Result Node NameEnd
removable tree path true Dir = if count tree path == 0 then Ok Dir else Err (Refused NotEmpty)
removable tree path true (File file) = Err (Refused NotDir)
removable tree path true (Device device) = Err (Refused NotDir)
removable tree path false Dir = Err (Refused IsDir)
removable tree path false (File file) = Ok (File file)
removable tree path false (Device device) = Ok (Device device)

-- the same for what was found
abbrev pub removable_found : Tree → List (List ℕ) → Bool → Result Node NameEnd → Result Node NameEnd
removable_found tree path directory (Ok node) = removable tree path directory node
removable_found tree path directory (Err end) = Err end

-- what taking a name away answers: the domain's root is in use
abbrev pub remove_answer : Tree → List (List ℕ) → Bool → Result Node NameEnd
remove_answer tree path directory = if length path == 0 then Err (Refused (if directory then Busy else IsDir)) else removable_found tree path directory (found tree path)

-- the names without that one
abbrev pub removed : Tree → List (List ℕ) → Tree
removed tree path = unlisted (remove_entry (is_at path) tree) (parent path) (last_of path)

-- whether a node can be renamed
abbrev pub renamable : Node → Result (Unit {0}) NameEnd
renamable Dir = Err (Refused IsDir)
renamable (File file) = Ok tt
renamable (Device device) = Ok tt

-- whether the new name can be made; its directory must have room for it where it isn't the old name's
abbrev pub rename_target : Tree → List (List ℕ) → List (List ℕ) → Result (Unit {0}) NameEnd
rename_target tree old new = if length new == 0 then Err (Refused Exists) else goes_on (walked tree [] (parent new)) (goes_on (freed (entry_at tree new)) (if is_at (parent old) (parent new) then Ok tt else roomy tree (parent new)))

-- what is renamed, of what was found
abbrev pub renamed_found : Result Node NameEnd → Result (Unit {0}) NameEnd → Result Node NameEnd
renamed_found (Ok node) target = goes_on (renamable node) (goes_on target (Ok node))
renamed_found (Err end) target = Err end

-- what is renamed
abbrev pub renamed_node : Tree → List (List ℕ) → List (List ℕ) → Result Node NameEnd
renamed_node tree old new = renamed_found (found tree old) (rename_target tree old new)

-- an answer without its value
abbrev pub done : {A : Type 0} → Result A NameEnd → Result (Unit {0}) NameEnd
done (Ok value) = Ok tt
done (Err end) = Err end

-- what renaming answers
abbrev pub rename_answer : Tree → List (List ℕ) → List (List ℕ) → Result (Unit {0}) NameEnd
rename_answer tree old new = done (renamed_node tree old new)

-- the names after one was renamed
abbrev pub renamed : Tree → List (List ℕ) → List (List ℕ) → Node → Tree
renamed tree old new node = unlisted (made tree new node) (parent old) (last_of old)

-- a name was renamed: the node that the old one named has the new one
pub record IsRenamed (before after : Tree) (old new : List (List ℕ)) : Type 0 where
  pub node : Node
  pub found_node : found before old ≡ Ok node
  pub after_is : after ≡ renamed before old new node

-- how many entries a found directory has
abbrev pub count_found : Tree → List (List ℕ) → Result Node NameEnd → Result ℕ NameEnd
count_found tree path (Ok Dir) = Ok (count tree path)
count_found tree path (Ok (File file)) = Err (Refused NotDir)
count_found tree path (Ok (Device device)) = Err (Refused NotDir)
count_found tree path (Err end) = Err end

-- how many entries the directory has
abbrev pub count_answer : Tree → List (List ℕ) → Result ℕ NameEnd
count_answer tree path = count_found tree path (found tree path)

-- what is answered is that, but for want of memory
abbrev pub Answers : {A : Type 0} → Result A NameEnd → Result A NameEnd → Type 0
Answers (Ok answer) wanted = wanted ≡ Ok answer
Answers (Err (Refused errno)) wanted = wanted ≡ Err (Refused errno)
Answers (Err (Redirect path)) wanted = wanted ≡ Err (Redirect path)
Answers (Err NoMemory) wanted = Unit {0}

-- the names of a directory's entries, in the order in which they were made
abbrev pub names_in : Tree → List (List ℕ) → List (List ℕ)
names_in tree directory = keys_of (entries_in tree directory)

-- each of the names, with a byte 10 behind it
abbrev pub lines : List (List ℕ) → List ℕ
lines names = flat_map (λ name. name ++ 10 ∷ []) names

-- the names of a directory's entries in the order of their bytes, as lines
pub record IsListing (tree : Tree) (directory : List (List ℕ)) (text : List ℕ) : Type 0 where
  pub names : List (List ℕ)
  pub same : IsPermutation (names_in tree directory) names
  pub sorted : IsSorted (slice_cmp nat_cmp) names
  pub text_is : text ≡ lines names

-- what a step gave, and then what the next one makes of it
abbrev pub and_then : Result Tree NameEnd → (Tree → Result Tree NameEnd) → Result Tree NameEnd
and_then (Ok tree) next = next tree
and_then (Err end) next = Err end

-- the names after an entry was made, where it can be
abbrev pub entry_made : Tree → List (List ℕ) → Entry → Result Tree NameEnd
entry_made tree path entry = goes_on (make_answer tree path) (Ok (put tree path entry))

-- what making a directory on a way gave: one that is there serves
abbrev pub on_way : Tree → Result Tree NameEnd → Result Tree NameEnd
on_way tree (Ok next) = Ok next
on_way tree (Err NoMemory) = Err NoMemory
on_way tree (Err (Redirect path)) = Err (Redirect path)
on_way tree (Err (Refused Exists)) = Ok tree
on_way tree (Err (Refused errno)) = Err (Refused errno)

-- the names with the directories on a way from there on
abbrev pub with_way : Tree → List (List ℕ) → List (List ℕ) → Result Tree NameEnd
with_way tree here [] = Ok tree
with_way tree here (part ∷ rest) = and_then (on_way tree (entry_made tree (here ++ part ∷ []) (Named Dir))) (λ next. with_way next (here ++ part ∷ []) rest)

-- the names with an entry, and with the directories above it
abbrev pub booted : Tree → List (List ℕ) → Entry → Result Tree NameEnd
booted tree path entry = and_then (with_way tree [] (parent path)) (λ next. entry_made next path entry)

-- the names with these remote links, and with the directories above them
abbrev pub hung_all : Tree → List (List (List ℕ)) → Result Tree NameEnd
hung_all tree [] = Ok tree
hung_all tree (link ∷ links) = and_then (booted tree link (Link link)) (λ next. hung_all next links)

-- each of the entries has a name of its own
abbrev pub AreOnce : Listed → Type 0
AreOnce [] = Unit {0}
AreOnce (first ∷ rest) = (lookup (is_part first.0) rest ≡ None) × AreOnce rest

-- what each directory keeps
pub record IsDirectory (entries : Listed) : Type 0 where
  pub few : length entries ≤ 256
  pub once : AreOnce entries

-- each directory is listed once
abbrev pub AreListedOnce : Tree → Type 0
AreListedOnce [] = Unit {0}
AreListedOnce (first ∷ rest) = (lookup (is_at first.0) rest ≡ None) × AreListedOnce rest

-- each directory that has entries, but the root, is named as a directory by the one above it
abbrev pub AreNamed : Tree → Type 0
AreNamed tree = (directory : List (List ℕ)) → 0 < length directory → 0 < count tree directory → entry_at tree directory ≡ Some (Named Dir)

-- what the names of a domain keep
pub record IsSound (tree : Tree) : Type 0 where
  pub directories : AllByRecursion (λ directory. IsDirectory directory.1) tree
  pub once : AreListedOnce tree
  pub are_named : AreNamed tree
