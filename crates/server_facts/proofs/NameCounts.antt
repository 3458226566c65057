-- How many names a file has among a server's names, after names were made, taken away and changed.
use Rattle.std.proofs.Common.{◌≡◌, ◌≤◌, ◌<◌, ℕ, zero, suc, ◌+◌, ◌-◌, ◌==◌, Bool, true, false, ◌||◌, cond, List, [], ◌∷◌, ◌++◌, length, take, slice_get, slice_set, Option, Some, None, Result, Ok, Err, refl, sym, ap, subst, arith, ◌∙◌}
use Rattle.std.specs.List.{list_any}
use Rattle.std.specs.Map.{lookup, remove_entry, set_value}
use Rattle.std.proofs.lemmas.Bool.{false_from_ne_true}
use Rattle.indexmap.specs.IndexMap.{insert_entry}
use Rattle.sprite_ids.specs.declared.Errno.TheVariants.{Exists}
use Rattle.sprite_ids.specs.declared.FileId.{FileId}
use Rattle.sprite_ids.specs.Lists.{less, one_if}
use Rattle.sprite_ids.proofs.ListLaws.{some_is}
use Rattle.server_names.specs.declared.Entry.{Entry}
use Rattle.server_names.specs.declared.Entry.TheVariants as entries
use Rattle.server_names.specs.declared.NameEnd.{NameEnd}
use Rattle.server_names.specs.declared.NameEnd.TheVariants as name_ends
use Rattle.server_names.specs.declared.Node.{Node}
use Rattle.server_names.specs.declared.Node.TheVariants as nodes
use Rattle.server_names.specs.Names as names
use Rattle.server_names.specs.Names.{Listed, Tree, entries_in, entry_at, entry_in, found, is_at, is_part, last_of, made, or_empty, parent, put, removed, unlisted}
use Rattle.server_names.proofs.FoundLaws.{found_entry, given_here, given_other, less_other, path_is}
use Rattle.server_kernel.specs.declared.Domain.{Domain}
use Rattle.server_kernel.specs.Directory as directory
use Rattle.server_kernel.specs.Directory.{Parts}
use Rattle.server_kernel.specs.Files.{is_that}
use Rattle.server_facts.specs.Unlinked.{in_domains, in_listed, in_tree, is_name_of, times}
use Rattle.server_walks.proofs.Deeds.{changed_in, is_a_file}
use Rattle.server_facts.proofs.Tables.{itself}

-- ---- sums

sum_push : (a b c d : ℕ) → b ≡ c + d → a + b ≡ (a + c) + d
sum_push a b c d e = omega arith

sum_first : (a b c d : ℕ) → a ≡ c + d → a + b ≡ (c + b) + d
sum_first a b c d e = omega arith

sum_zero : (a : ℕ) → a + 0 ≡ a
sum_zero a = omega arith

zero_sum : (a : ℕ) → 0 + a ≡ a
zero_sum a = omega arith

pub one_most : (b : Bool) → one_if b ≤ 1
one_most true = omega arith
one_most false = omega arith

-- ---- how often a file stands in a list

pub times_push : (file : FileId) (xs : List FileId) (other : FileId) → times file (xs ++ other ∷ []) ≡ times file xs + one_if (is_that file other)
times_push file [] other = sum_zero (one_if (is_that file other)) ∙ sym (zero_sum (one_if (is_that file other)))
times_push file (x ∷ xs) other = sum_push (one_if (is_that file x)) (times file (xs ++ other ∷ [])) (times file xs) (one_if (is_that file other)) (times_push file xs other)

less_by : (a b c : ℕ) (test : Bool) → b ≤ c → cond {A = ℕ} test c (a + b) ≤ a + c
less_by a b c true h = omega arith
less_by a b c false h = omega arith

cond_times : (test : Bool) (file x : FileId) (xs ys : List FileId) → times file (cond test xs (x ∷ ys)) ≡ cond {A = ℕ} test (times file xs) (one_if (is_that file x) + times file ys)
cond_times true file x xs ys = refl
cond_times false file x xs ys = refl

pub times_less : (file : FileId) (p : FileId → Bool) (xs : List FileId) → times file (less p xs) ≤ times file xs
times_less file p [] = omega arith
times_less file p (x ∷ xs) = subst (λ n. n ≤ one_if (is_that file x) + times file xs) (sym (cond_times (p x) file x xs (less p xs))) (less_by (one_if (is_that file x)) (times file (less p xs)) (times file xs) (p x) (times_less file p xs))

gone_by : (b : Bool) (file x : FileId) (xs : List FileId) → is_that file x ≡ b → one_if b + times file xs ≤ 1 → (times file xs ≤ 1 → times file (less (is_that file) xs) ≡ 0) → times file (cond b xs (x ∷ less (is_that file) xs)) ≡ 0
gone_by true file x xs t few later = omega arith
gone_by false file x xs t few later = ap (λ b. one_if b + times file (less (is_that file) xs)) t ∙ (zero_sum (times file (less (is_that file) xs)) ∙ later (omega arith))

-- one that stands there once at most stands there no more
pub times_gone : (file : FileId) (xs : List FileId) → times file xs ≤ 1 → times file (less (is_that file) xs) ≡ 0
times_gone file [] few = refl
times_gone file (x ∷ xs) few = gone_by (is_that file x) file x xs refl few (times_gone file xs)

any_by : (b c : Bool) (n : ℕ) → (c ≡ true → 1 ≤ n) → (b || c) ≡ true → 1 ≤ one_if b + n
any_by true c n later e = omega arith
any_by false c n later e = let more = later e in omega arith

pub any_times : (file : FileId) (xs : List FileId) → list_any (is_that file) xs ≡ true → 1 ≤ times file xs
any_times file [] e = absurd (cc)
any_times file (x ∷ xs) e = any_by (is_that file x) (list_any (is_that file) xs) (times file xs) (any_times file xs) e

none_by : (b c : Bool) (n : ℕ) → (c ≡ false → n ≡ 0) → (b || c) ≡ false → one_if b + n ≡ 0
none_by true c n later e = absurd (cc)
none_by false c n later e = zero_sum n ∙ later e

pub none_times : (file : FileId) (xs : List FileId) → list_any (is_that file) xs ≡ false → times file xs ≡ 0
none_times file [] e = refl
none_times file (x ∷ xs) e = none_by (is_that file x) (list_any (is_that file) xs) (times file xs) (none_times file xs) e

-- ---- names in a directory

listed_push : (file : FileId) (es : Listed) (e : List ℕ × Entry) → in_listed file (es ++ e ∷ []) ≡ in_listed file es + one_if (is_name_of file e.1)
listed_push file [] e = sum_zero (one_if (is_name_of file e.1)) ∙ sym (zero_sum (one_if (is_name_of file e.1)))
listed_push file (x ∷ es) e = sum_push (one_if (is_name_of file x.1)) (in_listed file (es ++ e ∷ [])) (in_listed file es) (one_if (is_name_of file e.1)) (listed_push file es e)

-- 1 for a looked-up entry that names the file
abbrev found_one : FileId → Option Entry → ℕ
found_one file (Some entry) = one_if (is_name_of file entry)
found_one file None = 0

listed_by : (b : Bool) (file : FileId) (part : List ℕ) (e : List ℕ × Entry) (es : Listed) → in_listed file (remove_entry (is_part part) es) + found_one file (lookup (is_part part) es) ≡ in_listed file es
    → in_listed file (cond b es (e ∷ remove_entry (is_part part) es)) + found_one file (cond b (Some e.1) (lookup (is_part part) es)) ≡ one_if (is_name_of file e.1) + in_listed file es
listed_by true file part e es h = swapped (in_listed file es) (one_if (is_name_of file e.1))
  where
    swapped : (a b : ℕ) → a + b ≡ b + a
    swapped a b = omega arith
listed_by false file part e es h = regrouped (one_if (is_name_of file e.1)) (in_listed file (remove_entry (is_part part) es)) (found_one file (lookup (is_part part) es)) (in_listed file es) h
  where
    regrouped : (a b c d : ℕ) → b + c ≡ d → (a + b) + c ≡ a + d
    regrouped a b c d e = omega arith

listed_less : (file : FileId) (part : List ℕ) (es : Listed) → in_listed file (remove_entry (is_part part) es) + found_one file (lookup (is_part part) es) ≡ in_listed file es
listed_less file part [] = sum_zero 0
listed_less file part (e ∷ es) = listed_by (is_part part e.0) file part e es (listed_less file part es)

-- ---- names in a domain

put_by : (b : Bool) (file : FileId) (d : Parts) (t : Parts × Listed) (ts : Tree) (e : List ℕ × Entry) → in_tree file (insert_entry is_at ts d (or_empty (lookup (is_at d) ts) ++ e ∷ [])) ≡ in_tree file ts + one_if (is_name_of file e.1)
    → in_tree file (cond b ((t.0, or_empty (cond b (Some t.1) (lookup (is_at d) ts)) ++ e ∷ []) ∷ ts) (t ∷ insert_entry is_at ts d (or_empty (cond b (Some t.1) (lookup (is_at d) ts)) ++ e ∷ []))) ≡ (in_listed file t.1 + in_tree file ts) + one_if (is_name_of file e.1)
put_by true file d t ts e h = sum_first (in_listed file (t.1 ++ e ∷ [])) (in_tree file ts) (in_listed file t.1) (one_if (is_name_of file e.1)) (listed_push file t.1 e)
put_by false file d t ts e h = sum_push (in_listed file t.1) (in_tree file (insert_entry is_at ts d (or_empty (lookup (is_at d) ts) ++ e ∷ []))) (in_tree file ts) (one_if (is_name_of file e.1)) h

put_more : (file : FileId) (d : Parts) (tree : Tree) (e : List ℕ × Entry) → in_tree file (insert_entry is_at tree d (or_empty (lookup (is_at d) tree) ++ e ∷ [])) ≡ in_tree file tree + one_if (is_name_of file e.1)
put_more file d [] e = twice_zero (one_if (is_name_of file e.1))
  where
    twice_zero : (a : ℕ) → (a + 0) + 0 ≡ 0 + a
    twice_zero a = omega arith
put_more file d (t ∷ ts) e = put_by (is_at d t.0) file d t ts e (put_more file d ts e)

-- an entry more
pub put_count : (file : FileId) (tree : Tree) (path : Parts) (entry : Entry) → in_tree file (put tree path entry) ≡ in_tree file tree + one_if (is_name_of file entry)
put_count file tree path entry = put_more file (parent path) tree (last_of path, entry)

set_by : (b : Bool) (file : FileId) (d : Parts) (part : List ℕ) (t : Parts × Listed) (ts : Tree) → in_tree file (set_value (is_at d) ts (remove_entry (is_part part) (or_empty (lookup (is_at d) ts)))) + found_one file (lookup (is_part part) (or_empty (lookup (is_at d) ts))) ≡ in_tree file ts
    → in_tree file (cond b ((t.0, remove_entry (is_part part) (or_empty (cond b (Some t.1) (lookup (is_at d) ts)))) ∷ ts) (t ∷ set_value (is_at d) ts (remove_entry (is_part part) (or_empty (cond b (Some t.1) (lookup (is_at d) ts))))))
    + found_one file (lookup (is_part part) (or_empty (cond b (Some t.1) (lookup (is_at d) ts)))) ≡ in_listed file t.1 + in_tree file ts
set_by true file d part t ts h = first_less (in_listed file (remove_entry (is_part part) t.1)) (in_tree file ts) (found_one file (lookup (is_part part) t.1)) (in_listed file t.1) (listed_less file part t.1)
  where
    first_less : (a b c d : ℕ) → a + c ≡ d → (a + b) + c ≡ d + b
    first_less a b c d e = omega arith
set_by false file d part t ts h = rest_less (in_listed file t.1) (in_tree file (set_value (is_at d) ts (remove_entry (is_part part) (or_empty (lookup (is_at d) ts))))) (found_one file (lookup (is_part part) (or_empty (lookup (is_at d) ts)))) (in_tree file ts) h
  where
    rest_less : (a b c d : ℕ) → b + c ≡ d → (a + b) + c ≡ a + d
    rest_less a b c d e = omega arith

set_less : (file : FileId) (d : Parts) (part : List ℕ) (tree : Tree) → in_tree file (set_value (is_at d) tree (remove_entry (is_part part) (or_empty (lookup (is_at d) tree)))) + found_one file (lookup (is_part part) (or_empty (lookup (is_at d) tree))) ≡ in_tree file tree
set_less file d part [] = sum_zero 0
set_less file d part (t ∷ ts) = set_by (is_at d t.0) file d part t ts (set_less file d part ts)

-- an entry fewer
unlisted_count : (file : FileId) (tree : Tree) (d : Parts) (part : List ℕ) → in_tree file (unlisted tree d part) + found_one file (entry_in tree d part) ≡ in_tree file tree
unlisted_count file tree d part = set_less file d part tree

drop_by : (b : Bool) (file : FileId) (t : Parts × Listed) (ts dropped : Tree) → in_tree file dropped ≤ in_tree file ts → in_tree file (cond b ts (t ∷ dropped)) ≤ in_listed file t.1 + in_tree file ts
drop_by true file t ts dropped h = behind (in_listed file t.1) (in_tree file ts)
  where
    behind : (a b : ℕ) → b ≤ a + b
    behind a b = omega arith
drop_by false file t ts dropped h = both (in_listed file t.1) (in_tree file dropped) (in_tree file ts) h
  where
    both : (a b c : ℕ) → b ≤ c → a + b ≤ a + c
    both a b c h = omega arith

drop_less : (file : FileId) (path : Parts) (tree : Tree) → in_tree file (remove_entry (is_at path) tree) ≤ in_tree file tree
drop_less file path [] = omega arith
drop_less file path (t ∷ ts) = drop_by (is_at path t.0) file t ts (remove_entry (is_at path) ts) (drop_less file path ts)

part_of : (a b c d : ℕ) → a + b ≡ c → c ≤ d → a ≤ d
part_of a b c d e h = omega arith

-- no file has more names where one is taken away
pub removed_less : (file : FileId) (tree : Tree) (path : Parts) → in_tree file (removed tree path) ≤ in_tree file tree
removed_less file tree path =
    let dropped : Tree = remove_entry (is_at path) tree in
    part_of (in_tree file (unlisted dropped (parent path) (last_of path))) (found_one file (entry_in dropped (parent path) (last_of path))) (in_tree file dropped) (in_tree file tree) (unlisted_count file dropped (parent path) (last_of path)) (drop_less file path tree)

take_short : (n : ℕ) (xs : Parts) → length (take n xs) ≤ n
take_short zero xs = omega arith
take_short (suc n) [] = omega arith
take_short (suc n) (x ∷ xs) = let rest = take_short n xs in omega arith

parent_apart : (path : Parts) → 0 < length path → is_at (parent path) path ≡ false
parent_apart path h = false_from_ne_true (is_at (parent path) path) (λ e.
    let short : length (parent path) ≤ length path - 1 = take_short (length path - 1) path in
    let same : length (parent path) ≡ length path = ap length (path_is (parent path) path e) in
    omega arith)

long_by : (n : ℕ) (node : Node) (rest : Result Node NameEnd) (file : FileId) → cond (n == 0) (Ok nodes.Dir) rest ≡ Ok (nodes.File file) → 0 < n
long_by zero node rest file e = absurd (cc)
long_by (suc n) node rest file e = omega arith

-- and the file whose name it is has one fewer
pub removed_one_less : (file : FileId) (tree : Tree) (path : Parts) → found tree path ≡ Ok (nodes.File file) → suc (in_tree file (removed tree path)) ≤ in_tree file tree
removed_one_less file tree path e =
    let dropped : Tree = remove_entry (is_at path) tree in
    let long : 0 < length path = long_by (length path) nodes.Dir _ file e in
    let there : entry_at tree path ≡ Some (entries.Node (nodes.File file)) = found_entry tree path (nodes.File file) e refl in
    let still : entry_in dropped (parent path) (last_of path) ≡ Some (entries.Node (nodes.File file)) =
    ap (λ (o : Option Listed). lookup (is_part (last_of path)) (or_empty o)) (less_other (is_at (parent path)) tree path (parent_apart path long)) ∙ there in
    let one : found_one file (entry_in dropped (parent path) (last_of path)) ≡ 1 = ap (found_one file) still ∙ ap one_if (itself file) in
    less_one (in_tree file (unlisted dropped (parent path) (last_of path))) (found_one file (entry_in dropped (parent path) (last_of path))) (in_tree file dropped) (in_tree file tree) (unlisted_count file dropped (parent path) (last_of path)) one (drop_less file path tree)
  where
    less_one : (a b c d : ℕ) → a + b ≡ c → b ≡ 1 → c ≤ d → suc a ≤ d
    less_one a b c d e one h = omega arith

-- ---- a rename

found_first : (part : List ℕ) (es : Listed) (x : List ℕ × Entry) (e : Entry) → lookup (is_part part) es ≡ Some e → lookup (is_part part) (es ++ x ∷ []) ≡ Some e
found_first part [] x e h = absurd (cc)
found_first part (y ∷ es) x e h = by_test (is_part part y.0) (found_first part es x e) h
  where
    by_test : (b : Bool) → (lookup (is_part part) es ≡ Some e → lookup (is_part part) (es ++ x ∷ []) ≡ Some e) → cond b (Some y.1) (lookup (is_part part) es) ≡ Some e → cond b (Some y.1) (lookup (is_part part) (es ++ x ∷ [])) ≡ Some e
    by_test true later h = h
    by_test false later h = later h

-- what has a name still has it where another one is made
still_named : (tree : Tree) (d d' : Parts) (part : List ℕ) (x : List ℕ × Entry) (e : Entry) → entry_in tree d part ≡ Some e → entry_in (insert_entry is_at tree d' (entries_in tree d' ++ x ∷ [])) d part ≡ Some e
still_named tree d d' part x e h = by_test (is_at d d') refl
  where
    new : Tree
    new = insert_entry is_at tree d' (entries_in tree d' ++ x ∷ [])

    by_test : (b : Bool) → is_at d d' ≡ b → entry_in new d part ≡ Some e
    by_test true t =
        subst (λ (p : Parts). entry_in new p part ≡ Some e) (sym (path_is d d' t))
        (ap (lookup (is_part part)) (given_here tree d' (entries_in tree d' ++ x ∷ [])) ∙ found_first part (entries_in tree d') x e (subst (λ (p : Parts). entry_in tree p part ≡ Some e) (path_is d d' t) h))
    by_test false t = ap (λ (o : Option Listed). lookup (is_part part) (or_empty o)) (given_other (is_at d) tree d' (entries_in tree d' ++ x ∷ []) t) ∙ h

moved_less : (a b c d e : ℕ) → a + b ≡ c → c ≡ d + e → e ≤ b → a ≤ d
moved_less a b c d e h k l = omega arith

renamed_by : (node : Node) (file : FileId) (tree : Tree) (old new : Parts) → found tree old ≡ Ok node → one_if (is_name_of file (entries.Node node)) ≤ found_one file (entry_in (made tree new node) (parent old) (last_of old))
renamed_by nodes.Dir file tree old new e = omega arith
renamed_by (nodes.Device device) file tree old new e = omega arith
renamed_by (nodes.File other) file tree old new e =
    let there : entry_at tree old ≡ Some (entries.Node (nodes.File other)) = found_entry tree old (nodes.File other) e refl in
    let still = still_named tree (parent old) (parent new) (last_of old) (last_of new, entries.Node (nodes.File other)) (entries.Node (nodes.File other)) there in
    subst (λ (o : Option Entry). one_if (is_that file other) ≤ found_one file o) (sym still) (self (one_if (is_that file other)))
  where
    self : (a : ℕ) → a ≤ a
    self a = omega arith

-- no file has more names after a rename
pub renamed_less : (file : FileId) (tree : Tree) (old new : Parts) (node : Node) → found tree old ≡ Ok node → in_tree file (names.renamed tree old new node) ≤ in_tree file tree
renamed_less file tree old new node e =
    let next : Tree = made tree new node in
    moved_less (in_tree file (unlisted next (parent old) (last_of old))) (found_one file (entry_in next (parent old) (last_of old))) (in_tree file next) (in_tree file tree) (one_if (is_name_of file (entries.Node node)))
    (unlisted_count file next (parent old) (last_of old)) (put_count file tree new (entries.Node node)) (renamed_by node file tree old new e)

-- ---- at the server

set_domains : (file : FileId) (domains : List Domain) (at : ℕ) (domain new : Domain) → slice_get domains at ≡ Some domain → in_domains file (slice_set domains at new) + in_tree file domain.names ≡ in_domains file domains + in_tree file new.names
set_domains file [] at domain new e = absurd (cc)
set_domains file (first ∷ rest) zero domain new e =
    subst (λ (d : Domain). (in_tree file new.names + in_domains file rest) + in_tree file d.names ≡ (in_tree file first.names + in_domains file rest) + in_tree file new.names) (some_is first domain e)
    (swapped (in_tree file new.names) (in_domains file rest) (in_tree file first.names))
  where
    swapped : (a b c : ℕ) → (a + b) + c ≡ (c + b) + a
    swapped a b c = omega arith
set_domains file (first ∷ rest) (suc at) domain new e = behind (in_tree file first.names) (in_domains file (slice_set rest at new)) (in_tree file domain.names) (in_domains file rest) (in_tree file new.names) (set_domains file rest at domain new e)
  where
    behind : (a b c d f : ℕ) → b + c ≡ d + f → (a + b) + c ≡ (a + d) + f
    behind a b c d f e = omega arith

-- so many names more at most
pub put_domains : (file : FileId) (domains : List Domain) (at more : ℕ) (domain new : Domain) → slice_get domains at ≡ Some domain → in_tree file new.names ≤ in_tree file domain.names + more → in_domains file (slice_set domains at new) ≤ in_domains file domains + more
put_domains file domains at more domain new e h = within (in_domains file (slice_set domains at new)) (in_tree file domain.names) (in_domains file domains) (in_tree file new.names) more (set_domains file domains at domain new e) h
  where
    within : (a b c d m : ℕ) → a + b ≡ c + d → d ≤ b + m → a ≤ c + m
    within a b c d m e h = omega arith

either_by : (found : Option Domain) (file : FileId) (change : Domain → Domain) (at more : ℕ) (domains : List Domain) → slice_get domains at ≡ found → ((domain : Domain) → in_tree file (change domain).names ≤ in_tree file domain.names + more) → in_domains file (directory.change_at at change found domains) ≤ in_domains file domains + more
either_by (Some domain) file change at more domains e h = put_domains file domains at more domain (change domain) e (h domain)
either_by None file change at more domains e h = self (in_domains file domains) more
  where
    self : (a m : ℕ) → a ≤ a + m
    self a m = omega arith

pub changed_most : (o : Option ℕ) (file : FileId) (change : Domain → Domain) (more : ℕ) (domains : List Domain) → ((domain : Domain) → in_tree file (change domain).names ≤ in_tree file domain.names + more) → in_domains file (changed_in change o domains) ≤ in_domains file domains + more
changed_most (Some at) file change more domains h = either_by (slice_get domains at) file change at more domains refl h
changed_most None file change more domains h = self (in_domains file domains) more
  where
    self : (a m : ℕ) → a ≤ a + m
    self a m = omega arith

at_most : (a b : ℕ) → a ≤ b → a ≤ b + 0
at_most a b h = omega arith

pub made_most : (o : Option ℕ) (file : FileId) (path : Parts) (node : Node) (domains : List Domain) → in_domains file (changed_in (directory.made_domain path node) o domains) ≤ in_domains file domains + one_if (is_name_of file (entries.Node node))
made_most o file path node domains = changed_most o file (directory.made_domain path node) (one_if (is_name_of file (entries.Node node))) domains (λ domain. equals _ _ (put_count file domain.names path (entries.Node node)))
  where
    equals : (a b : ℕ) → a ≡ b → a ≤ b
    equals a b e = omega arith

pub removed_most : (o : Option ℕ) (file : FileId) (path : Parts) (domains : List Domain) → in_domains file (changed_in (directory.removed_domain path) o domains) ≤ in_domains file domains + 0
removed_most o file path domains = changed_most o file (directory.removed_domain path) 0 domains (λ domain. at_most _ _ (removed_less file domain.names path))

renamed_in : (found_node : Result Node NameEnd) (file : FileId) (old new : Parts) (domain : Domain) → found domain.names old ≡ found_node → in_tree file (directory.renamed_found old new found_node domain).names ≤ in_tree file domain.names + 0
renamed_in (Ok node) file old new domain e = at_most _ _ (renamed_less file domain.names old new node e)
renamed_in (Err end) file old new domain e = self (in_tree file domain.names)
  where
    self : (a : ℕ) → a ≤ a + 0
    self a = omega arith

pub renamed_most : (o : Option ℕ) (file : FileId) (old new : Parts) (domains : List Domain) → in_domains file (changed_in (directory.renamed_domain old new) o domains) ≤ in_domains file domains + 0
renamed_most o file old new domains = changed_most o file (directory.renamed_domain old new) 0 domains (λ domain. renamed_in (found domain.names old) file old new domain refl)

gone_in : (found_domain : Option Domain) (file : FileId) (path : Parts) (at : ℕ) (domains : List Domain) → slice_get domains at ≡ found_domain → directory.found_by path found_domain ≡ Ok (nodes.File file) → suc (in_domains file (directory.change_at at (directory.removed_domain path) found_domain domains)) ≤ in_domains file domains
gone_in (Some domain) file path at domains e f = fewer (in_domains file (slice_set domains at (directory.removed_domain path domain))) (in_tree file domain.names) (in_domains file domains) (in_tree file (removed domain.names path)) (set_domains file domains at domain (directory.removed_domain path domain) e) (removed_one_less file domain.names path f)
  where
    fewer : (a b c d : ℕ) → a + b ≡ c + d → suc d ≤ b → suc a ≤ c
    fewer a b c d e h = omega arith
gone_in None file path at domains e f = absurd (cc)

-- a file whose name is taken away has one fewer
pub unnamed_fewer : (o : Option ℕ) (file : FileId) (path : Parts) (domains : List Domain) → directory.found_by path (directory.at_place domains o) ≡ Ok (nodes.File file) → suc (in_domains file (changed_in (directory.removed_domain path) o domains)) ≤ in_domains file domains
unnamed_fewer (Some at) file path domains f = gone_in (slice_get domains at) file path at domains refl f
unnamed_fewer None file path domains f = absurd (cc)

-- what is no file has no file's name
pub no_file : (node : Node) (file : FileId) → is_a_file node ≡ false → one_if (is_name_of file (entries.Node node)) ≡ 0
no_file nodes.Dir file e = refl
no_file (nodes.Device device) file e = refl
no_file (nodes.File other) file e = absurd (cc)

-- ---- names as the cluster begins

tree_is : (x y : Tree) → ◌≡◌ {A = Result Tree NameEnd} (Ok x) (Ok y) → x ≡ y
tree_is x y e = cc

pub entry_made_count : (file : FileId) (tree next : Tree) (path : Parts) (entry : Entry) → names.entry_made tree path entry ≡ Ok next → in_tree file next ≡ in_tree file tree + one_if (is_name_of file entry)
entry_made_count file tree next path entry e = by_answer (names.make_answer tree path) e
  where
    by_answer : (r : Result (Unit {0}) NameEnd) → names.goes_on r (Ok (put tree path entry)) ≡ Ok next → in_tree file next ≡ in_tree file tree + one_if (is_name_of file entry)
    by_answer (Ok done) e = ap (in_tree file) (sym (tree_is (put tree path entry) next e)) ∙ put_count file tree path entry
    by_answer (Err end) e = absurd (cc)

then_ok : (r : Result Tree NameEnd) (f : Tree → Result Tree NameEnd) (next : Tree) → names.and_then r f ≡ Ok next → (mid : Tree) × (r ≡ Ok mid) × (f mid ≡ Ok next)
then_ok (Ok mid) f next e = (mid, refl, e)
then_ok (Err end) f next e = absurd (cc)

on_way_count : (r : Result Tree NameEnd) (file : FileId) (tree next : Tree) (path : Parts) → names.entry_made tree path (entries.Node nodes.Dir) ≡ r → names.on_way tree r ≡ Ok next → in_tree file next ≡ in_tree file tree
on_way_count (Ok made) file tree next path e f = ap (in_tree file) (sym (tree_is made next f)) ∙ (entry_made_count file tree made path (entries.Node nodes.Dir) e ∙ sum_zero (in_tree file tree))
on_way_count (Err name_ends.NoMemory) file tree next path e f = absurd (cc)
on_way_count (Err (name_ends.Redirect link)) file tree next path e f = absurd (cc)
on_way_count (Err (name_ends.Errno Exists)) file tree next path e f = ap (in_tree file) (sym (tree_is tree next f))
on_way_count (Err (name_ends.Errno why)) file tree next path e f = absurd (cc)

way_count : (parts : Parts) (file : FileId) (tree next : Tree) (here : Parts) → names.with_way tree here parts ≡ Ok next → in_tree file next ≡ in_tree file tree
way_count [] file tree next here e = ap (in_tree file) (sym (tree_is tree next e))
way_count (part ∷ rest) file tree next here e =
    let path : Parts = here ++ part ∷ [] in
    let got = then_ok (names.on_way tree (names.entry_made tree path (entries.Node nodes.Dir))) (λ (mid : Tree). names.with_way mid path rest) next e in
    way_count rest file got.0 next path got.2 ∙ on_way_count (names.entry_made tree path (entries.Node nodes.Dir)) file tree got.0 path refl got.1

-- an entry with the directories above it
pub booted_count : (file : FileId) (tree next : Tree) (path : Parts) (entry : Entry) → names.booted tree path entry ≡ Ok next → in_tree file next ≡ in_tree file tree + one_if (is_name_of file entry)
booted_count file tree next path entry e =
    let got = then_ok (names.with_way tree [] (parent path)) (λ (mid : Tree). names.entry_made mid path entry) next e in
    entry_made_count file got.0 next path entry got.2 ∙ ap (λ n. n + one_if (is_name_of file entry)) (way_count (parent path) file tree got.0 [] got.1)

pub hung_count : (links : List Parts) (file : FileId) (tree next : Tree) → names.hung_all tree links ≡ Ok next → in_tree file next ≡ in_tree file tree
hung_count [] file tree next e = ap (in_tree file) (sym (tree_is tree next e))
hung_count (link ∷ links) file tree next e =
    let got = then_ok (names.booted tree link (entries.Link link)) (λ (mid : Tree). names.hung_all mid links) next e in
    hung_count links file got.0 next got.2 ∙ (booted_count file tree got.0 link (entries.Link link) got.1 ∙ sum_zero (in_tree file tree))
