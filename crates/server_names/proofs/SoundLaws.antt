-- What each call keeps: each directory is listed once, and is named as one by the directory above it.
use Rattle.std.proofs.Common.{◌≡◌, ℕ, zero, suc, ◌-◌, ◌≤◌, ◌<◌, ◌==◌, Bool, true, false, inl, inr, cond, List, [], ◌∷◌, ◌++◌, length, take, slice_get, Option, Some, None, Ok, refl, sym, ap, subst, ◌∙◌, arith, length-append}
use Rattle.std.specs.Map.{lookup, remove_entry, set_value}
use Rattle.std.proofs.lemmas.List.{append-nil}
use Rattle.std.proofs.lemmas.Bool.{cases_Bool, cond-true, cond-false, eqb-true, true≢false}
use Rattle.indexmap.specs.IndexMap.{insert_entry}
use Rattle.server_names.specs.declared.name.Node.{Node}
use Rattle.server_names.specs.declared.name.Node.TheVariants.{Dir, File, Device}
use Rattle.server_names.specs.declared.name.Entry.{Entry}
use Rattle.server_names.specs.declared.name.Entry.TheVariants.{Node as Named, Link}
use Rattle.server_names.specs.Names.{Tree, Listed, is_at, is_part, or_none, or_empty, entries_in, entry_in, entry_at, count, parent, last_of, listed, unlisted, goes_on, passed, walked, named, freed, found, roomy, make_answer, put, made, removable, removable_found, remove_answer, removed, renamable, renamed_node, renamed, rename_target, AreListedOnce, AreNamed, IsSound}
use Rattle.server_names.proofs.FoundLaws.{look_here, look_on, none_on, look_less, part_is, part_turned, path_is, path_itself, given_here, given_other, set_other, less_other, few_less, goes_parts, positive, removable_ok, ok_is, renamed_parts, found_entry, can_be_made, are_made, are_less, are_unlisted, are_renamed}

-- ---- a path is its directory's and its last part

split_at : (path : List (List ℕ)) (at : ℕ) → suc at ≡ length path → take at path ++ or_none (slice_get path at) ∷ [] ≡ path
split_at [] at h = absurd (omega arith)
split_at (part ∷ []) zero h = refl
split_at (part ∷ []) (suc at) h = absurd (omega arith)
split_at (part ∷ next ∷ rest) zero h = absurd (omega arith)
split_at (part ∷ next ∷ rest) (suc at) h = ap (λ (ps : List (List ℕ)). part ∷ ps) (split_at (next ∷ rest) at (omega arith))

split_path : (path : List (List ℕ)) → 0 < length path → parent path ++ last_of path ∷ [] ≡ path
split_path path some = split_at path (length path - 1) (omega arith)

same_path : (path other : List (List ℕ)) → 0 < length path → 0 < length other → parent path ≡ parent other → last_of path ≡ last_of other → path ≡ other
same_path path other some more above last =
    sym (split_path path some) ∙ ap (λ (ps : List (List ℕ)). ps ++ last_of path ∷ []) above ∙ ap (λ (p : List ℕ). parent other ++ p ∷ []) last ∙ split_path other more

-- ---- what is found stays found

look_kept : {K X : Type 0} (p : K → Bool) (es more : List (K × X)) (v : X) → lookup p es ≡ Some v → lookup p (es ++ more) ≡ Some v
look_kept p [] more v h = cc
look_kept p (e ∷ es) more v h =
    elim (cases_Bool (p e.0)) [
      | inl here ↦ look_here p e (es ++ more) here ∙ (sym (look_here p e es here) ∙ h)
      | inr on ↦ look_on p e (es ++ more) on ∙ look_kept p es more v (sym (look_on p e es on) ∙ h)
    ]

look_rest : {K X : Type 0} (p t : K → Bool) (es : List (K × X)) (v : X) → ((k : K) → p k ≡ true → t k ≡ false) → lookup p es ≡ Some v → lookup p (remove_entry t es) ≡ Some v
look_rest p t [] v apart h = cc
look_rest p t (e ∷ es) v apart h =
    elim (cases_Bool (p e.0)) [
      | inl here ↦ ap (λ b. lookup p (cond b es (e ∷ remove_entry t es))) (apart e.0 here) ∙ look_here p e (remove_entry t es) here ∙ (sym (look_here p e es here) ∙ h)
      | inr on ↦
          let rest = sym (look_on p e es on) ∙ h in
          elim (t e.0) as (λ b. lookup p (cond b es (e ∷ remove_entry t es)) ≡ Some v) [ true ↦ rest | false ↦ look_on p e (remove_entry t es) on ∙ look_rest p t es v apart rest ]
    ]

none_in : {K X : Type 0} (p : K → Bool) (es : List (K × X)) (v : X) → length es ≡ 0 → lookup p es ≡ Some v → ⊥
none_in p [] v none h = cc
none_in p (e ∷ es) v none h = absurd (omega arith)

entry_kept : (tree : Tree) (above : List (List ℕ)) (last : List ℕ) (entry : Entry) (d : List (List ℕ)) (part : List ℕ) (v : Entry) → entry_in tree d part ≡ Some v → entry_in (listed tree above last entry) d part ≡ Some v
entry_kept tree above last entry d part v h =
    let more = entries_in tree above ++ (last, entry) ∷ [] in
    elim (cases_Bool (is_at d above)) [
      | inl same ↦
          let one : d ≡ above = path_is d above same in
          subst (λ (x : List (List ℕ)). entry_in (listed tree above last entry) x part ≡ Some v) (sym one)
          (ap (lookup (is_part part)) (given_here tree above more)
          ∙ look_kept (is_part part) (entries_in tree above) ((last, entry) ∷ []) v (subst (λ (x : List (List ℕ)). entry_in tree x part ≡ Some v) one h))
      | inr apart ↦ ap (λ (o : Option Listed). lookup (is_part part) (or_empty o)) (given_other (is_at d) tree above more apart) ∙ h
    ]

-- the entries that are set for a directory that has some are its entries
set_here : (tree : Tree) (d : List (List ℕ)) (w : Listed) (part : List ℕ) (v : Entry) → entry_in tree d part ≡ Some v → entries_in (set_value (is_at d) tree w) d ≡ w
set_here [] d w part v h = cc
set_here (e ∷ es) d w part v h =
    elim (cases_Bool (is_at d e.0)) [
      | inl here ↦ ap (λ b. entries_in (cond b ((e.0, w) ∷ es) (e ∷ set_value (is_at d) es w)) d) here ∙ ap or_empty (look_here (is_at d) (e.0, w) es here)
      | inr on ↦ ap (λ b. entries_in (cond b ((e.0, w) ∷ es) (e ∷ set_value (is_at d) es w)) d) on ∙ ap or_empty (look_on (is_at d) e (set_value (is_at d) es w) on)
          ∙ set_here es d w part v (sym (ap (λ (o : Option Listed). lookup (is_part part) (or_empty o)) (look_on (is_at d) e es on)) ∙ h)
    ]

entry_less : (tree : Tree) (above : List (List ℕ)) (last : List ℕ) (d : List (List ℕ)) (part : List ℕ) (v : Entry) → (d ≡ above → is_part part last ≡ false) → entry_in tree d part ≡ Some v → entry_in (unlisted tree above last) d part ≡ Some v
entry_less tree above last d part v other h =
    let rest = remove_entry (is_part last) (entries_in tree above) in
    elim (cases_Bool (is_at d above)) [
      | inl same ↦
          let one : d ≡ above = path_is d above same in
          let here = subst (λ (x : List (List ℕ)). entry_in tree x part ≡ Some v) one h in
          subst (λ (x : List (List ℕ)). entry_in (unlisted tree above last) x part ≡ Some v) (sym one)
          (ap (lookup (is_part part)) (set_here tree above rest part v here)
          ∙ look_rest (is_part part) (is_part last) (entries_in tree above) v (λ k is. subst (λ (x : List ℕ). is_part last x ≡ false) (part_is part k is) (part_turned part last (other one))) here)
      | inr apart ↦ ap (λ (o : Option Listed). lookup (is_part part) (or_empty o)) (set_other (is_at d) tree above rest apart) ∙ h
    ]

-- ---- how many entries a directory has

set_count : (tree : Tree) (d : List (List ℕ)) (w : Listed) → count (set_value (is_at d) tree w) d ≤ length w
set_count [] d w = omega arith
set_count (e ∷ es) d w =
    elim (cases_Bool (is_at d e.0)) [
      | inl here ↦
          let same : entries_in (set_value (is_at d) (e ∷ es) w) d ≡ w =
          ap (λ b. entries_in (cond b ((e.0, w) ∷ es) (e ∷ set_value (is_at d) es w)) d) here ∙ ap or_empty (look_here (is_at d) (e.0, w) es here)
          in
          subst (λ (x : Listed). length x ≤ length w) (sym same) (omega arith)
      | inr on ↦
          let same : entries_in (set_value (is_at d) (e ∷ es) w) d ≡ entries_in (set_value (is_at d) es w) d =
          ap (λ b. entries_in (cond b ((e.0, w) ∷ es) (e ∷ set_value (is_at d) es w)) d) on ∙ ap or_empty (look_on (is_at d) e (set_value (is_at d) es w) on)
          in
          subst (λ (x : Listed). length x ≤ length w) (sym same) (set_count es d w)
    ]

count_less : (tree : Tree) (above : List (List ℕ)) (last : List ℕ) (d : List (List ℕ)) → 0 < count (unlisted tree above last) d → 0 < count tree d
count_less tree above last d has =
    let rest = remove_entry (is_part last) (entries_in tree above) in
    elim (cases_Bool (is_at d above)) [
      | inl same ↦
          let one : d ≡ above = path_is d above same in
          let here : 0 < count (set_value (is_at above) tree rest) above = subst (λ (x : List (List ℕ)). 0 < count (set_value (is_at above) tree rest) x) one has in
          let most = set_count tree above rest in
          let few = few_less (entries_in tree above) (is_part last) in
          let some : 0 < count tree above = omega arith in
          subst (λ (x : List (List ℕ)). 0 < count tree x) (sym one) some
      | inr apart ↦ subst (λ (x : Listed). 0 < length x) (ap or_empty (set_other (is_at d) tree above rest apart)) has
    ]

-- ---- each directory is listed once

path_turned : (path other : List (List ℕ)) → is_at path other ≡ false → is_at other path ≡ false
path_turned path other h =
    elim (cases_Bool (is_at other path)) [
      | inl same ↦ absurd (true≢false (sym (subst (λ (p : List (List ℕ)). is_at path p ≡ true) (sym (path_is other path same)) (path_itself path)) ∙ h))
      | inr apart ↦ apart
    ]

look_set : {K X : Type 0} (p q : K → Bool) (es : List (K × X)) (w : X) → lookup p es ≡ None → lookup p (set_value q es w) ≡ None
look_set p q [] w none = refl
look_set p q (e ∷ es) w none =
    let parts = none_on p e es none in
    elim (q e.0) as (λ b. lookup p (cond b ((e.0, w) ∷ es) (e ∷ set_value q es w)) ≡ None) [ true ↦ look_on p (e.0, w) es parts.0 ∙ parts.1 | false ↦ look_on p e (set_value q es w) parts.0 ∙ look_set p q es w parts.1 ]

once_given : (tree : Tree) (d : List (List ℕ)) (w : Listed) → AreListedOnce tree → AreListedOnce (insert_entry is_at tree d w)
once_given [] d w once = (refl, tt)
once_given (e ∷ es) d w once =
    elim (cases_Bool (is_at d e.0)) [
      | inl here ↦ subst (λ b. AreListedOnce (cond b ((e.0, w) ∷ es) (e ∷ insert_entry is_at es d w))) (sym here) (once.0, once.1)
      | inr on ↦ subst (λ b. AreListedOnce (cond b ((e.0, w) ∷ es) (e ∷ insert_entry is_at es d w))) (sym on)
          (given_other (is_at e.0) es d w (path_turned d e.0 on) ∙ once.0, once_given es d w once.1)
    ]

once_set : (tree : Tree) (d : List (List ℕ)) (w : Listed) → AreListedOnce tree → AreListedOnce (set_value (is_at d) tree w)
once_set [] d w once = tt
once_set (e ∷ es) d w once =
    elim (is_at d e.0) as (λ b. AreListedOnce (cond b ((e.0, w) ∷ es) (e ∷ set_value (is_at d) es w))) [ true ↦ (once.0, once.1) | false ↦ (look_set (is_at e.0) (is_at d) es w once.0, once_set es d w once.1) ]

once_less : (tree : Tree) (d : List (List ℕ)) → AreListedOnce tree → AreListedOnce (remove_entry (is_at d) tree)
once_less [] d once = tt
once_less (e ∷ es) d once =
    elim (is_at d e.0) as (λ b. AreListedOnce (cond b es (e ∷ remove_entry (is_at d) es))) [ true ↦ once.1 | false ↦ (look_less (is_at e.0) (is_at d) es once.0, once_less es d once.1) ]

-- a directory that was forgotten isn't there
forgotten : (tree : Tree) (d : List (List ℕ)) → AreListedOnce tree → lookup (is_at d) (remove_entry (is_at d) tree) ≡ None
forgotten [] d once = refl
forgotten (e ∷ es) d once =
    elim (cases_Bool (is_at d e.0)) [
      | inl here ↦ ap (λ b. lookup (is_at d) (cond b es (e ∷ remove_entry (is_at d) es))) here ∙ subst (λ (p : List (List ℕ)). lookup (is_at p) es ≡ None) (sym (path_is d e.0 here)) once.0
      | inr on ↦ ap (λ b. lookup (is_at d) (cond b es (e ∷ remove_entry (is_at d) es))) on ∙ look_on (is_at d) e (remove_entry (is_at d) es) on ∙ forgotten es d once.1
    ]

-- ---- each directory is named as one

passed_dir : (o : Option Entry) → passed o ≡ Ok tt → o ≡ Some (Named Dir)
passed_dir None h = cc
passed_dir (Some (Named Dir)) h = refl
passed_dir (Some (Named (File file))) h = cc
passed_dir (Some (Named (Device device))) h = cc
passed_dir (Some (Link path)) h = cc

append_over : (here : List (List ℕ)) (part : List ℕ) (rest : List (List ℕ)) → (here ++ part ∷ []) ++ rest ≡ here ++ part ∷ rest
append_over [] part rest = refl
append_over (first ∷ here) part rest = ap (λ (ps : List (List ℕ)). first ∷ ps) (append_over here part rest)

-- the last part of a way that is walked names a directory
walk_end : (tree : Tree) (here front : List (List ℕ)) (part : List ℕ) → walked tree here (front ++ part ∷ []) ≡ Ok tt → entry_in tree (here ++ front) part ≡ Some (Named Dir)
walk_end tree here [] part way =
    subst (λ (d : List (List ℕ)). entry_in tree d part ≡ Some (Named Dir)) (sym (append-nil here)) (passed_dir (entry_in tree here part) (goes_parts (passed (entry_in tree here part)) (Ok tt) tt way).0)
walk_end tree here (first ∷ front) part way =
    subst (λ (d : List (List ℕ)). entry_in tree d part ≡ Some (Named Dir)) (append_over here first front)
    (walk_end tree (here ++ first ∷ []) front part (goes_parts (passed (entry_in tree here first)) (walked tree (here ++ first ∷ []) (front ++ part ∷ [])) tt way).1)

walk_named : (tree : Tree) (d : List (List ℕ)) → 0 < length d → walked tree [] d ≡ Ok tt → entry_at tree d ≡ Some (Named Dir)
walk_named tree d some way = walk_end tree [] (parent d) (last_of d) (subst (λ (ps : List (List ℕ)). walked tree [] ps ≡ Ok tt) (sym (split_path d some)) way)

named_put : (tree : Tree) (path : List (List ℕ)) (entry : Entry) → walked tree [] (parent path) ≡ Ok tt → AreNamed tree → AreNamed (put tree path entry)
named_put tree path entry way are d some has =
    let above = parent path in
    let last = last_of path in
    let more = entries_in tree above ++ (last, entry) ∷ [] in
    let before : entry_at tree d ≡ Some (Named Dir) =
    elim (cases_Bool (is_at d above)) [
      | inl same ↦ walk_named tree d some (subst (λ (x : List (List ℕ)). walked tree [] x ≡ Ok tt) (sym (path_is d above same)) way)
      | inr apart ↦ are d some (subst (λ (x : Listed). 0 < length x) (ap or_empty (given_other (is_at d) tree above more apart)) has)
    ]
    in
    entry_kept tree above last entry (parent d) (last_of d) (Named Dir) before

named_unlisted : (tree : Tree) (above : List (List ℕ)) (last : List ℕ) → ((d : List (List ℕ)) → 0 < length d → 0 < count tree d → parent d ≡ above → last_of d ≡ last → ⊥) → AreNamed tree → AreNamed (unlisted tree above last)
named_unlisted tree above last other are d some has =
    let more = count_less tree above last d has in
    entry_less tree above last (parent d) (last_of d) (Named Dir)
    (λ one. elim (cases_Bool (is_part (last_of d) last)) [ inl same ↦ absurd (other d some more one (part_is (last_of d) last same)) | inr apart ↦ apart ])
    (are d some more)

named_forgotten : (tree : Tree) (path : List (List ℕ)) → AreListedOnce tree → count tree path ≡ 0 → AreNamed tree → AreNamed (remove_entry (is_at path) tree)
named_forgotten tree path once none are d some has =
    let less = remove_entry (is_at path) tree in
    elim (cases_Bool (is_at d path)) [
      | inl same ↦ absurd (
          let here : 0 < count less path = subst (λ (x : List (List ℕ)). 0 < count less x) (path_is d path same) has in
          let gone : 0 < 0 = subst (λ (x : Listed). 0 < length x) (ap or_empty (forgotten tree path once)) here in
          omega arith)
      | inr apart ↦
          let before = are d some (subst (λ (x : Listed). 0 < length x) (ap or_empty (less_other (is_at d) tree path apart)) has) in
          elim (cases_Bool (is_at (parent d) path)) [
            | inl same ↦ absurd (none_in (is_part (last_of d)) (entries_in tree path) (Named Dir) none (subst (λ (x : List (List ℕ)). entry_in tree x (last_of d) ≡ Some (Named Dir)) (path_is (parent d) path same) before))
            | inr off ↦ ap (λ (o : Option Listed). lookup (is_part (last_of d)) (or_empty o)) (less_other (is_at (parent d)) tree path off) ∙ before
          ]
    ]

-- ---- what is taken away has no entries

not_dir : (node : Node) → renamable node ≡ Ok tt → ◌≡◌ {A = Option Entry} (Some (Named Dir)) (Some (Named node)) → ⊥
not_dir node may same =
    let dir : Dir ≡ node = ok_is Dir node (ap named same) in
    let refused = ap renamable dir ∙ may in
    cc

file_empty : (tree : Tree) (path : List (List ℕ)) (node : Node) → 0 < length path → entry_at tree path ≡ Some (Named node) → renamable node ≡ Ok tt → AreNamed tree → count tree path ≡ 0
file_empty tree path node some is may are =
    elim (cases_Bool (count tree path == 0)) [
      | inl none ↦ eqb-true (count tree path) 0 none
      | inr has ↦ absurd (not_dir node may (sym (are path some (positive (count tree path) has)) ∙ is))
    ]

removable_empty : (tree : Tree) (path : List (List ℕ)) (directory : Bool) (n node : Node) → removable tree path directory n ≡ Ok node → (renamable n ≡ Ok tt → count tree path ≡ 0) → count tree path ≡ 0
removable_empty tree path true Dir node h file =
    elim (cases_Bool (count tree path == 0)) [
      | inl none ↦ eqb-true (count tree path) 0 none
      | inr has ↦ absurd (let refused = sym (cond-false (count tree path == 0) _ _ has) ∙ h in cc)
    ]
removable_empty tree path true (File f) node h file = cc
removable_empty tree path true (Device device) node h file = cc
removable_empty tree path false Dir node h file = cc
removable_empty tree path false (File f) node h file = file refl
removable_empty tree path false (Device device) node h file = file refl

-- a name that can be taken away
record CanGo (tree : Tree) (path : List (List ℕ)) : Type 0 where
  pub some : 0 < length path
  pub empty : count tree path ≡ 0

can_go : (tree : Tree) (path : List (List ℕ)) (directory : Bool) (node : Node) → remove_answer tree path directory ≡ Ok node → AreNamed tree → CanGo tree path
can_go tree path directory node h are =
    elim (cases_Bool (length path == 0)) [
      | inl root ↦ absurd (let refused = sym (cond-true (length path == 0) _ _ root) ∙ h in cc)
      | inr below ↦
          let some = positive (length path) below in
          let answer = sym (cond-false (length path == 0) _ _ below) ∙ h in
          let there = removable_ok tree path directory node (found tree path) answer in
          record {
            some = some;
            empty = removable_empty tree path directory there.0 node (sym (ap (removable_found tree path directory) there.1) ∙ answer)
                (λ may. file_empty tree path there.0 some (found_entry tree path there.0 there.1 may) may are);
          }
    ]

-- ---- what the calls keep

pub sound_none : IsSound []
sound_none = record { directories = tt; once = tt; are_named = λ d some has. absurd (omega arith) }

pub sound_made : (tree : Tree) (path : List (List ℕ)) (entry : Entry) → make_answer tree path ≡ Ok tt → IsSound tree → IsSound (put tree path entry)
sound_made tree path entry h sound = record {
  directories = are_made tree path entry h sound.directories;
  once = once_given tree (parent path) (entries_in tree (parent path) ++ (last_of path, entry) ∷ []) sound.once;
  are_named = named_put tree path entry (can_be_made tree path h).way sound.are_named;
}

pub sound_removed : (tree : Tree) (path : List (List ℕ)) (directory : Bool) (node : Node) → remove_answer tree path directory ≡ Ok node → IsSound tree → IsSound (removed tree path)
sound_removed tree path directory node h sound =
    let can = can_go tree path directory node h sound.are_named in
    let less = remove_entry (is_at path) tree in
    let above = parent path in
    let last = last_of path in
    record {
      directories = are_unlisted less above last (are_less tree path sound.directories);
      once = once_set less above (remove_entry (is_part last) (entries_in less above)) (once_less tree path sound.once);
      are_named = named_unlisted less above last
          (λ d some has up end.
          let one = same_path d path some can.some up end in
          let here : 0 < count less path = subst (λ (x : List (List ℕ)). 0 < count less x) one has in
          let gone : 0 < 0 = subst (λ (x : Listed). 0 < length x) (ap or_empty (forgotten tree path sound.once)) here in
          absurd (omega arith))
          (named_forgotten tree path sound.once can.empty sound.are_named);
    }

target_way : (tree : Tree) (old new : List (List ℕ)) → rename_target tree old new ≡ Ok tt → walked tree [] (parent new) ≡ Ok tt
target_way tree old new h =
    let below = parent new in
    let rest = goes_on (freed (entry_at tree new)) (cond (is_at (parent old) below) (Ok tt) (roomy tree below)) in
    elim (cases_Bool (length new == 0)) [
      | inl root ↦ absurd (let refused = sym (cond-true (length new == 0) _ _ root) ∙ h in cc)
      | inr on ↦ (goes_parts (walked tree [] below) rest tt (sym (cond-false (length new == 0) _ _ on) ∙ h)).0
    ]

pub sound_renamed : (tree : Tree) (old new : List (List ℕ)) (node : Node) → renamed_node tree old new ≡ Ok node → IsSound tree → IsSound (renamed tree old new node)
sound_renamed tree old new node h sound =
    let parts = renamed_parts (found tree old) (rename_target tree old new) node h in
    let may = parts.1.0 in
    let above = parent new in
    let more = entries_in tree above ++ (last_of new, Named node) ∷ [] in
    let next = made tree new node in
    let from = entry_kept tree above (last_of new) (Named node) (parent old) (last_of old) (Named node) (found_entry tree old node parts.0 may) in
    let named_next = named_put tree new (Named node) (target_way tree old new parts.1.1) sound.are_named in
    record {
      directories = are_renamed tree old new node h sound.directories;
      once = once_set next (parent old) (remove_entry (is_part (last_of old)) (entries_in next (parent old))) (once_given tree above more sound.once);
      are_named = named_unlisted next (parent old) (last_of old)
          (λ d some has up end.
          let here = subst (λ (x : List (List ℕ)). entry_in next x (last_of d) ≡ Some (Named Dir)) up (named_next d some has) in
          let there = subst (λ (p : List ℕ). entry_in next (parent old) p ≡ Some (Named Dir)) end here in
          not_dir node may (sym there ∙ from))
          named_next;
    }

-- ---- a walk goes to the directory of each entry

some_in : {K X : Type 0} (p : K → Bool) (es : List (K × X)) (v : X) → lookup p es ≡ Some v → 0 < length es
some_in p [] v h = cc
some_in p (e ∷ es) v h = omega arith

walk_more : (tree : Tree) (here front : List (List ℕ)) (part : List ℕ) → walked tree here front ≡ Ok tt → entry_in tree (here ++ front) part ≡ Some (Named Dir) → walked tree here (front ++ part ∷ []) ≡ Ok tt
walk_more tree here [] part way is =
    ap (λ (o : Option Entry). goes_on {A = Unit {0}} (passed o) (Ok tt)) (subst (λ (d : List (List ℕ)). entry_in tree d part ≡ Some (Named Dir)) (append-nil here) is)
walk_more tree here (first ∷ front) part way is =
    let parts = goes_parts (passed (entry_in tree here first)) (walked tree (here ++ first ∷ []) front) tt way in
    ap (λ r. goes_on r (walked tree (here ++ first ∷ []) (front ++ part ∷ []))) parts.0
    ∙ walk_more tree (here ++ first ∷ []) front part parts.1 (subst (λ (d : List (List ℕ)). entry_in tree d part ≡ Some (Named Dir)) (sym (append_over here first front)) is)

way_there : (n : ℕ) (tree : Tree) (d : List (List ℕ)) → length d ≤ n → AreNamed tree → 0 < count tree d → walked tree [] d ≡ Ok tt
way_there zero tree [] short are has = refl
way_there zero tree (part ∷ rest) short are has = absurd (omega arith)
way_there (suc n) tree [] short are has = refl
way_there (suc n) tree (part ∷ rest) short are has =
    let d = part ∷ rest in
    let some : 0 < length d = omega arith in
    let is = are d some has in
    let whole = ap length (split_path d some) in
    let more = length-append (parent d) (last_of d ∷ []) in
    let under : length (parent d) ≤ n = omega arith in
    let above = way_there n tree (parent d) under are (some_in (is_part (last_of d)) (entries_in tree (parent d)) (Named Dir) is) in
    subst (λ (ps : List (List ℕ)). walked tree [] ps ≡ Ok tt) (split_path d some) (walk_more tree [] (parent d) (last_of d) above is)

pub hung_in : (tree : Tree) (path : List (List ℕ)) (entry : Entry) → IsSound tree → entry_at tree path ≡ Some entry → walked tree [] (parent path) ≡ Ok tt
hung_in tree path entry sound is =
    way_there (length (parent path)) tree (parent path) (omega arith) sound.are_named (some_in (is_part (last_of path)) (entries_in tree (parent path)) entry is)
