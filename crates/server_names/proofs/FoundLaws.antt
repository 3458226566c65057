-- What is found after an entry was put or taken out.
use Rattle.std.proofs.Common.{◌≡◌, ℕ, zero, suc, ◌+◌, ◌-◌, ◌≤◌, ◌<◌, ◌==◌, nat_lt, Bool, true, false, inl, inr, cond, List, [], ◌∷◌, ◌++◌, length, take, Option, Some, None, Result, Ok, Err, refl, sym, ap, subst, ◌∙◌, arith, length-append}
use Rattle.std.specs.List.{AllByRecursion}
use Rattle.std.specs.Map.{lookup, remove_entry, set_value}
use Rattle.std.specs.Cmp.Lexicographic.{pointwise_decides, bytes_decides}
use Rattle.std.proofs.lemmas.Bool.{cases_Bool, cond-true, cond-false, true≢false, ltb-true, ne_eqb}
use Rattle.indexmap.specs.IndexMap.{insert_entry}
use Rattle.sprite_ids.specs.declared.Errno.TheVariants.{NoEntry}
use Rattle.server_names.specs.declared.end.NameEnd.{NameEnd}
use Rattle.server_names.specs.declared.end.NameEnd.TheVariants.{Errno as Refused}
use Rattle.server_names.specs.declared.name.Node.{Node}
use Rattle.server_names.specs.declared.name.Node.TheVariants.{Dir}
use Rattle.server_names.specs.declared.name.Entry.{Entry}
use Rattle.server_names.specs.declared.name.Entry.TheVariants.{Node as Named, Link}
use Rattle.server_names.specs.Names.{Tree, Listed, is_at, is_part, or_empty, entries_in, entry_in, entry_at, parent, last_of, listed, unlisted, goes_on, passed, walked, named, freed, found, roomy, make_answer, put, made, removable_found, remove_answer, removed, renamable, renamed_found, renamed_node, renamed, rename_target, AreOnce, IsDirectory, IsSound}

-- what each directory keeps, of all of them
abbrev pub AreDirectories : Tree → Type 0
AreDirectories tree = AllByRecursion (λ directory. IsDirectory directory.1) tree

-- ---- look-ups

pub look_here : {K X : Type 0} (p : K → Bool) (e : K × X) (es : List (K × X)) → p e.0 ≡ true → lookup p (e ∷ es) ≡ Some e.1
look_here p e es h = ap (λ b. cond b (Some e.1) (lookup p es)) h

pub look_on : {K X : Type 0} (p : K → Bool) (e : K × X) (es : List (K × X)) → p e.0 ≡ false → lookup p (e ∷ es) ≡ lookup p es
look_on p e es h = ap (λ b. cond b (Some e.1) (lookup p es)) h

pub none_on : {K X : Type 0} (p : K → Bool) (e : K × X) (es : List (K × X)) → lookup p (e ∷ es) ≡ None → (p e.0 ≡ false) × (lookup p es ≡ None)
none_on p e es h =
    elim (cases_Bool (p e.0)) [
      | inl here ↦ absurd (let some : Some e.1 ≡ None = sym (look_here p e es here) ∙ h in cc)
      | inr on ↦ (on, sym (look_on p e es on) ∙ h)
    ]

-- an entry put behind those that a look-up doesn't find is found
look_last : {K X : Type 0} (p : K → Bool) (es : List (K × X)) (k : K) (v : X) → lookup p es ≡ None → p k ≡ true → lookup p (es ++ (k, v) ∷ []) ≡ Some v
look_last p [] k v none h = look_here p (k, v) [] h
look_last p (e ∷ es) k v none h =
    let parts = none_on p e es none in
    look_on p e (es ++ (k, v) ∷ []) parts.0 ∙ look_last p es k v parts.1 h

-- and not by another look-up
look_other : {K X : Type 0} (p : K → Bool) (es : List (K × X)) (k : K) (v : X) → lookup p es ≡ None → p k ≡ false → lookup p (es ++ (k, v) ∷ []) ≡ None
look_other p [] k v none h = look_on p (k, v) [] h
look_other p (e ∷ es) k v none h =
    let parts = none_on p e es none in
    look_on p e (es ++ (k, v) ∷ []) parts.0 ∙ look_other p es k v parts.1 h

-- what isn't there isn't there among fewer
pub look_less : {K X : Type 0} (p t : K → Bool) (es : List (K × X)) → lookup p es ≡ None → lookup p (remove_entry t es) ≡ None
look_less p t [] none = refl
look_less p t (e ∷ es) none =
    let parts = none_on p e es none in
    elim (t e.0) as (λ b. lookup p (cond b es (e ∷ remove_entry t es)) ≡ None) [ true ↦ parts.1 | false ↦ look_on p e (remove_entry t es) parts.0 ∙ look_less p t es parts.1 ]

-- ---- paths and parts are told apart

pub part_is : (part other : List ℕ) → is_part part other ≡ true → part ≡ other
part_is part other = (bytes_decides part other).0

pub part_itself : (part : List ℕ) → is_part part part ≡ true
part_itself part = (bytes_decides part part).1 refl

pub path_is : (path other : List (List ℕ)) → is_at path other ≡ true → path ≡ other
path_is path other = (pointwise_decides bytes_decides path other).0

pub path_itself : (path : List (List ℕ)) → is_at path path ≡ true
path_itself path = (pointwise_decides bytes_decides path path).1 refl

-- paths of two lengths are two
lengths_apart : (path other : List (List ℕ)) → (length path ≡ length other → ⊥) → is_at path other ≡ false
lengths_apart path other h =
    elim (cases_Bool (is_at path other)) [
      | inl same ↦ absurd (h (ap length (path_is path other same)))
      | inr apart ↦ apart
    ]

pub part_turned : (part other : List ℕ) → is_part part other ≡ false → is_part other part ≡ false
part_turned part other h =
    elim (cases_Bool (is_part other part)) [
      | inl same ↦ absurd (true≢false (sym (subst (λ (p : List ℕ). is_part part p ≡ true) (sym (part_is other part same)) (part_itself part)) ∙ h))
      | inr apart ↦ apart
    ]

-- ---- the entries of one directory

-- the entries that a directory was given are its entries
pub given_here : (tree : Tree) (d : List (List ℕ)) (w : Listed) → entries_in (insert_entry is_at tree d w) d ≡ w
given_here [] d w = ap or_empty (look_here (is_at d) (d, w) [] (path_itself d))
given_here (e ∷ es) d w =
    elim (cases_Bool (is_at d e.0)) [
      | inl here ↦ ap (λ b. entries_in (cond b ((e.0, w) ∷ es) (e ∷ insert_entry is_at es d w)) d) here ∙ ap or_empty (look_here (is_at d) (e.0, w) es here)
      | inr on ↦ ap (λ b. entries_in (cond b ((e.0, w) ∷ es) (e ∷ insert_entry is_at es d w)) d) on ∙ ap or_empty (look_on (is_at d) e (insert_entry is_at es d w) on) ∙ given_here es d w
    ]

-- where a look-up passes over the changed directory it gives what it gave
pub given_other : (p : List (List ℕ) → Bool) (tree : Tree) (d : List (List ℕ)) (w : Listed) → p d ≡ false → lookup p (insert_entry is_at tree d w) ≡ lookup p tree
given_other p [] d w h = look_on p (d, w) [] h
given_other p (e ∷ es) d w h =
    elim (cases_Bool (is_at d e.0)) [
      | inl here ↦
          let off = ap p (sym (path_is d e.0 here)) ∙ h in
          ap (λ b. lookup p (cond b ((e.0, w) ∷ es) (e ∷ insert_entry is_at es d w))) here ∙ look_on p (e.0, w) es off ∙ sym (look_on p e es off)
      | inr on ↦ ap (λ b. lookup p (cond b ((e.0, w) ∷ es) (e ∷ insert_entry is_at es d w))) on ∙ ap (cond (p e.0) (Some e.1)) (given_other p es d w h)
    ]

pub set_other : (p : List (List ℕ) → Bool) (tree : Tree) (d : List (List ℕ)) (w : Listed) → p d ≡ false → lookup p (set_value (is_at d) tree w) ≡ lookup p tree
set_other p [] d w h = refl
set_other p (e ∷ es) d w h =
    elim (cases_Bool (is_at d e.0)) [
      | inl here ↦
          let off = ap p (sym (path_is d e.0 here)) ∙ h in
          ap (λ b. lookup p (cond b ((e.0, w) ∷ es) (e ∷ set_value (is_at d) es w))) here ∙ look_on p (e.0, w) es off ∙ sym (look_on p e es off)
      | inr on ↦ ap (λ b. lookup p (cond b ((e.0, w) ∷ es) (e ∷ set_value (is_at d) es w))) on ∙ ap (cond (p e.0) (Some e.1)) (set_other p es d w h)
    ]

pub less_other : (p : List (List ℕ) → Bool) (tree : Tree) (d : List (List ℕ)) → p d ≡ false → lookup p (remove_entry (is_at d) tree) ≡ lookup p tree
less_other p [] d h = refl
less_other p (e ∷ es) d h =
    elim (cases_Bool (is_at d e.0)) [
      | inl here ↦ ap (λ b. lookup p (cond b es (e ∷ remove_entry (is_at d) es))) here ∙ sym (look_on p e es (ap p (sym (path_is d e.0 here)) ∙ h))
      | inr on ↦ ap (λ b. lookup p (cond b es (e ∷ remove_entry (is_at d) es))) on ∙ ap (cond (p e.0) (Some e.1)) (less_other p es d h)
    ]

-- a directory whose entries were changed has the new ones, where it was there, and else none
set_look : (tree : Tree) (d : List (List ℕ)) (w : Listed) (part : List ℕ) → (lookup (is_part part) w ≡ None) → (lookup (is_part part) (entries_in (set_value (is_at d) tree w) d) ≡ None)
set_look [] d w part none = refl
set_look (e ∷ es) d w part none =
    elim (cases_Bool (is_at d e.0)) [
      | inl here ↦ ap (λ b. lookup (is_part part) (entries_in (cond b ((e.0, w) ∷ es) (e ∷ set_value (is_at d) es w)) d)) here
          ∙ ap (λ o. lookup (is_part part) (or_empty o)) (look_here (is_at d) (e.0, w) es here) ∙ none
      | inr on ↦ ap (λ b. lookup (is_part part) (entries_in (cond b ((e.0, w) ∷ es) (e ∷ set_value (is_at d) es w)) d)) on
          ∙ ap (λ o. lookup (is_part part) (or_empty o)) (look_on (is_at d) e (set_value (is_at d) es w) on) ∙ set_look es d w part none
    ]

-- ---- a walk sees the directories above a path alone

walk_same : (tree other : Tree) (here rest : List (List ℕ)) (n : ℕ) → ((d : List (List ℕ)) → length d < n → entries_in other d ≡ entries_in tree d) → length here + length rest ≤ n → walked other here rest ≡ walked tree here rest
walk_same tree other here [] n same h = refl
walk_same tree other here (part ∷ rest) n same h =
    let more = length-append here (part ∷ []) in
    ap (λ es. goes_on (passed (lookup (is_part part) es)) (walked other (here ++ part ∷ []) rest)) (same here (omega arith))
    ∙ ap (goes_on (passed (entry_in tree here part))) (walk_same tree other (here ++ part ∷ []) rest n same (omega arith))

-- ---- what is kept

once_push : (es : Listed) (part : List ℕ) (entry : Entry) → lookup (is_part part) es ≡ None → AreOnce es → AreOnce (es ++ (part, entry) ∷ [])
once_push [] part entry none once = (refl, tt)
once_push (e ∷ es) part entry none once =
    let parts = none_on (is_part part) e es none in
    (look_other (is_part e.0) es part entry once.0 (part_turned part e.0 parts.0), once_push es part entry parts.1 once.1)

once_less : (es : Listed) (t : List ℕ → Bool) → AreOnce es → AreOnce (remove_entry t es)
once_less [] t once = tt
once_less (e ∷ es) t once =
    elim (t e.0) as (λ b. AreOnce (cond b es (e ∷ remove_entry t es))) [ true ↦ once.1 | false ↦ (look_less (is_part e.0) t es once.0, once_less es t once.1) ]

-- an entry that was taken out of entries with names of their own is gone
gone : (es : Listed) (part : List ℕ) → AreOnce es → lookup (is_part part) (remove_entry (is_part part) es) ≡ None
gone [] part once = refl
gone (e ∷ es) part once =
    elim (cases_Bool (is_part part e.0)) [
      | inl here ↦ ap (λ b. lookup (is_part part) (cond b es (e ∷ remove_entry (is_part part) es))) here ∙ subst (λ (p : List ℕ). lookup (is_part p) es ≡ None) (sym (part_is part e.0 here)) once.0
      | inr on ↦ ap (λ b. lookup (is_part part) (cond b es (e ∷ remove_entry (is_part part) es))) on ∙ look_on (is_part part) e (remove_entry (is_part part) es) on ∙ gone es part once.1
    ]

pub few_less : (es : Listed) (t : List ℕ → Bool) → length (remove_entry t es) ≤ length es
few_less [] t = omega arith
few_less (e ∷ es) t =
    let less = few_less es t in
    elim (t e.0) as (λ b. length (cond b es (e ∷ remove_entry t es)) ≤ length (e ∷ es)) [ true ↦ omega arith | false ↦ omega arith ]

pub directory_push : (es : Listed) (part : List ℕ) (entry : Entry) → length es < 256 → lookup (is_part part) es ≡ None → IsDirectory es → IsDirectory (es ++ (part, entry) ∷ [])
directory_push es part entry room none is = record {
  few = let more = length-append es ((part, entry) ∷ []) in omega arith;
  once = once_push es part entry none is.once;
}

pub directory_less : (es : Listed) (t : List ℕ → Bool) → IsDirectory es → IsDirectory (remove_entry t es)
directory_less es t is = record { few = let less = few_less es t in let few = is.few in omega arith; once = once_less es t is.once }

-- the entries of any directory are those of a directory
pub directory_in : (tree : Tree) (d : List (List ℕ)) → AreDirectories tree → IsDirectory (entries_in tree d)
directory_in [] d sound = record { few = omega arith; once = tt }
directory_in (e ∷ es) d sound =
    elim (is_at d e.0) as (λ b. IsDirectory (or_empty (cond b (Some e.1) (lookup (is_at d) es)))) [ true ↦ sound.0 | false ↦ directory_in es d sound.1 ]

pub are_given : (tree : Tree) (d : List (List ℕ)) (w : Listed) → IsDirectory w → AreDirectories tree → AreDirectories (insert_entry is_at tree d w)
are_given [] d w is sound = (is, tt)
are_given (e ∷ es) d w is sound =
    elim (is_at d e.0) as (λ b. AreDirectories (cond b ((e.0, w) ∷ es) (e ∷ insert_entry is_at es d w))) [ true ↦ (is, sound.1) | false ↦ (sound.0, are_given es d w is sound.1) ]

pub are_set : (tree : Tree) (d : List (List ℕ)) (w : Listed) → IsDirectory w → AreDirectories tree → AreDirectories (set_value (is_at d) tree w)
are_set [] d w is sound = tt
are_set (e ∷ es) d w is sound =
    elim (is_at d e.0) as (λ b. AreDirectories (cond b ((e.0, w) ∷ es) (e ∷ set_value (is_at d) es w))) [ true ↦ (is, sound.1) | false ↦ (sound.0, are_set es d w is sound.1) ]

pub are_less : (tree : Tree) (d : List (List ℕ)) → AreDirectories tree → AreDirectories (remove_entry (is_at d) tree)
are_less [] d sound = tt
are_less (e ∷ es) d sound =
    elim (is_at d e.0) as (λ b. AreDirectories (cond b es (e ∷ remove_entry (is_at d) es))) [ true ↦ sound.1 | false ↦ (sound.0, are_less es d sound.1) ]

pub are_unlisted : (tree : Tree) (d : List (List ℕ)) (part : List ℕ) → AreDirectories tree → AreDirectories (unlisted tree d part)
are_unlisted tree d part sound =
    are_set tree d (remove_entry (is_part part) (entries_in tree d)) (directory_less (entries_in tree d) (is_part part) (directory_in tree d sound)) sound

-- ---- what answers say

pub goes_parts : {A : Type 0} (r : Result (Unit {0}) NameEnd) (next : Result A NameEnd) (x : A) → goes_on r next ≡ Ok x → (r ≡ Ok tt) × (next ≡ Ok x)
goes_parts (Ok tt) next x h = (refl, h)
goes_parts (Err end) next x h = cc

pub freed_none : (o : Option Entry) → freed o ≡ Ok tt → o ≡ None
freed_none None h = refl
freed_none (Some (Named node)) h = cc
freed_none (Some (Link path)) h = cc

-- a name that can be made
pub record CanBeMade (tree : Tree) (path : List (List ℕ)) : Type 0 where
  pub some : 0 < length path
  pub way : walked tree [] (parent path) ≡ Ok tt
  pub free : entry_at tree path ≡ None
  pub room : length (entries_in tree (parent path)) < 256

room_of : (tree : Tree) (d : List (List ℕ)) → roomy tree d ≡ Ok tt → length (entries_in tree d) < 256
room_of tree d h =
    elim (cases_Bool (nat_lt (length (entries_in tree d)) 256)) [
      | inl room ↦ ltb-true (length (entries_in tree d)) 256 room
      | inr full ↦ absurd (let refused = sym (cond-false (nat_lt (length (entries_in tree d)) 256) _ _ full) ∙ h in cc)
    ]

pub positive : (n : ℕ) → (n == 0) ≡ false → 0 < n
positive zero h = absurd (true≢false h)
positive (suc n) h = omega arith

pub can_be_made : (tree : Tree) (path : List (List ℕ)) → make_answer tree path ≡ Ok tt → CanBeMade tree path
can_be_made tree path h =
    elim (cases_Bool (length path == 0)) [
      | inl root ↦ absurd (let refused = sym (cond-true (length path == 0) _ _ root) ∙ h in cc)
      | inr below ↦
          let walk = goes_parts (walked tree [] (parent path)) (goes_on (freed (entry_at tree path)) (roomy tree (parent path))) tt (sym (cond-false (length path == 0) _ _ below) ∙ h) in
          let last = goes_parts (freed (entry_at tree path)) (roomy tree (parent path)) tt walk.1 in
          record { some = positive (length path) below; way = walk.0; free = freed_none (entry_at tree path) last.0; room = room_of tree (parent path) last.1 }
    ]

not_root : (path : List (List ℕ)) → 0 < length path → (length path == 0) ≡ false
not_root path h = ne_eqb (length path) 0 (λ e. omega arith)

pub made_found : (tree : Tree) (path : List (List ℕ)) (node : Node) → make_answer tree path ≡ Ok tt → found (made tree path node) path ≡ Ok node
made_found tree path node h =
    let can = can_be_made tree path h in
    let above = parent path in
    let last = last_of path in
    let more = entries_in tree above ++ (last, Named node) ∷ [] in
    let next = made tree path node in
    let way : walked next [] above ≡ Ok tt =
    walk_same tree next [] above (length above) (λ d short. ap or_empty (given_other (is_at d) tree above more (lengths_apart d above (λ e. omega arith)))) (omega arith) ∙ can.way
    in
    let entry : entry_at next path ≡ Some (Named node) =
    ap (lookup (is_part last)) (given_here tree above more) ∙ look_last (is_part last) (entries_in tree above) last (Named node) can.free (part_itself last)
    in
    cond-false (length path == 0) _ _ (not_root path can.some) ∙ ap (λ r. goes_on r (named (entry_at next path))) way ∙ ap named entry

pub removable_ok : (tree : Tree) (path : List (List ℕ)) (directory : Bool) (node : Node) (r : Result Node NameEnd) → removable_found tree path directory r ≡ Ok node → (n : Node) × (r ≡ Ok n)
removable_ok tree path directory node (Ok n) h = (n, refl)
removable_ok tree path directory node (Err end) h = cc

take_short : (n : ℕ) (path : List (List ℕ)) → length (take n path) ≤ length path
take_short zero path = omega arith
take_short (suc n) [] = omega arith
take_short (suc n) (part ∷ path) = let short = take_short n path in omega arith

pub removed_gone : (tree : Tree) (path : List (List ℕ)) (directory : Bool) (node : Node) → IsSound tree → remove_answer tree path directory ≡ Ok node → found (removed tree path) path ≡ Err (Refused NoEntry)
removed_gone tree path directory node sound h =
    elim (cases_Bool (length path == 0)) [
      | inl root ↦ absurd (let refused = sym (cond-true (length path == 0) _ _ root) ∙ h in cc)
      | inr below ↦
          let above = parent path in
          let last = last_of path in
          let less = remove_entry (is_at path) tree in
          let rest = remove_entry (is_part last) (entries_in less above) in
          let next = removed tree path in
          let there = removable_ok tree path directory node (found tree path) (sym (cond-false (length path == 0) _ _ below) ∙ h) in
          let walk = goes_parts (walked tree [] above) (named (entry_at tree path)) there.0 (sym (cond-false (length path == 0) _ _ below) ∙ there.1) in
          let short = take_short (length path - 1) path in
          let way : walked next [] above ≡ Ok tt =
          walk_same tree next [] above (length above)
          (λ d under. ap or_empty (set_other (is_at d) less above rest (lengths_apart d above (λ e. omega arith)) ∙ less_other (is_at d) tree path (lengths_apart d path (λ e. omega arith))))
          (omega arith) ∙ walk.0
          in
          let entry : entry_at next path ≡ None = set_look less above rest last (gone (entries_in less above) last (directory_in less above (are_less tree path sound.directories)).once) in
          cond-false (length path == 0) _ _ below ∙ ap (λ r. goes_on r (named (entry_at next path))) way ∙ ap named entry
    ]

-- ---- what each call keeps

pub are_made : (tree : Tree) (path : List (List ℕ)) (entry : Entry) → make_answer tree path ≡ Ok tt → AreDirectories tree → AreDirectories (put tree path entry)
are_made tree path entry h sound =
    let can = can_be_made tree path h in
    let entries = entries_in tree (parent path) in
    are_given tree (parent path) (entries ++ (last_of path, entry) ∷ []) (directory_push entries (last_of path) entry can.room can.free (directory_in tree (parent path) sound)) sound

few_moved : (es : Listed) (t : List ℕ → Bool) (v : Entry) (part : List ℕ) (entry : Entry) → lookup t es ≡ Some v → length (remove_entry t (es ++ (part, entry) ∷ [])) ≡ length es
few_moved [] t v part entry h = cc
few_moved (e ∷ es) t v part entry h =
    let more = length-append es ((part, entry) ∷ []) in
    elim (cases_Bool (t e.0)) [
      | inl here ↦ ap (λ b. length (cond b (es ++ (part, entry) ∷ []) (e ∷ remove_entry t (es ++ (part, entry) ∷ [])))) here ∙ omega arith
      | inr on ↦ ap (λ b. length (cond b (es ++ (part, entry) ∷ []) (e ∷ remove_entry t (es ++ (part, entry) ∷ [])))) on ∙ ap suc (few_moved es t v part entry (sym (look_on t e es on) ∙ h))
    ]

-- a directory's entries given and then given anew
are_set_given : (tree : Tree) (d : List (List ℕ)) (v w : Listed) → IsDirectory w → AreDirectories tree → AreDirectories (set_value (is_at d) (insert_entry is_at tree d v) w)
are_set_given [] d v w is sound = subst (λ b. AreDirectories (cond b ((d, w) ∷ []) ((d, v) ∷ []))) (sym (path_itself d)) (is, tt)
are_set_given (e ∷ es) d v w is sound =
    elim (cases_Bool (is_at d e.0)) [
      | inl here ↦ subst (λ b. AreDirectories (set_value (is_at d) (cond b ((e.0, v) ∷ es) (e ∷ insert_entry is_at es d v)) w)) (sym here)
          (subst (λ b. AreDirectories (cond b ((e.0, w) ∷ es) ((e.0, v) ∷ set_value (is_at d) es w))) (sym here) (is, sound.1))
      | inr on ↦ subst (λ b. AreDirectories (set_value (is_at d) (cond b ((e.0, v) ∷ es) (e ∷ insert_entry is_at es d v)) w)) (sym on)
          (subst (λ b. AreDirectories (cond b ((e.0, w) ∷ insert_entry is_at es d v) (e ∷ set_value (is_at d) (insert_entry is_at es d v) w))) (sym on) (sound.0, are_set_given es d v w is sound.1))
    ]

-- an entry that changes its name within its directory
are_moved : (tree : Tree) (d : List (List ℕ)) (old new : List ℕ) (v entry : Entry) → entry_in tree d old ≡ Some v → entry_in tree d new ≡ None → AreDirectories tree → AreDirectories (unlisted (listed tree d new entry) d old)
are_moved tree d old new v entry there free sound =
    let es = entries_in tree d in
    let more = es ++ (new, entry) ∷ [] in
    let is = directory_in tree d sound in
    let kept : IsDirectory (remove_entry (is_part old) more) = record {
      few = let same = few_moved es (is_part old) v new entry there in let few = is.few in omega arith;
      once = once_less more (is_part old) (once_push es new entry free is.once);
    } in
    subst (λ (w : Listed). AreDirectories (set_value (is_at d) (listed tree d new entry) (remove_entry (is_part old) w))) (sym (given_here tree d more))
    (are_set_given tree d more (remove_entry (is_part old) more) kept sound)

abbrev node_of : Result Node NameEnd → Node
node_of (Ok node) = node
node_of (Err end) = Dir

pub ok_is : (x y : Node) → (◌≡◌ {A = Result Node NameEnd} (Ok x) (Ok y)) → x ≡ y
ok_is x y e = ap node_of e

pub named_is : (o : Option Entry) (node : Node) → named o ≡ Ok node → o ≡ Some (Named node)
named_is None node h = cc
named_is (Some (Named n)) node h = ap (λ m. Some (Named m)) (ok_is n node h)
named_is (Some (Link path)) node h = cc

pub renamed_parts : (r : Result Node NameEnd) (target : Result (Unit {0}) NameEnd) (node : Node) → renamed_found r target ≡ Ok node → (r ≡ Ok node) × ((renamable node ≡ Ok tt) × (target ≡ Ok tt))
renamed_parts (Err end) target node h = cc
renamed_parts (Ok n) target node h =
    let first = goes_parts (renamable n) (goes_on target (Ok n)) node h in
    let second = goes_parts target (Ok n) node first.1 in
    (second.1, (subst (λ (m : Node). renamable m ≡ Ok tt) (ok_is n node second.1) first.0, second.0))

pub found_entry : (tree : Tree) (path : List (List ℕ)) (node : Node) → found tree path ≡ Ok node → renamable node ≡ Ok tt → entry_at tree path ≡ Some (Named node)
found_entry tree path node h may =
    elim (cases_Bool (length path == 0)) [
      | inl root ↦ absurd (
          let dir : Dir ≡ node = ok_is Dir node (sym (cond-true (length path == 0) _ _ root) ∙ h) in
          let refused = ap renamable dir ∙ may in cc)
      | inr below ↦
          let walk = goes_parts (walked tree [] (parent path)) (named (entry_at tree path)) node (sym (cond-false (length path == 0) _ _ below) ∙ h) in
          named_is (entry_at tree path) node walk.1
    ]

pub are_renamed : (tree : Tree) (old new : List (List ℕ)) (node : Node) → renamed_node tree old new ≡ Ok node → AreDirectories tree → AreDirectories (renamed tree old new node)
are_renamed tree old new node h sound =
    let parts = renamed_parts (found tree old) (rename_target tree old new) node h in
    let from = found_entry tree old node parts.0 parts.1.0 in
    let above = parent old in
    let below = parent new in
    let room = cond (is_at above below) (Ok tt) (roomy tree below) in
    elim (cases_Bool (length new == 0)) [
      | inl root ↦ absurd (let refused = sym (cond-true (length new == 0) _ _ root) ∙ parts.1.1 in cc)
      | inr on ↦
          let walk = goes_parts (walked tree [] below) (goes_on (freed (entry_at tree new)) room) tt (sym (cond-false (length new == 0) _ _ on) ∙ parts.1.1) in
          let last = goes_parts (freed (entry_at tree new)) room tt walk.1 in
          let free = freed_none (entry_at tree new) last.0 in
          elim (cases_Bool (is_at above below)) [
            | inl same ↦
                let one = path_is above below same in
                subst (λ (d : List (List ℕ)). AreDirectories (unlisted (listed tree below (last_of new) (Named node)) d (last_of old))) (sym one)
                (are_moved tree below (last_of old) (last_of new) (Named node) (Named node) (subst (λ (d : List (List ℕ)). entry_in tree d (last_of old) ≡ Some (Named node)) one from) free sound)
            | inr apart ↦
                let fits = room_of tree below (sym (cond-false (is_at above below) _ _ apart) ∙ last.1) in
                are_unlisted (made tree new node) above (last_of old)
                (are_given tree below (entries_in tree below ++ (last_of new, Named node) ∷ []) (directory_push (entries_in tree below) (last_of new) (Named node) fits free (directory_in tree below sound)) sound)
          ]
    ]
