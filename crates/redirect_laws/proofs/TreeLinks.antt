-- The links in the names of a domain: they stay.
use Rattle.std.proofs.Common.{ℕ, Bool, true, false, cond, List, [], ◌∷◌, ◌++◌, Option, Some, None}
use Rattle.std.specs.List.{AllByRecursion}
use Rattle.std.specs.Map.{lookup, remove_entry, set_value}
use Rattle.indexmap.specs.IndexMap.{insert_entry}
use Rattle.sprite_ids.proofs.ListLaws.{each_push}
use Rattle.server_names.specs.declared.Entry.{Entry}
use Rattle.server_names.specs.declared.Entry.TheVariants as entries
use Rattle.server_names.specs.declared.Node.{Node}
use Rattle.server_names.specs.Names as names
use Rattle.server_names.specs.Names.{Listed, Tree}
use Rattle.redirect_laws.specs.Links.{AreLinks, EntriesLink, IsLink, Parts}

-- ---- maps, as lists of their entries

value_insert : {K X : Type 0} (eq : K → K → Bool) (P : X → Type 0) (es : List (K × X)) (k : K) (v : X) → AllByRecursion (λ (e : K × X). P e.1) es → P v → AllByRecursion (λ (e : K × X). P e.1) (insert_entry eq es k v)
value_insert eq P [] k v h new = (new, tt)
value_insert {K} {X} eq P (e ∷ es) k v h new = elim (eq k e.0) as (λ b. AllByRecursion (λ (e : K × X). P e.1) (cond b ((e.0, v) ∷ es) (e ∷ insert_entry eq es k v))) [ true ↦ (new, h.1) | false ↦ (h.0, value_insert eq P es k v h.1 new) ]

value_set : {K X : Type 0} (test : K → Bool) (P : X → Type 0) (es : List (K × X)) (v : X) → AllByRecursion (λ (e : K × X). P e.1) es → P v → AllByRecursion (λ (e : K × X). P e.1) (set_value test es v)
value_set test P [] v h new = tt
value_set {K} {X} test P (e ∷ es) v h new = elim (test e.0) as (λ b. AllByRecursion (λ (e : K × X). P e.1) (cond b ((e.0, v) ∷ es) (e ∷ set_value test es v))) [ true ↦ (new, h.1) | false ↦ (h.0, value_set test P es v h.1 new) ]

value_less : {K X : Type 0} (test : K → Bool) (P : X → Type 0) (es : List (K × X)) → AllByRecursion (λ (e : K × X). P e.1) es → AllByRecursion (λ (e : K × X). P e.1) (remove_entry test es)
value_less test P [] h = tt
value_less {K} {X} test P (e ∷ es) h = elim (test e.0) as (λ b. AllByRecursion (λ (e : K × X). P e.1) (cond b es (e ∷ remove_entry test es))) [ true ↦ h.1 | false ↦ (h.0, value_less test P es h.1) ]

-- what is looked up, where it is there
abbrev pub IfThere : {X : Type 0} → (X → Type 0) → Option X → Type 0
IfThere P None = Unit {0}
IfThere P (Some x) = P x

value_there : {K X : Type 0} (test : K → Bool) (P : X → Type 0) (es : List (K × X)) → AllByRecursion (λ (e : K × X). P e.1) es → IfThere P (lookup test es)
value_there test P [] h = tt
value_there {K} {X} test P (e ∷ es) h = elim (test e.0) as (λ b. IfThere P (cond b (Some e.1) (lookup test es))) [ true ↦ h.0 | false ↦ value_there test P es h.1 ]

module _ (leads : Parts → Bool) where
  -- ---- the names stay so

  or_empty : (o : Option Listed) → IfThere (EntriesLink leads) o → EntriesLink leads (names.or_empty o)
  or_empty None h = tt
  or_empty (Some listed) h = h

  entries_link : (tree : Tree) (directory : Parts) → AreLinks leads tree → EntriesLink leads (names.entries_in tree directory)
  entries_link tree directory h = or_empty (lookup (names.is_at directory) tree) (value_there (names.is_at directory) (EntriesLink leads) tree h)

  pub put_links : (tree : Tree) (path : Parts) (entry : Entry) → IsLink leads entry → AreLinks leads tree → AreLinks leads (names.put tree path entry)
  put_links tree path entry is h =
      value_insert names.is_at (EntriesLink leads) tree (names.parent path) (names.entries_in tree (names.parent path) ++ (names.last_of path, entry) ∷ []) h
      (each_push (λ (row : List ℕ × Entry). IsLink leads row.1) (names.entries_in tree (names.parent path)) (names.last_of path, entry) (entries_link tree (names.parent path) h) is)

  pub made_links : (tree : Tree) (path : Parts) (node : Node) → AreLinks leads tree → AreLinks leads (names.made tree path node)
  made_links tree path node h = put_links tree path (entries.Node node) tt h

  unlisted_links : (tree : Tree) (directory : Parts) (part : List ℕ) → AreLinks leads tree → AreLinks leads (names.unlisted tree directory part)
  unlisted_links tree directory part h = value_set (names.is_at directory) (EntriesLink leads) tree (remove_entry (names.is_part part) (names.entries_in tree directory)) h (value_less (names.is_part part) (IsLink leads) (names.entries_in tree directory) (entries_link tree directory h))

  pub removed_links : (tree : Tree) (path : Parts) → AreLinks leads tree → AreLinks leads (names.removed tree path)
  removed_links tree path h = unlisted_links (remove_entry (names.is_at path) tree) (names.parent path) (names.last_of path) (value_less (names.is_at path) (EntriesLink leads) tree h)

  pub renamed_links : (tree : Tree) (old new : Parts) (node : Node) → AreLinks leads tree → AreLinks leads (names.renamed tree old new node)
  renamed_links tree old new node h = unlisted_links (names.made tree new node) (names.parent old) (names.last_of old) (made_links tree new node h)

  -- ---- where an entry leads

  pub entry_leads : (tree : Tree) (directory : Parts) (part : List ℕ) → AreLinks leads tree → IfThere (IsLink leads) (names.entry_in tree directory part)
  entry_leads tree directory part h = value_there (names.is_part part) (IsLink leads) (names.entries_in tree directory) (entries_link tree directory h)
