-- A file of version 1 joins no other's.
use Rattle.std.proofs.Common.{◌≡◌, ℕ, ℤ, pos, negsuc, ◌+◌, ◌==◌, List, [], ◌∷◌, codes, Bool, true, false, cond, Option, Some, None, Ordering, Less, Equal, Greater, nat_cmp, refl, sym, ap, ◌∙◌, arith, nat_lt}
use Rattle.std.specs.List.{AllByRecursion}
use Rattle.std.specs.Option.{option_and_then, unwrap_or}
use Rattle.std.specs.Ordering.{match_ordering}
use Rattle.std.specs.Cmp.Lexicographic.{slice_cmp}
use Rattle.std.proofs.lemmas.Bool.{true≢false, ne_eqb, ltb-false}
use Rattle.std.proofs.lemmas.Map.Lookups.{exact_bytes}
use Rattle.toml.specs.Data.{Data, Members, no_members, member, get_member, as_bool, as_table}
use Rattle.cluster_file.specs.declared.keys.KeyName.TheVariants as name
use Rattle.cluster_file.specs.declared.keys.Section.TheVariants.{Kernel, Program, Start, File}
use Rattle.cluster_file.specs.declared.fault.Fault.TheVariants.{UnknownKey}
use Rattle.cluster_file.specs.Clusters.{form_fault}
use Rattle.cluster_file.specs.Faults
use Rattle.cluster_file.specs.Keys.{file_keys, section_key}
use Rattle.cluster_file.specs.Tables.{elements_at, tables_in, with_some, truth_at, whole_at, within, is_two}
use Rattle.cluster_file.proofs.StageLaws.{neither, mapped_none}

-- a version that isn't 2
not_two_by : (n v : ℕ) (b : Bool) → cond b (Some n) None ≡ Some v → nat_lt 1 v ≡ false → (n == 2) ≡ false
not_two_by n v true e h =
    let same : n ≡ v = cc in
    let few = ltb-false 1 v h in
    ne_eqb n 2 (λ two. omega (arith, same, few, two))
not_two_by n v false e h = absurd (cc)

-- so the file is read by the keys of version 1
not_two : (z : ℤ) (v : ℕ) → within 1 2 z ≡ Some v → nat_lt 1 v ≡ false → is_two z ≡ false
not_two (pos n) v e h = not_two_by n v _ e h
not_two (negsuc n) v e h = absurd (cc)

-- a key that is unknown is none of a table's
known_if : (text : List ℕ) (rest : Members) (b : Bool) → cond b (Faults.unknown_key (file_keys false) rest) (Some text) ≡ None → (b ≡ true) × (Faults.unknown_key (file_keys false) rest ≡ None)
known_if text rest true e = (refl, e)
known_if text rest false e = absurd (cc)

-- the key `append` is none of a table whose keys are known
absent_by : (text : List ℕ) (d : Data) (more : Option Data) (o : Ordering) → slice_cmp nat_cmp (codes "append") text ≡ o → Faults.is_known (file_keys false) text ≡ true → more ≡ None → match_ordering o more (Some d) more ≡ None
absent_by text d more Less is known none = none
absent_by text d more Greater is known none = none
absent_by text d more Equal is known none =
    let same : codes "append" ≡ text = exact_bytes (codes "append") text is in
    absurd (true≢false (sym known ∙ ap (Faults.is_known (file_keys false)) (sym same)))

-- so there is no value at it
append_absent : (table : Members) → Faults.unknown_key (file_keys false) table ≡ None → get_member (codes "append") table ≡ None
append_absent no_members e = refl
append_absent (member text d rest) e =
    let parts = known_if text rest (Faults.is_known (file_keys false) text) e in
    absent_by text d (get_member (codes "append") rest) (slice_cmp nat_cmp (codes "append") text) refl parts.0 (append_absent rest parts.1)

-- and none is read
append_unset : (table : Members) → Faults.unknown_key (file_keys false) table ≡ None → truth_at name.Append table ≡ false
append_unset table e = ap (λ (o : Option Data). unwrap_or (option_and_then as_bool o) false) (append_absent table e)

-- a table that sets no `append`
abbrev IsUnset : Members → Type 0
IsUnset table = truth_at name.Append table ≡ false

-- one more table of some elements
with_unset : (o : Option Members) (number : ℕ) (tables : List Members) → Faults.table_fault UnknownKey File (file_keys false) number o ≡ None → AllByRecursion IsUnset tables → AllByRecursion IsUnset (with_some o tables)
with_unset None number tables e h = h
with_unset (Some table) number tables e h =
    (append_unset table (mapped_none _ (Faults.unknown_key (file_keys false) table) (mapped_none _ (Faults.fault_in UnknownKey (file_keys false) table) e)), h)

-- all tables of some elements
elements_unset : (number : ℕ) (ds : List Data) → Faults.elements_fault UnknownKey File (file_keys false) number ds ≡ None → AllByRecursion IsUnset (tables_in ds)
elements_unset number [] e = tt
elements_unset number (d ∷ ds) e =
    let both = neither (Faults.table_fault UnknownKey File (file_keys false) number (as_table d)) (Faults.elements_fault UnknownKey File (file_keys false) (number + 1) ds) e in
    with_unset (as_table d) number (tables_in ds) both.0 (elements_unset (number + 1) ds both.1)

-- no table of a file sets `append` in version 1
pub no_appends : (document : Members) (version : ℕ) → form_fault document ≡ None → within 1 2 (whole_at name.Version 0 document) ≡ Some version → nat_lt 1 version ≡ false → AllByRecursion (λ (table : Members). truth_at name.Append table ≡ false) (tables_in (elements_at (section_key File) document))
no_appends document version e is old =
    let unknown = (neither (Faults.document_fault UnknownKey document) _ e).0 in
    let sections = (neither (Faults.top_fault UnknownKey document) _ unknown).1 in
    let kernel = (neither (Faults.section_fault UnknownKey document Kernel) _ sections).1 in
    let program = (neither (Faults.section_fault UnknownKey document Program) _ kernel).1 in
    let start = (neither (Faults.section_fault UnknownKey document Start) _ program).1 in
    let file = (neither (Faults.section_fault UnknownKey document File) _ start).0 in
    let z = whole_at name.Version 0 document in
    let elements = elements_at (section_key File) document in
    elements_unset 1 elements (sym (ap (λ b. Faults.elements_fault UnknownKey File (file_keys b) 1 elements) (not_two z version is old)) ∙ file)
