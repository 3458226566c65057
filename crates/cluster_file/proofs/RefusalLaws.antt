-- Answers that may be refused.
use Rattle.std.specs.Bool.{if◌then◌else◌}
use Rattle.std.proofs.Common.{Bool, true, nat_lt, ◌≡◌, ◌<◌, ℕ, zero, suc, List, [], ◌∷◌, length, map, drop, get_or, Result, Ok, Err, Option, Some, sym, ap, subst, ◌∙◌, arith}
use Rattle.toml.specs.Data.{Members, as_table}
use Rattle.toml.specs.View.{view}
use Rattle.toml.specs.declared.value.Value.{Value}
use Rattle.cluster_file.specs.Tables.{tables_in, with_some}
use Rattle.cluster_file.specs.declared.keys.Section.{Section}
use Rattle.cluster_file.specs.Keys.{section_key}
use Rattle.cluster_file.specs.Rows.{where_room, most_of, refused_top}
use Rattle.cluster_file.specs.declared.refusal.Refusal.{Refusal}
use Rattle.cluster_file.specs.declared.refusal.FileEnd.{FileEnd}
use Rattle.cluster_file.specs.declared.refusal.FileEnd.TheVariants as end
use Rattle.cluster_file.specs.Refusals.{and_then, put_behind, read_on, IsRefusedBy}

-- want of memory stands for nothing
pub refused_free : {A : Type 0} (answer : Result A Refusal) → IsRefusedBy answer end.NoMemory
refused_free (Ok x) = tt
refused_free (Err r) = tt

-- what refuses an answer refuses what is made of it
pub refused_then : {A B : Type 0} (next : A → Result B Refusal) (answer : Result A Refusal) (e : FileEnd) → IsRefusedBy answer e → IsRefusedBy (and_then next answer) e
refused_then next (Ok x) (end.Refused r) bad = absurd bad
refused_then next (Err r) (end.Refused s) same = same
refused_then next (Ok x) end.NoMemory free = refused_free (next x)
refused_then next (Err r) end.NoMemory free = tt

-- what refuses one of a list refuses all
pub refused_on : {A B : Type 0} (read : List B → A → Result B Refusal) (earlier : List B) (answer : Result B Refusal) (xs : List A) (e : FileEnd) → IsRefusedBy answer e → IsRefusedBy (read_on read (put_behind earlier answer) xs) e
refused_on read earlier (Ok y) xs (end.Refused r) bad = absurd bad
refused_on read earlier (Err r) xs (end.Refused s) same = same
refused_on read earlier answer xs end.NoMemory free = refused_free (read_on read (put_behind earlier answer) xs)

-- the place in a list at which an element stands
drop_at : {A : Type 0} (xs : List A) (i : ℕ) (x : A) → i < length xs → x ≡ get_or xs i x → drop i xs ≡ x ∷ drop (suc i) xs
drop_at [] i x within is = absurd (omega arith)
drop_at (y ∷ ys) zero x within is = ap (λ z. z ∷ ys) (sym is)
drop_at (y ∷ ys) (suc i) x within is = drop_at ys i x (omega arith) is

-- what refuses an element of a list that is read refuses the whole
pub refused_at_element : {A B : Type 0} (read : List B → A → Result B Refusal) (earlier : List B) (xs : List A) (i : ℕ) (x : A) (whole : Result (List B) Refusal) (e : FileEnd) → read_on read (Ok earlier) (drop i xs) ≡ whole → i < length xs → x ≡ get_or xs i x → IsRefusedBy (read earlier x) e → IsRefusedBy whole e
refused_at_element {A} {B} read earlier xs i x whole e is within there bad =
    subst (λ (a : Result (List B) Refusal). IsRefusedBy a e) (sym (ap (λ ys. read_on read (Ok earlier) ys) (drop_at xs i x within there)) ∙ is) (refused_on read earlier (read earlier x) (drop (suc i) xs) e bad)

-- what refuses a table of an array that is read refuses the whole
pub refused_at_table : {B : Type 0} (read : List B → Members → Result B Refusal) (earlier : List B) (vs : List Value) (i : ℕ) (v : Value) (table : Members) (whole : Result (List B) Refusal) (e : FileEnd) → read_on read (Ok earlier) (tables_in (map view (drop i vs))) ≡ whole → i < length vs → v ≡ get_or vs i v → as_table (view v) ≡ Some table → IsRefusedBy (read earlier table) e → IsRefusedBy whole e
refused_at_table {B} read earlier vs i v table whole e is within there found bad =
    let rest = tables_in (map view (drop (suc i) vs)) in
    let one : read_on read (Ok earlier) (tables_in (map view (drop i vs))) ≡ read_on read (Ok earlier) (table ∷ rest) = ap (λ (ws : List Value). read_on read (Ok earlier) (tables_in (map view ws))) (drop_at vs i v within there) ∙ ap (λ (o : Option Members). read_on read (Ok earlier) (with_some o rest)) found in
    subst (λ (a : Result (List B) Refusal). IsRefusedBy a e) (sym one ∙ is) (refused_on read earlier (read earlier table) rest e bad)

-- where there is room, what refuses the row refuses it
pub refused_where_room : {A B : Type 0} (section : Section) (earlier : List A) (row : Result B Refusal) (e : FileEnd) → nat_lt (length earlier) (most_of section) ≡ true → IsRefusedBy row e → IsRefusedBy (where_room section earlier row) e
refused_where_room {A} {B} section earlier row e room bad =
    let same : row ≡ where_room section earlier row = sym (ap (λ (b : Bool). if b then row else refused_top {A = B} (section_key section)) room) in
    subst (λ (a : Result B Refusal). IsRefusedBy a e) same bad
