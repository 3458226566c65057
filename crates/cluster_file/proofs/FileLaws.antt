-- Files of a description, as their rows write them.
use Rattle.std.proofs.Common.{◌≡◌, ◌≤◌, ℕ, zero, suc, ◌+◌, ◌*◌, ◌==◌, List, [], ◌∷◌, ◌++◌, length, map, Bool, true, false, cond, ◌&&◌, ◌||◌, not, Option, Some, None, Ok, inl, inr, refl, sym, ap, subst, ◌∙◌, arith, nat_le, nat_lt, append_assoc, length-append}
use Rattle.std.specs.Prelude.{sum}
use Rattle.std.specs.List.{AllByRecursion, fold, list_all, list_any}
use Rattle.std.specs.Cmp.Lexicographic.{bytes_decides}
use Rattle.std.proofs.Math.Nat.{mul-suc, suc-mul}
use Rattle.std.proofs.lemmas.Bool.{true≢false, and_parts, and_from, or_parts, or_from, or_left, or_right, not-true, not_from_false, cases_Bool, leb-true, le-leb, le-ltb, ltb-true}
use Rattle.std.proofs.lemmas.List.{append-nil}
use Rattle.sprite_paths.specs.Path.{text_of, is_prefix}
use Rattle.sprite_paths.proofs.PathLaws.{parts_decide}
use Rattle.toml.specs.Data.{Members}
use Rattle.unix_calls.specs.declared.description.Description.{Description}
use Rattle.unix_calls.specs.declared.description.KernelLine.{KernelLine}
use Rattle.unix_calls.specs.declared.description.FileLine.{FileLine}
use Rattle.unix_calls.specs.Boot.{bytes_at, limit_of}
use Rattle.unix_calls.specs.Domains.{roots_of}
use Rattle.unix_calls.specs.Lawful.{is_clean, is_above, is_file_path, same_fact, are_joined, size_of, has_file_paths, has_joins, has_sizes}
use Rattle.unix_calls.specs.Same.{same_text}
use Rattle.unix_calls.specs.Tree.{same_path}
use Rattle.cluster_file.specs.declared.rows.FileRow.{FileRow}
use Rattle.cluster_file.specs.declared.keys.KeyName.TheVariants as name
use Rattle.cluster_file.specs.declared.keys.Section.TheVariants.{File}
use Rattle.cluster_file.specs.Keys.{section_key}
use Rattle.cluster_file.specs.Paths
use Rattle.cluster_file.specs.Rows
use Rattle.cluster_file.specs.Tables.{elements_at, tables_in, text_at, truth_at, with_some}
use Rattle.cluster_file.proofs.LineLaws.{IsPathOf, path_is}
use Rattle.cluster_file.proofs.OnceLaws.{any_flat, any_map}
use Rattle.cluster_file.proofs.RowLaws.{if_given, each_row, each_row_of, rows_keep}
use Rattle.cluster_file.proofs.StageLaws.{read_leads, reads_all, reads_each, reads_same, reads_keeps, mapped_push, all_passed}

-- ---- rows

-- what a row of a file keeps
record IsFileRow (version : ℕ) (earlier : List FileRow) (table : Members) (row : FileRow) : Type 0 where
  size : length row.text * row.repeat ≡ row.size
  small : row.size ≤ limit_of version
  room : Rows.has_room version earlier row.path row.size ≡ true
  append : row.append ≡ truth_at name.Append table

-- a row whose size is tested
sized_if : (version : ℕ) (earlier : List FileRow) (table : Members) (row : FileRow) (repeat size : ℕ) (b : Bool) → length (text_at name.Text table) * repeat ≡ size → (nat_le size (limit_of version) && Rows.has_room version earlier (text_at name.Path table) size) ≡ b → Rows.sized earlier table repeat (cond b (Some size) None) ≡ Ok row → IsFileRow version earlier table row
sized_if version earlier table row repeat size true is tests e =
    let same : record { path = text_at name.Path table; text = text_at name.Text table; repeat = repeat; size = size; append = truth_at name.Append table } ≡ row = cc in
    let both = and_parts (nat_le size (limit_of version)) (Rows.has_room version earlier (text_at name.Path table) size) tests in
    subst (IsFileRow version earlier table) same (record { size = is; small = leb-true size (limit_of version) both.0; room = both.1; append = refl })
sized_if version earlier table row repeat size false is tests e = absurd (cc)

-- the same where the repetitions are known or not
repeated_row : (version : ℕ) (earlier : List FileRow) (table : Members) (row : FileRow) (o : Option ℕ) → Rows.repeated_by version earlier table o ≡ Ok row → IsFileRow version earlier table row
repeated_row version earlier table row None e = absurd (cc)
repeated_row version earlier table row (Some repeat) e = sized_if version earlier table row repeat (length (text_at name.Text table) * repeat) _ refl refl e

-- so each row keeps it
row_is : (version : ℕ) (earlier : List FileRow) (table : Members) (row : FileRow) → Rows.file_row version earlier table ≡ Ok row → IsFileRow version earlier table row
row_is version earlier table row e = repeated_row version earlier table row _ e

-- in version 2 there was room
room_is : (version : ℕ) (earlier : List FileRow) (path : List ℕ) (size : ℕ) (b : Bool) → nat_lt version 2 ≡ b → b ≡ false → Rows.has_room version earlier path size ≡ true → (Rows.bytes_of earlier + size ≤ 67108864) × (Rows.bytes_at path earlier + size ≤ limit_of version)
room_is version earlier path size b is young e =
    let tests : (nat_le (Rows.bytes_of earlier + size) 67108864 && nat_le (Rows.bytes_at path earlier + size) (limit_of version)) ≡ true = sym (ap (λ t. t || (nat_le (Rows.bytes_of earlier + size) 67108864 && nat_le (Rows.bytes_at path earlier + size) (limit_of version))) (is ∙ young)) ∙ e in
    let both = and_parts (nat_le (Rows.bytes_of earlier + size) 67108864) (nat_le (Rows.bytes_at path earlier + size) (limit_of version)) tests in
    (leb-true (Rows.bytes_of earlier + size) 67108864 both.0, leb-true (Rows.bytes_at path earlier + size) (limit_of version) both.1)

-- the bytes of one more row
bytes_push : (rows : List FileRow) (row : FileRow) → Rows.bytes_of (rows ++ row ∷ []) ≡ Rows.bytes_of rows + row.size
bytes_push [] row = omega arith
bytes_push (r ∷ rs) row = let rest = bytes_push rs row in omega (arith, rest)

-- one row alone
at_one : (b : Bool) (size : ℕ) → cond b (size + 0) 0 ≡ 0 + cond b size 0
at_one true size = omega arith
at_one false size = refl

-- one more row in front
at_more : (b : Bool) (size rest more added : ℕ) → more ≡ rest + added → cond b (size + more) more ≡ cond b (size + rest) rest + added
at_more true size rest more added e = omega (arith, e)
at_more false size rest more added e = e

-- the bytes of a path with one more row
at_push : (path : List ℕ) (rows : List FileRow) (row : FileRow) → Rows.bytes_at path (rows ++ row ∷ []) ≡ Rows.bytes_at path rows + cond (same_text row.path path) row.size 0
at_push path [] row = at_one (same_text row.path path) row.size
at_push path (r ∷ rs) row = at_more (same_text r.path path) r.size (Rows.bytes_at path rs) _ _ (at_push path rs row)

-- where a file has its path, the room for it is that for the path
room_at : (version : ℕ) (rows : List FileRow) (row : FileRow) (path : List ℕ) (b : Bool) → same_text row.path path ≡ b → Rows.bytes_at row.path rows + row.size ≤ limit_of version → Rows.bytes_at path rows ≤ limit_of version → Rows.bytes_at path rows + cond b row.size 0 ≤ limit_of version
room_at version rows row path true is h k =
    subst (λ p. Rows.bytes_at p rows + row.size ≤ limit_of version) ((bytes_decides row.path path).0 is) h
room_at version rows row path false is h k = omega (arith, k)

-- all rows together, and those of each path, are within their limits
abbrev HasRoom : ℕ → List FileRow → Type 0
HasRoom version rows = (Rows.bytes_of rows ≤ 67108864) × ((path : List ℕ) → Rows.bytes_at path rows ≤ limit_of version)

-- so it is in version 2
rows_room : (version : ℕ) (document : Members) (rows : List FileRow) → nat_lt version 2 ≡ false → Rows.rows_of File (Rows.file_row version) document ≡ Ok rows → HasRoom version rows
rows_room version document rows young e =
    rows_keep File (HasRoom version) (Rows.file_row version)
    (λ earlier table row is h.
    let room = room_is version earlier row.path row.size (nat_lt version 2) refl young (row_is version earlier table row is).room in (
      subst (λ n. n ≤ 67108864) (sym (bytes_push earlier row)) room.0,
      λ path. subst (λ n. n ≤ limit_of version) (sym (at_push path earlier row)) (room_at version earlier row path (same_text row.path path) refl room.1 (h.1 path)),
    ))
    document rows (omega arith, λ path. omega arith) e

-- in version 1 each is small
rows_small : (version : ℕ) (document : Members) (rows : List FileRow) → Rows.rows_of File (Rows.file_row version) document ≡ Ok rows → AllByRecursion (λ (r : FileRow). r.size ≤ limit_of version) rows
rows_small version document rows e = each_row File _ (Rows.file_row version) (λ earlier table row is. (row_is version earlier table row is).small) document rows e

-- small rows have no more bytes than so many of the largest
small_sum : (most : ℕ) (rows : List FileRow) → AllByRecursion (λ (r : FileRow). r.size ≤ most) rows → Rows.bytes_of rows ≤ length rows * most
small_sum most [] h = omega arith
small_sum most (row ∷ rows) h =
    let rest = small_sum most rows h.1 in
    let here = h.0 in
    subst (λ n. row.size + Rows.bytes_of rows ≤ n) (sym (suc-mul (length rows) most)) (omega (arith, rest, here))

-- ---- lines

-- what a file's line keeps of its row
record IsFileLine (kernels : List KernelLine) (paths : List (List (List ℕ))) (earlier : List FileLine) (row : FileRow) (line : FileLine) : Type 0 where
  found : Paths.path_of row.path ≡ Some line.path
  path : IsPathOf row.path line.path
  free : Paths.is_free kernels paths earlier row.append line.path ≡ true
  bytes : line.bytes ≡ Paths.repeated row.text row.repeat
  append : line.append ≡ row.append

-- a line whose path is known or not
filed_by : (kernels : List KernelLine) (paths : List (List (List ℕ))) (earlier : List FileLine) (row : FileRow) (line : FileLine) (o : Option (List (List ℕ))) → Paths.path_of row.path ≡ o → Paths.filed_at kernels paths earlier row o ≡ Ok line → IsFileLine kernels paths earlier row line
filed_by kernels paths earlier row line None is e = absurd (cc)
filed_by kernels paths earlier row line (Some path) is e =
    let given = if_given (Paths.is_free kernels paths earlier row.append path) _ _ line _ refl e in
    let same : record { path = path; bytes = Paths.repeated row.text row.repeat; append = row.append } ≡ line = cc in
    subst (IsFileLine kernels paths earlier row) same (record { found = is; path = path_is row.path path is; free = given.0; bytes = refl; append = refl })

-- so each line keeps it
line_is : (kernels : List KernelLine) (paths : List (List (List ℕ))) (earlier : List FileLine) (row : FileRow) (line : FileLine) → Paths.file_line kernels paths earlier row ≡ Ok line → IsFileLine kernels paths earlier row line
line_is kernels paths earlier row line e = filed_by kernels paths earlier row line (Paths.path_of row.path) refl e

-- the paths of the lines are those of the rows
paths_same : (kernels : List KernelLine) (paths : List (List (List ℕ))) (rows : List FileRow) (lines : List FileLine) → Paths.filed kernels paths rows ≡ Ok lines → map (λ (l : FileLine). l.path) lines ≡ Paths.file_paths rows
paths_same kernels paths rows lines e =
    let path_in : FileLine → List (List ℕ) = λ (l : FileLine). l.path in
    sym (append-nil (map path_in lines)) ∙
    read_leads (λ (left : List FileRow) (ys : List FileLine). map path_in ys ++ Paths.file_paths left ≡ Paths.file_paths rows) (Paths.file_line kernels paths)
    (λ row rest ys line is k.
    mapped_push path_in ys line (Paths.file_paths rest)
    ∙ sym (ap (λ o. map path_in ys ++ with_some o (Paths.file_paths rest)) (line_is kernels paths ys row line is).found)
    ∙ k)
    rows [] lines refl e

-- what a file's path keeps
record IsFree (kernels : List KernelLine) (paths : List (List (List ℕ))) (path : List (List ℕ)) : Type 0 where
  clean : is_clean path ≡ true
  below : same_path path [] ≡ false
  apart : list_any (is_prefix path) (roots_of kernels) ≡ false
  over : Paths.is_above_one paths path ≡ false

-- a path with a part is not `/`
not_empty : (path : List (List ℕ)) → (length path == 0) ≡ false → same_path path [] ≡ false
not_empty [] e = e
not_empty (part ∷ parts) e = refl

-- a path that is free keeps all that
free_is : (kernels : List KernelLine) (paths : List (List (List ℕ))) (earlier : List FileLine) (append : Bool) (path : List (List ℕ)) → is_clean path ≡ true → Paths.is_free kernels paths earlier append path ≡ true → IsFree kernels paths path
free_is kernels paths earlier append path clean e =
    let all = and_parts (not ((length path == 0) || Paths.is_taken kernels path || Paths.is_above_one paths path)) (same_fact append (Paths.has_earlier earlier path)) e in
    let none = not-true ((length path == 0) || Paths.is_taken kernels path || Paths.is_above_one paths path) all.0 in
    let last = or_parts ((length path == 0) || Paths.is_taken kernels path) (Paths.is_above_one paths path) none in
    let first = or_parts (length path == 0) (Paths.is_taken kernels path) last.0 in
    record {
      clean = clean;
      below = not_empty path first.0;
      apart = any_flat (is_prefix path) (λ (line : KernelLine). line.serves) kernels ∙ first.1;
      over = last.1;
    }

-- and it joins exactly where it was there before
joined_fact : (kernels : List KernelLine) (paths : List (List (List ℕ))) (earlier : List FileLine) (append : Bool) (path : List (List ℕ)) → Paths.is_free kernels paths earlier append path ≡ true → same_fact append (Paths.has_earlier earlier path) ≡ true
joined_fact kernels paths earlier append path e =
    (and_parts (not ((length path == 0) || Paths.is_taken kernels path || Paths.is_above_one paths path)) (same_fact append (Paths.has_earlier earlier path)) e).1

-- a free path is a lawful one
file_path_is : (c : Description) (line : FileLine) → IsFree c.kernels (map (λ (l : FileLine). l.path) c.files) line.path → is_file_path c line ≡ true
file_path_is c line h =
    let over : list_any (λ (other : FileLine). is_above line.path other.path) c.files ≡ false = sym (any_map (is_above line.path) (λ (l : FileLine). l.path) c.files) ∙ h.over in
    and_from (is_clean line.path && not (same_path line.path []) && not (list_any (is_prefix line.path) (roots_of c.kernels))) (not (list_any (λ (other : FileLine). is_above line.path other.path) c.files))
    (and_from (is_clean line.path && not (same_path line.path [])) (not (list_any (is_prefix line.path) (roots_of c.kernels)))
    (and_from (is_clean line.path) (not (same_path line.path [])) h.clean (not_from_false (same_path line.path []) h.below))
    (not_from_false (list_any (is_prefix line.path) (roots_of c.kernels)) h.apart))
    (not_from_false (list_any (λ (other : FileLine). is_above line.path other.path) c.files) over)

-- all files have lawful paths
pub file_paths_are : (c : Description) (rows : List FileRow) → Paths.file_lines c.kernels rows ≡ Ok c.files → has_file_paths c ≡ true
file_paths_are c rows e =
    let paths = Paths.file_paths rows in
    let same : map (λ (l : FileLine). l.path) c.files ≡ paths = paths_same c.kernels paths rows c.files e in
    all_passed (is_file_path c) c.files (
    reads_all (λ (l : FileLine). is_file_path c l ≡ true) (Paths.file_line c.kernels paths)
    (λ earlier row line is.
    let l = line_is c.kernels paths earlier row line is in
    file_path_is c line (subst (λ ps. IsFree c.kernels ps line.path) (sym same) (free_is c.kernels paths earlier row.append line.path l.path.clean l.free)))
    rows c.files e)

-- ---- lines that join

-- a path is the same as another where that is the same as it
same_by : (a b : List (List ℕ)) (s t : Bool) → same_path a b ≡ s → same_path b a ≡ t → s ≡ t
same_by a b true true e f = refl
same_by a b true false e f = absurd (true≢false (sym ((parts_decide b a).1 (sym ((parts_decide a b).0 e))) ∙ f))
same_by a b false true e f = absurd (true≢false (sym ((parts_decide a b).1 (sym ((parts_decide b a).0 f))) ∙ e))
same_by a b false false e f = refl

-- the test of paths is the same both ways
path_turned : (a b : List (List ℕ)) → same_path a b ≡ same_path b a
path_turned a b = same_by a b (same_path a b) (same_path b a) refl refl

-- three tests in another order
or_turned : (a b c : Bool) → ((a || b) || c) ≡ (b || (a || c))
or_turned true true c = refl
or_turned true false c = refl
or_turned false b c = refl

-- a test and none
or_none : (b : Bool) → (b || false) ≡ b
or_none true = refl
or_none false = refl

-- one more line, which joins exactly where its path is there
joined_push : (before : List (List (List ℕ))) (lines : List FileLine) (line : FileLine) → are_joined before lines ≡ true → same_fact line.append (Paths.has_earlier lines line.path || list_any (same_path line.path) before) ≡ true → are_joined before (lines ++ line ∷ []) ≡ true
joined_push before [] line h e = and_from (same_fact line.append (list_any (same_path line.path) before)) true e refl
joined_push before (l ∷ ls) line h e =
    let both = and_parts (same_fact l.append (list_any (same_path l.path) before)) (are_joined (l.path ∷ before) ls) h in
    let old : Bool = list_any (same_path line.path) before in
    let moved : ((same_path l.path line.path || Paths.has_earlier ls line.path) || old) ≡ (Paths.has_earlier ls line.path || (same_path line.path l.path || old)) =
    or_turned (same_path l.path line.path) (Paths.has_earlier ls line.path) old ∙ ap (λ b. Paths.has_earlier ls line.path || (b || old)) (path_turned l.path line.path) in
    and_from (same_fact l.append (list_any (same_path l.path) before)) (are_joined (l.path ∷ before) (ls ++ line ∷ [])) both.0
    (joined_push (l.path ∷ before) ls line both.1 (sym (ap (same_fact line.append) moved) ∙ e))

-- all lines join exactly where their paths were there before
all_joined : (kernels : List KernelLine) (paths : List (List (List ℕ))) (rows : List FileRow) (lines : List FileLine) → Paths.filed kernels paths rows ≡ Ok lines → are_joined [] lines ≡ true
all_joined kernels paths rows lines e =
    reads_keeps (λ (ys : List FileLine). are_joined [] ys ≡ true) (Paths.file_line kernels paths)
    (λ ys row line is h.
    let l = line_is kernels paths ys row line is in
    joined_push [] ys line h (ap (same_fact line.append) (or_none (Paths.has_earlier ys line.path)) ∙ ap (λ b. same_fact b (Paths.has_earlier ys line.path)) l.append ∙ joined_fact kernels paths ys row.append line.path l.free))
    rows lines refl e

-- in version 1 no line joins
none_appended : (lines : List FileLine) → AllByRecursion (λ (l : FileLine). l.append ≡ false) lines → list_any (λ (l : FileLine). l.append) lines ≡ false
none_appended [] h = refl
none_appended (l ∷ ls) h = or_from l.append (list_any (λ (k : FileLine). k.append) ls) h.0 (none_appended ls h.1)

-- in version 1 no row joins another
pub rows_apart : (version : ℕ) (document : Members) (rows : List FileRow) → AllByRecursion (λ (table : Members). truth_at name.Append table ≡ false) (tables_in (elements_at (section_key File) document)) → Rows.rows_of File (Rows.file_row version) document ≡ Ok rows → AllByRecursion (λ (r : FileRow). r.append ≡ false) rows
rows_apart version document rows h e =
    each_row_of File (λ (table : Members). truth_at name.Append table ≡ false) (λ (r : FileRow). r.append ≡ false) (Rows.file_row version)
    (λ earlier table row unset is. (row_is version earlier table row is).append ∙ unset) document rows h e

-- the joins are lawful
pub joins_are : (c : Description) (rows : List FileRow) → (nat_lt 1 c.version ≡ false → AllByRecursion (λ (r : FileRow). r.append ≡ false) rows) → Paths.file_lines c.kernels rows ≡ Ok c.files → has_joins c ≡ true
joins_are c rows h e =
    let paths = Paths.file_paths rows in
    and_from (are_joined [] c.files) (nat_lt 1 c.version || not (list_any (λ (l : FileLine). l.append) c.files))
    (all_joined c.kernels paths rows c.files e)
    (elim (cases_Bool (nat_lt 1 c.version)) [
      | inl new ↦ or_left (nat_lt 1 c.version) (not (list_any (λ (l : FileLine). l.append) c.files)) new
      | inr old ↦
          let none = reads_each (λ (r : FileRow). r.append ≡ false) (λ (l : FileLine). l.append ≡ false) (Paths.file_line c.kernels paths) (λ ys row line unset is. (line_is c.kernels paths ys row line is).append ∙ unset) rows c.files (h old) e in
          or_right (nat_lt 1 c.version) (not (list_any (λ (l : FileLine). l.append) c.files)) (not_from_false (list_any (λ (l : FileLine). l.append) c.files) (none_appended c.files none))
    ])

-- ---- sizes

-- how many bytes a text has so many times
repeated_size : (text : List ℕ) (times : ℕ) → length (Paths.repeated text times) ≡ length text * times
repeated_size text zero = omega arith
repeated_size text (suc times) =
    length-append (Paths.repeated text times) text ∙ ap (λ n. n + length text) (repeated_size text times) ∙ sym (mul-suc (length text) times)

-- two functions that are the same at each item
map_each : {A B : Type 0} (f g : A → B) (xs : List A) → AllByRecursion (λ (x : A). f x ≡ g x) xs → map f xs ≡ map g xs
map_each f g [] h = refl
map_each {A} {B} f g (x ∷ xs) h = ap (λ (y : B). y ∷ map f xs) h.0 ∙ ap (λ ys. g x ∷ ys) (map_each f g xs h.1)

-- the lines have the sizes of the rows
sizes_same : (kernels : List KernelLine) (paths : List (List (List ℕ))) (rows : List FileRow) (lines : List FileLine) → AllByRecursion (λ (r : FileRow). length r.text * r.repeat ≡ r.size) rows → Paths.filed kernels paths rows ≡ Ok lines → map (λ (l : FileLine). length l.bytes) lines ≡ map (λ (r : FileRow). r.size) rows
sizes_same kernels paths rows lines h e =
    reads_same (λ (l : FileLine). length l.bytes) (λ (r : FileRow). length r.text * r.repeat) (Paths.file_line kernels paths)
    (λ ys row line is. ap length (line_is kernels paths ys row line is).bytes ∙ repeated_size row.text row.repeat) rows lines e
    ∙ map_each (λ (r : FileRow). length r.text * r.repeat) (λ (r : FileRow). r.size) rows h

-- the sum of the sizes, from a number on
sum_from : (n : ℕ) (rows : List FileRow) → fold (λ (x y : ℕ). x + y) n (map (λ (r : FileRow). r.size) rows) ≡ n + Rows.bytes_of rows
sum_from n [] = omega arith
sum_from n (row ∷ rows) = let rest = sum_from (n + row.size) rows in omega (arith, rest)

-- the sum of the sizes
sum_same : (rows : List FileRow) → sum (map (λ (r : FileRow). r.size) rows) ≡ Rows.bytes_of rows
sum_same rows = let all = sum_from 0 rows in omega (arith, all)

-- the texts of the lines' paths are the rows'
texts_same : (kernels : List KernelLine) (paths : List (List (List ℕ))) (rows : List FileRow) (lines : List FileLine) → Paths.filed kernels paths rows ≡ Ok lines → map (λ (l : FileLine). text_of l.path) lines ≡ map (λ (r : FileRow). r.path) rows
texts_same kernels paths rows lines e =
    reads_same (λ (l : FileLine). text_of l.path) (λ (r : FileRow). r.path) (Paths.file_line kernels paths) (λ ys row line is. (line_is kernels paths ys row line is).path.text_is) rows lines e

-- one more line, which has the path at most where its row has the text
piece_most : (b t : Bool) (bytes rest : List ℕ) (size n : ℕ) → (b ≡ true → t ≡ true) → length bytes ≡ size → length rest ≤ n → length (cond b bytes [] ++ rest) ≤ cond t (size + n) n
piece_most true true bytes rest size n h e k = rw (length-append) (omega (arith, e, k))
piece_most true false bytes rest size n h e k = absurd (true≢false (sym (h refl)))
piece_most false true bytes rest size n h e k = omega (arith, k)
piece_most false false bytes rest size n h e k = k

-- the bytes at a path are no more than the rows' at its text
at_most : (lines : List FileLine) (rows : List FileRow) (path : List (List ℕ)) → map (λ (l : FileLine). text_of l.path) lines ≡ map (λ (r : FileRow). r.path) rows → map (λ (l : FileLine). length l.bytes) lines ≡ map (λ (r : FileRow). r.size) rows → length (bytes_at lines path) ≤ Rows.bytes_at (text_of path) rows
at_most [] rows path e f = omega arith
at_most (l ∷ ls) [] path e f = absurd (cc)
at_most (l ∷ ls) (r ∷ rs) path e f =
    let text_is : text_of l.path ≡ r.path = cc in
    let texts : map (λ (k : FileLine). text_of k.path) ls ≡ map (λ (k : FileRow). k.path) rs = cc in
    let size_is : length l.bytes ≡ r.size = cc in
    let sizes : map (λ (k : FileLine). length k.bytes) ls ≡ map (λ (k : FileRow). k.size) rs = cc in
    piece_most (same_path l.path path) (same_text r.path (text_of path)) l.bytes (bytes_at ls path) r.size (Rows.bytes_at (text_of path) rs)
    (λ is. (bytes_decides r.path (text_of path)).1 (sym text_is ∙ ap text_of ((parts_decide l.path path).0 is))) size_is (at_most ls rs path texts sizes)

-- in version 1 each path has one line
at_end : (lines : List FileLine) (line : FileLine) (path : List (List ℕ)) → bytes_at (lines ++ line ∷ []) path ≡ bytes_at lines path ++ cond (same_path line.path path) line.bytes []
at_end [] line path = append-nil (cond (same_path line.path path) line.bytes [])
at_end (l ∷ ls) line path =
    let here : List ℕ = cond (same_path l.path path) l.bytes [] in
    ap (λ rest. here ++ rest) (at_end ls line path) ∙ sym (append_assoc here (bytes_at ls path) (cond (same_path line.path path) line.bytes []))

-- a path that no line has has no bytes
none_at : (lines : List FileLine) (path : List (List ℕ)) → Paths.has_earlier lines path ≡ false → bytes_at lines path ≡ []
none_at [] path e = refl
none_at (l ∷ ls) path e =
    let both = or_parts (same_path l.path path) (Paths.has_earlier ls path) e in
    ap (λ b. cond b l.bytes [] ++ bytes_at ls path) both.0 ∙ none_at ls path both.1

-- a line whose path is new keeps each path short
one_at : (most : ℕ) (lines : List FileLine) (line : FileLine) (path : List (List ℕ)) (b : Bool) → same_path line.path path ≡ b → Paths.has_earlier lines line.path ≡ false → length line.bytes ≤ most → length (bytes_at lines path) ≤ most → length (bytes_at lines path ++ cond b line.bytes []) ≤ most
one_at most lines line path true is none few h =
    let here : bytes_at lines path ≡ [] = none_at lines path (subst (λ p. Paths.has_earlier lines p ≡ false) ((parts_decide line.path path).0 is) none) in
    subst (λ bytes. length (bytes ++ line.bytes) ≤ most) (sym here) few
one_at most lines line path false is none few h = subst (λ bytes. length bytes ≤ most) (sym (append-nil (bytes_at lines path))) h

-- a row that joins no other and is small
abbrev IsAlone : ℕ → FileRow → Type 0
IsAlone most row = (row.append ≡ false) × (length row.text * row.repeat ≤ most)

-- the bytes at each path are few
each_short : (most : ℕ) (kernels : List KernelLine) (paths : List (List (List ℕ))) (rows : List FileRow) (lines : List FileLine) → AllByRecursion (IsAlone most) rows → Paths.filed kernels paths rows ≡ Ok lines → (path : List (List ℕ)) → length (bytes_at lines path) ≤ most
each_short most kernels paths rows lines h e =
    (read_leads (λ (left : List FileRow) (ys : List FileLine). AllByRecursion (IsAlone most) left × ((path : List (List ℕ)) → length (bytes_at ys path) ≤ most)) (Paths.file_line kernels paths)
    (λ row rest ys line is k.
    let l = line_is kernels paths ys row line is in
    let none : Paths.has_earlier ys line.path ≡ false = not-true (Paths.has_earlier ys line.path) (sym (ap (λ b. same_fact b (Paths.has_earlier ys line.path)) k.0.0.0) ∙ joined_fact kernels paths ys row.append line.path l.free) in
    let few : length line.bytes ≤ most = subst (λ n. n ≤ most) (sym (ap length l.bytes ∙ repeated_size row.text row.repeat)) k.0.0.1 in
    (k.0.1, λ path. subst (λ bytes. length bytes ≤ most) (sym (at_end ys line path)) (one_at most ys line path (same_path line.path path) refl none few (k.1 path))))
    rows [] lines (h, λ path. omega arith) e).1

-- the limit of version 1
old_limit : (version : ℕ) → nat_lt 1 version ≡ false → limit_of version ≡ 262144
old_limit version old = ap (λ b. cond b 4194304 262144) old

-- rows that join no other and are small
all_alone : (most : ℕ) (rows : List FileRow) → AllByRecursion (λ (r : FileRow). r.append ≡ false) rows → AllByRecursion (λ (r : FileRow). length r.text * r.repeat ≡ r.size) rows → AllByRecursion (λ (r : FileRow). r.size ≤ most) rows → AllByRecursion (IsAlone most) rows
all_alone most [] h k l = tt
all_alone most (row ∷ rows) h k l = ((h.0, subst (λ n. n ≤ most) (sym k.0) l.0), all_alone most rows h.1 k.1 l.1)

-- a fact of all is one of each
each_holds : {A : Type 0} (P : A → Type 0) (xs : List A) → ((x : A) → P x) → AllByRecursion P xs
each_holds P [] h = tt
each_holds P (x ∷ xs) h = (h x, each_holds P xs h)

-- one bound behind another
less_or_more : (a b c : ℕ) → a ≤ b → b ≤ c → a ≤ c
less_or_more a b c h k = omega (arith, h, k)

-- each path's bytes and all bytes
abbrev AreSized : Description → List FileRow → Type 0
AreSized c rows = ((path : List (List ℕ)) → length (bytes_at c.files path) ≤ limit_of c.version) × (Rows.bytes_of rows ≤ 67108864)

-- so it is in version 2
new_sized : (c : Description) (document : Members) (rows : List FileRow) → nat_lt 1 c.version ≡ true → Rows.rows_of File (Rows.file_row c.version) document ≡ Ok rows → map (λ (l : FileLine). length l.bytes) c.files ≡ map (λ (r : FileRow). r.size) rows → Paths.file_lines c.kernels rows ≡ Ok c.files → AreSized c rows
new_sized c document rows new e sizes f =
    let two = ltb-true 1 c.version new in
    let room = rows_room c.version document rows (le-ltb c.version 2 (omega (arith, two))) e in
    let texts = texts_same c.kernels (Paths.file_paths rows) rows c.files f in
    (λ path. less_or_more (length (bytes_at c.files path)) (Rows.bytes_at (text_of path) rows) (limit_of c.version) (at_most c.files rows path texts sizes) (room.1 (text_of path)), room.0)

-- and in version 1
old_sized : (c : Description) (document : Members) (rows : List FileRow) → nat_lt 1 c.version ≡ false → length rows ≤ 200 → AllByRecursion (λ (r : FileRow). r.append ≡ false) rows → AllByRecursion (λ (r : FileRow). length r.text * r.repeat ≡ r.size) rows → Rows.rows_of File (Rows.file_row c.version) document ≡ Ok rows → Paths.file_lines c.kernels rows ≡ Ok c.files → AreSized c rows
old_sized c document rows old few none exact e f =
    let small = rows_small c.version document rows e in
    let total = small_sum 262144 rows (subst (λ most. AllByRecursion (λ (r : FileRow). r.size ≤ most) rows) (old_limit c.version old) small) in
    (each_short (limit_of c.version) c.kernels (Paths.file_paths rows) rows c.files (all_alone (limit_of c.version) rows none exact small) f, omega (arith, total, few))

-- the sizes are lawful
pub sizes_are : (c : Description) (document : Members) (rows : List FileRow) → length rows ≤ 200 → (nat_lt 1 c.version ≡ false → AllByRecursion (λ (r : FileRow). r.append ≡ false) rows) → Rows.rows_of File (Rows.file_row c.version) document ≡ Ok rows → Paths.file_lines c.kernels rows ≡ Ok c.files → has_sizes c ≡ true
sizes_are c document rows few none e f =
    let exact = each_row File (λ (r : FileRow). length r.text * r.repeat ≡ r.size) (Rows.file_row c.version) (λ earlier table row is. (row_is c.version earlier table row is).size) document rows e in
    let sizes = sizes_same c.kernels (Paths.file_paths rows) rows c.files exact f in
    let sized : AreSized c rows = elim (cases_Bool (nat_lt 1 c.version)) [
      | inl new ↦ new_sized c document rows new e sizes f
      | inr old ↦ old_sized c document rows old few (none old) exact e f
    ] in
    let total : size_of c.files ≡ Rows.bytes_of rows = ap sum sizes ∙ sum_same rows in
    and_from (list_all (λ (line : FileLine). nat_le (length (bytes_at c.files line.path)) (limit_of c.version)) c.files) (nat_le (size_of c.files) 67108864)
    (all_passed (λ (line : FileLine). nat_le (length (bytes_at c.files line.path)) (limit_of c.version)) c.files
    (each_holds _ c.files (λ (line : FileLine). le-leb (length (bytes_at c.files line.path)) (limit_of c.version) (sized.0 line.path))))
    (le-leb (size_of c.files) 67108864 (subst (λ n. n ≤ 67108864) (sym total) sized.1))
