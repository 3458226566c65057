-- Kernels and programs of a description, as their rows write them.
use Rattle.std.proofs.Common.{◌≡◌, ◌≤◌, ℕ, suc, ◌+◌, ◌==◌, List, [], ◌∷◌, ◌++◌, length, map, codes, Bool, true, false, cond, ◌&&◌, Option, Some, None, Result, Ok, Err, inl, inr, refl, sym, ap, subst, ◌∙◌, arith, append_assoc, length-append}
use Rattle.std.specs.List.{AllByRecursion, list_all, flat_map}
use Rattle.std.specs.Option.{option_map}
use Rattle.std.specs.Cmp.Lexicographic.{bytes_decides}
use Rattle.std.proofs.lemmas.Bool.{true≢false, and_from, or_cases, or_left, or_right, eq-eqb}
use Rattle.std.proofs.lemmas.List.{length-map, append-nil, map-append}
use Rattle.std.proofs.lemmas.List.Folds.{list_all-map, flat_map-map}
use Rattle.sprite_ids.proofs.ListLaws.{each_push, each_append}
use Rattle.sprite_paths.specs.Path.{clean_path, text_of}
use Rattle.sprite_paths.proofs.PathLaws.{parts_decide}
use Rattle.process_machine.specs.declared.program.Program.{Program}
use Rattle.program_text.specs.Programs.{program_of}
use Rattle.unix_calls.specs.declared.description.KernelLine.{KernelLine}
use Rattle.unix_calls.specs.declared.description.ProgramLine.{ProgramLine}
use Rattle.unix_calls.specs.Domains.{roots_of, begins_domain}
use Rattle.unix_calls.specs.Lawful.{is_name, each_once, is_cleaned, is_clean, is_program, are_programs}
use Rattle.unix_calls.specs.Same.{same_text}
use Rattle.unix_calls.specs.Tree.{same_path}
use Rattle.cluster_file.specs.declared.refusal.Refusal.{Refusal}
use Rattle.cluster_file.specs.declared.rows.KernelRow.{KernelRow}
use Rattle.cluster_file.specs.declared.rows.ProgramRow.{ProgramRow}
use Rattle.cluster_file.specs.Clusters
use Rattle.cluster_file.specs.Names
use Rattle.cluster_file.specs.Paths
use Rattle.cluster_file.specs.Rows
use Rattle.cluster_file.proofs.HostLaws.{row_size, line_size}
use Rattle.cluster_file.proofs.OnceLaws.{served, any_flat, once_named}
use Rattle.cluster_file.proofs.ProgramLaws.{program_is}
use Rattle.cluster_file.proofs.RowLaws.{AreNumbered}
use Rattle.cluster_file.proofs.StageLaws.{reads_all, reads_same, reads_count, all_passed}

-- ---- paths

-- the path is the one that the text is
pub record IsPathOf (text : List ℕ) (path : List (List ℕ)) : Type 0 where
  pub text_is : text_of path ≡ text
  pub clean : is_clean path ≡ true

-- a path that its text is cleaned into is clean
clean_as : (text : List ℕ) (path : List (List ℕ)) → clean_path [] text ≡ Some path → text_of path ≡ text → is_clean path ≡ true
clean_as text path e f =
    ap (λ t. is_cleaned (clean_path [] t) path) f ∙ ap (λ o. is_cleaned o path) e ∙ (parts_decide path path).1 refl

-- a path that is kept where its text is this one
kept_if : (text : List ℕ) (p path : List (List ℕ)) (b : Bool) → clean_path [] text ≡ Some p → same_text (text_of p) text ≡ b → cond b (Some p) None ≡ Some path → IsPathOf text path
kept_if text p path true is same e =
    let one : p ≡ path = cc in
    let text_same : text_of p ≡ text = (bytes_decides (text_of p) text).0 same in
    subst (IsPathOf text) one (record { text_is = text_same; clean = clean_as text p is text_same })
kept_if text p path false is same e = absurd (cc)

-- the same where there is one or none
kept_at : (text : List ℕ) (o : Option (List (List ℕ))) (path : List (List ℕ)) → clean_path [] text ≡ o → Paths.kept_by text o ≡ Some path → IsPathOf text path
kept_at text None path is e = absurd (cc)
kept_at text (Some p) path is e = kept_if text p path (same_text (text_of p) text) is refl e

-- the path of a text
pub path_is : (text : List ℕ) (path : List (List ℕ)) → Paths.path_of text ≡ Some path → IsPathOf text path
path_is text path e = kept_at text (clean_path [] text) path refl e

-- the paths of some texts
abbrev pub AreClean : List (List (List ℕ)) → Type 0
AreClean paths = AllByRecursion (λ (path : List (List ℕ)). is_clean path ≡ true) paths

-- the paths have these texts, and are clean
pub record ArePaths (texts : List (List ℕ)) (paths : List (List (List ℕ))) : Type 0 where
  pub texts_are : map text_of paths ≡ texts
  pub clean : AreClean paths

-- one more text, which is a path or none
paths_by : (text : List ℕ) (texts done : List (List ℕ)) (ps qs : List (List (List ℕ))) (o : Option (List (List ℕ))) → Paths.path_of text ≡ o → ((p : List (List ℕ)) → IsPathOf text p → Paths.paths_on (Some (ps ++ p ∷ [])) texts ≡ Some qs → ArePaths (done ++ text ∷ texts) qs) → Paths.paths_on (option_map (λ path. ps ++ path ∷ []) o) texts ≡ Some qs → ArePaths (done ++ text ∷ texts) qs
paths_by text texts done ps qs None is go e = absurd (cc)
paths_by text texts done ps qs (Some p) is go e = go p (path_is text p is) e

-- all texts, one after another
paths_read : (texts done : List (List ℕ)) (ps qs : List (List (List ℕ))) → ArePaths done ps → Paths.paths_on (Some ps) texts ≡ Some qs → ArePaths (done ++ texts) qs
paths_read [] done ps qs h e =
    let same : ps ≡ qs = cc in
    subst (λ ts. ArePaths ts qs) (sym (append-nil done)) (subst (ArePaths done) same h)
paths_read (text ∷ texts) done ps qs h e =
    paths_by text texts done ps qs (Paths.path_of text) refl
    (λ (p : List (List ℕ)) (is : IsPathOf text p) f.
    subst (λ ts. ArePaths ts qs) (append_assoc done (text ∷ []) texts)
    (paths_read texts (done ++ text ∷ []) (ps ++ p ∷ []) qs
    (record { texts_are = map-append text_of ps (p ∷ []) ∙ ap (λ ts. ts ++ text_of p ∷ []) h.texts_are ∙ ap (λ t. done ++ t ∷ []) is.text_is; clean = each_push _ ps p h.clean is.clean }) f))
    e

-- the paths of some texts are theirs
pub paths_are : (texts : List (List ℕ)) (paths : List (List (List ℕ))) → Paths.paths_of texts ≡ Some paths → ArePaths texts paths
paths_are texts paths e = paths_read texts [] [] paths (record { texts_are = refl; clean = tt }) e

-- ---- kernels

-- what a kernel of the description keeps of its row
record IsKernelLine (row : KernelRow) (line : KernelLine) : Type 0 where
  named : line.name ≡ row.name
  paths : ArePaths row.serves line.serves

-- a kernel whose paths are known or not
serving_is : (earlier : List KernelLine) (row : KernelRow) (line : KernelLine) (o : Option (List (List (List ℕ)))) → Paths.paths_of row.serves ≡ o → Paths.serving earlier row o ≡ Ok line → IsKernelLine row line
serving_is earlier row line None is e = absurd (cc)
serving_is earlier row line (Some paths) is e =
    let same : record { name = row.name; serves = paths } ≡ line = cc in
    subst (IsKernelLine row) same (record { named = refl; paths = paths_are row.serves paths is })

-- so each kernel keeps it
line_is : (earlier : List KernelLine) (row : KernelRow) (line : KernelLine) → Paths.kernel_line earlier row ≡ Ok line → IsKernelLine row line
line_is earlier row line e = serving_is earlier row line (Paths.paths_of row.serves) refl e

-- a function over a flattened list
map_flat : {A B C : Type 0} (f : B → C) (g : A → List B) (xs : List A) → map f (flat_map g xs) ≡ flat_map (λ (x : A). map f (g x)) xs
map_flat f g [] = refl
map_flat {A} {B} {C} f g (x ∷ xs) = map-append f (g x) (flat_map g xs) ∙ ap (λ ys. map f (g x) ++ ys) (map_flat f g xs)

-- a fact of each item of a flattened list
each_flat : {A B : Type 0} (P : B → Type 0) (g : A → List B) (xs : List A) → AllByRecursion (λ (x : A). AllByRecursion P (g x)) xs → AllByRecursion P (flat_map g xs)
each_flat P g [] h = tt
each_flat P g (x ∷ xs) h = each_append P (g x) (flat_map g xs) h.0 (each_flat P g xs h.1)

-- what all kernels of the description keep of their rows
pub record AreKernels (rows : List KernelRow) (lines : List KernelLine) : Type 0 where
  pub count : length lines ≡ length rows
  pub names : map (λ (l : KernelLine). l.name) lines ≡ map (λ (r : KernelRow). r.name) rows
  pub sizes : map line_size lines ≡ map row_size rows
  pub texts : map text_of (roots_of lines) ≡ served rows
  pub clean : AreClean (roots_of lines)

-- so all kernels do
pub kernels_are : (rows : List KernelRow) (lines : List KernelLine) → Paths.kernel_lines rows ≡ Ok lines → AreKernels rows lines
kernels_are rows lines e =
    let texts_in : KernelLine → List (List ℕ) = λ (l : KernelLine). map text_of l.serves in
    let serves_in : KernelRow → List (List ℕ) = λ (r : KernelRow). r.serves in
    let each : map texts_in lines ≡ map serves_in rows = reads_same texts_in serves_in Paths.kernel_line (λ earlier row line is. (line_is earlier row line is).paths.texts_are) rows lines e in
    record {
      count = reads_count Paths.kernel_line rows lines e;
      names = reads_same (λ (l : KernelLine). l.name) (λ (r : KernelRow). r.name) Paths.kernel_line (λ earlier row line is. (line_is earlier row line is).named) rows lines e;
      sizes = reads_same line_size row_size Paths.kernel_line (λ earlier row line is. sym (length-map line.serves text_of) ∙ ap length (line_is earlier row line is).paths.texts_are) rows lines e;
      texts =
          map_flat text_of (λ (l : KernelLine). l.serves) lines
          ∙ sym (flat_map-map (λ (ts : List (List ℕ)). ts) texts_in lines)
          ∙ ap (flat_map (λ (ts : List (List ℕ)). ts)) each
          ∙ flat_map-map (λ (ts : List (List ℕ)). ts) serves_in rows;
      clean = each_flat _ (λ (l : KernelLine). l.serves) lines (reads_all (λ (l : KernelLine). AreClean l.serves) Paths.kernel_line (λ earlier row line is. (line_is earlier row line is).paths.clean) rows lines e);
    }

-- two paths with one text
path_text : (a b : List (List ℕ)) → same_path a b ≡ true → same_text (text_of a) (text_of b) ≡ true
path_text a b e = (bytes_decides (text_of a) (text_of b)).1 (ap text_of ((parts_decide a b).0 e))

-- no two domains have one path where no two have one text
pub domains_once : (rows : List KernelRow) (lines : List KernelLine) → AreKernels rows lines → each_once same_text (served rows) ≡ true → each_once same_path (roots_of lines) ≡ true
domains_once rows lines h e =
    once_named same_text same_path text_of (roots_of lines) path_text (ap (each_once same_text) h.texts ∙ e)

-- `/` is a domain where its text is one
root_here : (root : List (List ℕ)) → is_clean root ≡ true → same_text (text_of root) (codes "/") ≡ true → same_path [] root ≡ true
root_here root clean e =
    let text_is : text_of root ≡ codes "/" = (bytes_decides (text_of root) (codes "/")).0 e in
    sym (ap (λ t. is_cleaned (clean_path [] t) root) text_is) ∙ clean

-- one of the domains is `/`
root_there : (roots : List (List (List ℕ))) → AreClean roots → Names.is_one_of (codes "/") (map text_of roots) ≡ true → begins_domain roots [] ≡ true
root_there [] clean e = e
root_there (root ∷ roots) clean e =
    elim (or_cases (same_text (text_of root) (codes "/")) (Names.is_one_of (codes "/") (map text_of roots)) e) [
      | inl here ↦ or_left (same_path [] root) (begins_domain roots []) (root_here root clean.0 here)
      | inr later ↦ or_right (same_path [] root) (begins_domain roots []) (root_there roots clean.1 later)
    ]

-- so `/` is a domain where a kernel serves it
pub root_served : (rows : List KernelRow) (lines : List KernelLine) → AreKernels rows lines → Names.is_served (codes "/") rows ≡ true → begins_domain (roots_of lines) [] ≡ true
root_served rows lines h e =
    root_there (roots_of lines) h.clean
    (ap (Names.is_one_of (codes "/")) h.texts ∙ any_flat (λ other. same_text other (codes "/")) (λ (row : KernelRow). row.serves) rows ∙ e)

-- how many domains there are
served_count : (rows : List KernelRow) → length (served rows) ≡ Rows.served_by rows
served_count [] = refl
served_count (row ∷ rows) = length-append row.serves (served rows) ∙ ap (λ n. length row.serves + n) (served_count rows)

-- the domains of the description are as many
pub roots_count : (rows : List KernelRow) (lines : List KernelLine) → AreKernels rows lines → length (roots_of lines) ≡ Rows.served_by rows
roots_count rows lines h = sym (length-map (roots_of lines) text_of) ∙ ap length h.texts ∙ served_count rows

-- where `/` is served there is a kernel
pub some_kernel : (rows : List KernelRow) → Names.is_served (codes "/") rows ≡ true → 1 ≤ length rows
some_kernel [] e = absurd (true≢false (sym e))
some_kernel (row ∷ rows) e = omega arith

-- ---- programs

-- what a program of the description keeps of its row
record IsProgramLine (version : ℕ) (row : ProgramRow) (line : ProgramLine) : Type 0 where
  named : line.name ≡ row.name
  number : line.program.number ≡ row.number
  lawful : is_program version line.program ≡ true

-- a program that is assembled or not
assembled_is : (version : ℕ) (row : ProgramRow) (line : ProgramLine) (answer : Result Program ℕ) → program_of version row.text ≡ answer → Clusters.assembled row answer ≡ Ok line → IsProgramLine version row line
assembled_is version row line (Err n) is e = absurd (cc)
assembled_is version row line (Ok program) is e =
    let same : record { name = row.name; program = record program { number = row.number } } ≡ line = cc in
    subst (IsProgramLine version row) same (record { named = refl; number = refl; lawful = program_is version row.text program is })

-- so each program keeps it
program_line_is : (version : ℕ) (earlier : List ProgramLine) (row : ProgramRow) (line : ProgramLine) → Clusters.program_line version earlier row ≡ Ok line → IsProgramLine version row line
program_line_is version earlier row line e = assembled_is version row line (program_of version row.text) refl e

-- numbers that are the same are places
numbered_same : {A B : Type 0} (f : A → ℕ) (g : B → ℕ) (first : ℕ) (xs : List A) (ys : List B) → map g ys ≡ map f xs → AreNumbered f first xs → AreNumbered g first ys
numbered_same f g first xs [] e h = tt
numbered_same f g first [] (y ∷ ys) e h = absurd (cc)
numbered_same f g first (x ∷ xs) (y ∷ ys) e h =
    let head : g y ≡ f x = cc in
    let rest : map g ys ≡ map f xs = cc in
    (head ∙ h.0, numbered_same f g (suc first) xs ys rest h.1)

-- programs that are lawful and numbered by their places
all_programs : (version place : ℕ) (lines : List ProgramLine) → AreNumbered (λ (l : ProgramLine). l.program.number) place lines → AllByRecursion (λ (l : ProgramLine). is_program version l.program ≡ true) lines → are_programs version place lines ≡ true
all_programs version place [] h k = refl
all_programs version place (line ∷ lines) h k =
    and_from (line.program.number == place && is_program version line.program) (are_programs version (place + 1) lines)
    (and_from (line.program.number == place) (is_program version line.program) (eq-eqb line.program.number place h.0) k.0)
    (subst (λ n. are_programs version n lines ≡ true) (omega arith) (all_programs version (suc place) lines h.1 k.1))

-- what all programs of the description keep of their rows
pub record ArePrograms (version : ℕ) (rows : List ProgramRow) (lines : List ProgramLine) : Type 0 where
  pub count : length lines ≡ length rows
  pub names : map (λ (l : ProgramLine). l.name) lines ≡ map (λ (r : ProgramRow). r.name) rows
  pub lawful : are_programs version 1 lines ≡ true

-- so all programs do
pub programs_are : (version : ℕ) (rows : List ProgramRow) (lines : List ProgramLine) → AreNumbered (λ (r : ProgramRow). r.number) 1 rows → Clusters.program_lines version rows ≡ Ok lines → ArePrograms version rows lines
programs_are version rows lines h e =
    let read : List ProgramLine → ProgramRow → Result ProgramLine Refusal = Clusters.program_line version in
    let number : ProgramLine → ℕ = λ (l : ProgramLine). l.program.number in
    record {
      count = reads_count read rows lines e;
      names = reads_same (λ (l : ProgramLine). l.name) (λ (r : ProgramRow). r.name) read (λ earlier row line is. (program_line_is version earlier row line is).named) rows lines e;
      lawful =
          all_programs version 1 lines
          (numbered_same (λ (r : ProgramRow). r.number) number 1 rows lines (reads_same number (λ (r : ProgramRow). r.number) read (λ earlier row line is. (program_line_is version earlier row line is).number) rows lines e) h)
          (reads_all (λ (l : ProgramLine). is_program version l.program ≡ true) read (λ earlier row line is. (program_line_is version earlier row line is).lawful) rows lines e);
    }

-- ---- names

-- names that are names, each once, are so of what has them
pub all_named : {A B : Type 0} (f : A → List ℕ) (g : B → List ℕ) (xs : List A) (ys : List B) → map g ys ≡ map f xs → AllByRecursion (λ (x : A). is_name (f x) ≡ true) xs → each_once same_text (map f xs) ≡ true → (list_all (λ (y : B). is_name (g y)) ys && each_once (λ (a b : B). same_text (g a) (g b)) ys) ≡ true
all_named {A} {B} f g xs ys same named once =
    and_from (list_all (λ (y : B). is_name (g y)) ys) (each_once (λ (a b : B). same_text (g a) (g b)) ys)
    (sym (list_all-map is_name g ys) ∙ ap (list_all is_name) same ∙ list_all-map is_name f xs ∙ all_passed (λ (x : A). is_name (f x)) xs named)
    (once_named same_text (λ (a b : B). same_text (g a) (g b)) g ys (λ (a b : B) e. e) (ap (each_once same_text) same ∙ once))
