-- A path is read as its text says.
use Rattle.std.proofs.Common.{◌≡◌, ℕ, nat_eq, List, [], Option, Some, None, refl, sym, ap, ◌∙◌, arith}
use Rattle.std.specs.Cmp.Lexicographic.{pointwise, bytes_decides, same_text}
use Rattle.std.proofs.lemmas.Bool.{cond-true}
use Rattle.sprite_paths.specs.Path.{text_of, clean_path, IsPath}
use Rattle.sprite_paths.proofs.PathLaws.{clean_again, cleaned_path}
use Rattle.field_reader.specs.ReadLaws.{passed_is}
use Rattle.field_reader.specs.Paths.{as_cleaned, path_of}

root_is : IsPath []
root_is = record { names = tt; short_parts = tt; few_parts = omega arith; short_text = omega arith }

cleaned_forth : (bytes : List ℕ) (o : Option (List (List ℕ))) (path : List (List ℕ)) → as_cleaned bytes o ≡ Some path → (o ≡ Some path) × (bytes ≡ text_of path)
cleaned_forth bytes None path e = absurd cc
cleaned_forth bytes (Some parts) path e =
    let is = passed_is (pointwise nat_eq (text_of parts) bytes) parts path e in
    (ap Some is.1, sym (same_text (text_of parts) bytes (sym is.0)) ∙ ap text_of is.1)

pub path_back : (path : List (List ℕ)) → IsPath path → path_of (text_of path) ≡ Some path
path_back path is =
    ap (as_cleaned (text_of path)) (clean_again [] path is)
    ∙ cond-true (pointwise nat_eq (text_of path) (text_of path)) (Some path) None ((bytes_decides (text_of path) (text_of path)).1 refl)

pub path_forth : (bytes : List ℕ) (path : List (List ℕ)) → path_of bytes ≡ Some path → (bytes ≡ text_of path) × IsPath path
path_forth bytes path e =
    let is = cleaned_forth bytes (clean_path [] bytes) path e in
    (is.1, cleaned_path [] bytes path root_is is.0)
