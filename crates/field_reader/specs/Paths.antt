-- A path, as its cleaned text.
use Rattle.std.specs.Prelude.{ℕ, if◌then◌else◌, List, [], Option, Some, None, nat_eq}
use Rattle.std.specs.Cmp.Lexicographic.{pointwise}
use Rattle.sprite_paths.specs.Path.{text_of, clean_path}

-- the path, where the bytes are its cleaned text
abbrev pub as_cleaned : List ℕ → Option (List (List ℕ)) → Option (List (List ℕ))
as_cleaned bytes None = None
as_cleaned bytes (Some parts) = if pointwise nat_eq (text_of parts) bytes then Some parts else None

-- the path of which these are the cleaned text
abbrev pub path_of : List ℕ → Option (List (List ℕ))
path_of bytes = as_cleaned bytes (clean_path [] bytes)
