-- How a path and its text belong together, for all paths.
use Rattle.std.specs.Prelude.{◌≡◌, ◌≢◌, ◌↔◌, ◌⊎◌, ℕ, List, [], ◌∷◌, ◌++◌, Some}
use Rattle.sprite_paths.specs.Path.{text_of, clean_path, joined_path, behind, IsPrefix, IsPath}

-- what a text is cleaned into from a path is a path
abbrev pub CleanedIsPath : Type 0
CleanedIsPath = (cwd : List (List ℕ)) (text : List ℕ) (path : List (List ℕ)) → IsPath cwd → clean_path cwd text ≡ Some path → IsPath path

-- the text of a path is cleaned into that path, whatever the cwd
abbrev pub TextCleansBack : Type 0
TextCleansBack = (cwd path : List (List ℕ)) → IsPath path → clean_path cwd (text_of path) ≡ Some path

-- two paths with one text are one path
abbrev pub TextTellsPath : Type 0
TextTellsPath = (path other : List (List ℕ)) → IsPath path → IsPath other → text_of path ≡ text_of other → path ≡ other

-- the text is the front alone, or the front with `/` and any more behind it
abbrev pub GoesOnFrom : List ℕ → List ℕ → Type 0
GoesOnFrom front text = (text ≡ front) ⊎ ((more : List ℕ) × (text ≡ front ++ 47 ∷ more))

-- a prefix is one by parts: a path has another one, which isn't the root, as its prefix exactly where its text is the
-- other's alone or with `/` and more behind it
abbrev pub PrefixIsByParts : Type 0
PrefixIsByParts = (prefix path : List (List ℕ)) → IsPath prefix → IsPath path → prefix ≢ [] → IsPrefix prefix path ↔ GoesOnFrom (text_of prefix) (text_of path)

-- behind a prefix that was joined with a rest stands that rest
abbrev pub BehindUndoesJoin : Type 0
BehindUndoesJoin = (prefix rest path : List (List ℕ)) → joined_path prefix rest ≡ Some path → behind prefix path ≡ Some rest

-- a prefix joined with what a path has behind it is that path: it is never past the limits
abbrev pub JoinUndoesBehind : Type 0
JoinUndoesBehind = (prefix rest path : List (List ℕ)) → IsPath path → behind prefix path ≡ Some rest → joined_path prefix rest ≡ Some path
