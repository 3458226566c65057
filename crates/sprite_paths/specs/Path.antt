-- Paths as lists of parts, and the path that a text leads to.
use Rattle.std.specs.Prelude.{◌≡◌, ◌≢◌, ℕ, ◌-◌, ◌≤◌, ◌<◌, ◌==◌, nat_le, nat_eq, Bool, ◌&&◌, ◌||◌, if◌then◌else◌, List, [], ◌∷◌, ◌++◌, length, take, drop, fold, codes, Option, Some, None}
use Rattle.std.specs.List.{AllByRecursion, flat_map, list_all, slice_split, starts_with}
use Rattle.std.specs.Cmp.Lexicographic.{pointwise}

-- `/`
abbrev pub is_slash : ℕ → Bool
is_slash byte = byte == 47

-- a byte of a path text: 33 to 126
abbrev pub is_printed : ℕ → Bool
is_printed byte = nat_le 33 byte && nat_le byte 126

-- a path text has 1 to 255 bytes, each of 33 to 126
abbrev pub is_path_text : List ℕ → Bool
is_path_text text = nat_le 1 (length text) && nat_le (length text) 255 && list_all is_printed text

-- a part that leads nowhere: an empty one, or `.`
abbrev pub stays : List ℕ → Bool
stays part = (length part == 0) || pointwise nat_eq part (codes ".")

-- `..`
abbrev pub goes_up : List ℕ → Bool
goes_up part = pointwise nat_eq part (codes "..")

-- where one more part of a text leads: an empty part and `.` nowhere, `..` to the parts before the last one, which at
-- the root is nowhere, and any other part one further
abbrev pub step_into : List (List ℕ) → List ℕ → List (List ℕ)
step_into parts part = if stays part then parts else if goes_up part then take (length parts - 1) parts else parts ++ part ∷ []

-- where a text begins: at the root where its first byte is `/`, else at the cwd
abbrev pub start_of : List (List ℕ) → List ℕ → List (List ℕ)
start_of cwd [] = cwd
start_of cwd (byte ∷ rest) = if is_slash byte then [] else cwd

-- where a text leads: it is split at `/`, and goes on from its start part by part
abbrev pub walked : List (List ℕ) → List ℕ → List (List ℕ)
walked parts text = fold step_into parts (slice_split is_slash text)

-- `/` before each part
abbrev pub joined : List (List ℕ) → List ℕ
joined parts = flat_map (λ part. 47 ∷ part) parts

-- the cleaned text: `/`, or `/` before each part
abbrev pub text_of : List (List ℕ) → List ℕ
text_of [] = codes "/"
text_of (part ∷ parts) = joined (part ∷ parts)

-- a part of at most 32 bytes
abbrev pub is_short : List ℕ → Bool
is_short part = nat_le (length part) 32

-- the limits of a path: at most 16 parts, of at most 32 bytes each, and a cleaned text of at most 255
abbrev pub is_within_limits : List (List ℕ) → Bool
is_within_limits parts = nat_le (length parts) 16 && list_all is_short parts && nat_le (length (text_of parts)) 255

-- the path within the limits
abbrev pub limited : List (List ℕ) → Option (List (List ℕ))
limited parts = if is_within_limits parts then Some parts else None

-- the path that a text leads to from the cwd, where it is a path text and the path is within the limits
abbrev pub clean_path : List (List ℕ) → List ℕ → Option (List (List ℕ))
clean_path cwd text = if is_path_text text then limited (walked (start_of cwd text) text) else None

-- the parts of a prefix and then those of the rest, where they are within the limits
abbrev pub joined_path : List (List ℕ) → List (List ℕ) → Option (List (List ℕ))
joined_path prefix rest = limited (prefix ++ rest)

-- whether the path begins with the parts of the prefix
abbrev pub is_prefix : List (List ℕ) → List (List ℕ) → Bool
is_prefix prefix path = starts_with (pointwise nat_eq) path prefix

-- the parts of the path behind those of the prefix, where it begins with them
abbrev pub behind : List (List ℕ) → List (List ℕ) → Option (List (List ℕ))
behind prefix path = if is_prefix prefix path then Some (drop (length prefix) path) else None

-- the path has the parts of the prefix, and then the rest
pub record IsPrefix (prefix path : List (List ℕ)) : Type 0 where
  pub rest : List (List ℕ)
  pub whole : path ≡ prefix ++ rest

-- a byte that a part may have: 33 to 126, and not `/`
pub record IsPartByte (byte : ℕ) : Type 0 where
  pub from : 33 ≤ byte
  pub to : byte ≤ 126
  pub other : byte ≢ 47

-- a part names something: it has a byte, and is neither `.` nor `..`
pub record IsName (part : List ℕ) : Type 0 where
  pub some : 0 < length part
  pub bytes : AllByRecursion IsPartByte part
  pub other_than_here : part ≢ codes "."
  pub other_than_up : part ≢ codes ".."

-- what every path keeps
pub record IsPath (parts : List (List ℕ)) : Type 0 where
  pub names : AllByRecursion IsName parts
  pub short_parts : AllByRecursion (λ part. length part ≤ 32) parts
  pub few_parts : length parts ≤ 16
  pub short_text : length (text_of parts) ≤ 255
