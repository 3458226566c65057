-- What a well-formed text of elements is: each element that is opened is closed by its name, its attributes have names of their own and stand
-- in quotes, and no sign of the language stands bare in a text or a value.
use Rattle.std.specs.Prelude.{codes, ◌≡◌, ℕ, ◌==◌, ◌||◌, ◌&&◌, nat_eq, nat_le, nat_lt, not, Bool, true, false, List, [], ◌∷◌, ◌++◌}
use Rattle.std.specs.Cmp.Lexicographic.{pointwise}
use Rattle.std.specs.List.{list_all, list_any}
use Rattle.picture_print.specs.Svg.{attribute_text, element_text}

-- a byte that stands for itself in a text and in a value: printed, and none of `&`, `<`, `>` and `"`
abbrev pub is_plain : ℕ → Bool
is_plain b = not (nat_lt b 32 || nat_lt 126 b) && (not (b == 38) && (not (b == 60) && (not (b == 62) && not (b == 34))))

-- these four, as they are written
pub data Entity : Type 0 where
  Ampersand : Entity
  Less : Entity
  Greater : Entity
  Quote : Entity

abbrev pub entity_text : Entity → List ℕ
entity_text Ampersand = codes "&amp;"
entity_text Less = codes "&lt;"
entity_text Greater = codes "&gt;"
entity_text Quote = codes "&quot;"

-- a text, or a value in quotes: bytes that stand for themselves, and entities
pub data IsText : List ℕ → Type 0 where
  ended : IsText []
  plain : (b : ℕ) (rest : List ℕ) → is_plain b ≡ true → IsText rest → IsText (b ∷ rest)
  entity : (e : Entity) (rest : List ℕ) → IsText rest → IsText (entity_text e ++ rest)

-- a name: a small letter, and behind it small letters and hyphens
abbrev pub is_letter : ℕ → Bool
is_letter b = nat_le 97 b && nat_le b 122

abbrev pub is_name : List ℕ → Bool
is_name [] = false
is_name (b ∷ bs) = is_letter b && list_all (λ c. is_letter c || c == 45) bs

abbrev pub is_among : List ℕ → List (List ℕ) → Bool
is_among name names = list_any (pointwise nat_eq name) names

-- attributes with these names: each a name that none of the others has, and its value in quotes
pub data AreAttributes : List (List ℕ) → List ℕ → Type 0 where
  ended : AreAttributes [] []
  attribute : (name value rest : List ℕ) (names : List (List ℕ)) → is_name name ≡ true → is_among name names ≡ false → IsText value → AreAttributes names rest → AreAttributes (name ∷ names) (attribute_text name value ++ rest)

-- what stands inside an element: texts, line ends, and elements, each of which is closed
pub data IsContent : List ℕ → Type 0 where
  ended : IsContent []
  text : (bytes rest : List ℕ) → IsText bytes → IsContent rest → IsContent (bytes ++ rest)
  line_end : (rest : List ℕ) → IsContent rest → IsContent (10 ∷ rest)
  element : (tag attributes inside rest : List ℕ) (names : List (List ℕ)) → is_name tag ≡ true → AreAttributes names attributes → IsContent inside → IsContent rest → IsContent (element_text tag attributes inside ++ rest)

-- a document: one element, and the end of its line
pub record IsDocument (text : List ℕ) : Type 0 where
  pub tag : List ℕ
  pub attributes : List ℕ
  pub names : List (List ℕ)
  pub inside : List ℕ
  pub named : is_name tag ≡ true
  pub have_values : AreAttributes names attributes
  pub closed : IsContent inside
  pub parts : text ≡ element_text tag attributes inside ++ codes "\n"
