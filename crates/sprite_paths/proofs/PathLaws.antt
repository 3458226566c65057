-- What cleaning keeps, and how a path and its text belong together.
use Rattle.std.proofs.Common.{◌≡◌, ◌≢◌, ℕ, ◌-◌, ◌≤◌, List, [], ◌∷◌, ◌++◌, length, take, drop, fold, codes, Some, None, true, false, ◌&&◌, cond, nat_eq, nat_le, ◌==◌, IsTrue, ◌↔◌, inl, inr, refl, sym, ap, subst, ◌∙◌, arith, append_assoc, length-append}
use Rattle.std.specs.List.{AllByRecursion, list_all, slice_split, onto_first}
use Rattle.std.specs.Cmp.Lexicographic.{pointwise, pointwise_decides, bytes_decides, same_text, other_text}
use Rattle.std.proofs.lemmas.Bool.{cases_Bool, cond-true, cond-false, and_parts, and_from, or_parts, or_from, ne_eqb, le-leb, leb-true, true≢false}
use Rattle.std.proofs.lemmas.List.{append-nil, take-append-drop, drop_at}
use Rattle.std.proofs.Math.Seq.{take-append_seam}
use Rattle.std.proofs.lemmas.List.Folds.{list_all-append}
use Rattle.std.proofs.lemmas.List.Concat.{flat_map-append}
use Rattle.sprite_ids.proofs.ListLaws.{each_append, each_of_append, each_push, each_take, some_is}
use Rattle.sprite_paths.specs.Laws.{GoesOnFrom}
use Rattle.sprite_paths.specs.Path.{is_slash, is_printed, is_path_text, stays, goes_up, step_into, start_of, walked, joined, text_of, is_short, is_within_limits, limited, clean_path, joined_path, is_prefix, behind, IsPrefix, IsPartByte, IsName, IsPath}

-- ---- comparisons

-- the test of two lists of parts tells whether they are equal
pub parts_decide : (xs ys : List (List ℕ)) → (pointwise (pointwise nat_eq) xs ys ≡ true → xs ≡ ys) × (xs ≡ ys → pointwise (pointwise nat_eq) xs ys ≡ true)
parts_decide = pointwise_decides bytes_decides

-- the test of a prefix tells whether it is one
pub prefix_decides : (prefix path : List (List ℕ)) → IsTrue (is_prefix prefix path) ↔ IsPrefix prefix path
prefix_decides prefix path = (
  λ yes'. record {
    rest = drop (length prefix) path;
    whole = sym (take-append-drop (length prefix) path) ∙ ap (λ front. front ++ drop (length prefix) path) (sym ((parts_decide prefix (take (length prefix) path)).0 yes'));
  },
  λ is. (parts_decide prefix (take (length prefix) path)).1 (sym (ap (take (length prefix)) is.whole ∙ take-append_seam prefix is.rest)),
)

-- two texts that differ are told apart
other_test : (xs ys : List ℕ) → xs ≢ ys → pointwise nat_eq xs ys ≡ false
other_test xs ys other =
    elim (cases_Bool (pointwise nat_eq xs ys)) [ inl same ↦ absurd (other (same_text xs ys (sym same))) | inr apart ↦ apart ]

-- ---- the parts of a text

-- the parts have only bytes that a part may have
abbrev pub HavePartBytes : List (List ℕ) → Type 0
HavePartBytes parts = AllByRecursion (AllByRecursion IsPartByte) parts

onto_part_bytes : (byte : ℕ) (parts : List (List ℕ)) → IsPartByte byte → HavePartBytes parts → HavePartBytes (onto_first byte parts)
onto_part_bytes byte [] is each = ((is, tt), tt)
onto_part_bytes byte (part ∷ parts) is each = ((is, each.0), each.1)

part_byte : (byte : ℕ) → is_printed byte ≡ true → is_slash byte ≡ false → IsPartByte byte
part_byte byte printed other =
    let bounds = and_parts (nat_le 33 byte) (nat_le byte 126) printed in
    record { from = leb-true 33 byte bounds.0; to = leb-true byte 126 bounds.1; other = λ e. true≢false (sym (ap is_slash e) ∙ other) }

-- so have the parts of a text of 33 to 126
pub split_part_bytes : (text : List ℕ) → list_all is_printed text ≡ true → HavePartBytes (slice_split is_slash text)
split_part_bytes [] printed = (tt, tt)
split_part_bytes (byte ∷ text) printed =
    let both = and_parts (is_printed byte) (list_all is_printed text) printed in
    let more = split_part_bytes text both.1 in
    elim (cases_Bool (is_slash byte)) [
      | inl slash ↦ subst HavePartBytes (sym (cond-true (is_slash byte) _ _ slash)) (tt, more)
      | inr other ↦ subst HavePartBytes (sym (cond-false (is_slash byte) _ _ other)) (onto_part_bytes byte (slice_split is_slash text) (part_byte byte both.0 other) more)
    ]

-- a part that doesn't stay has a byte and isn't `.`
named : (part : List ℕ) → AllByRecursion IsPartByte part → stays part ≡ false → goes_up part ≡ false → IsName part
named [] bytes here up = absurd (true≢false here)
named (byte ∷ part) bytes here up = record {
  some = omega arith;
  bytes = bytes;
  other_than_here = other_text (byte ∷ part) (codes ".") (sym (or_parts (length (byte ∷ part) == 0) (pointwise nat_eq (byte ∷ part) (codes ".")) here).1);
  other_than_up = other_text (byte ∷ part) (codes "..") (sym up);
}

-- names stay names where one more part is gone into
pub step_names : (parts : List (List ℕ)) (part : List ℕ) → AllByRecursion IsName parts → AllByRecursion IsPartByte part → AllByRecursion IsName (step_into parts part)
step_names parts part names bytes =
    elim (cases_Bool (stays part)) [
      | inl here ↦ subst (AllByRecursion IsName) (sym (cond-true (stays part) _ _ here)) names
      | inr on ↦ subst (AllByRecursion IsName) (sym (cond-false (stays part) _ _ on)) (
          elim (cases_Bool (goes_up part)) [
            | inl up ↦ subst (AllByRecursion IsName) (sym (cond-true (goes_up part) _ _ up)) (each_take IsName (length parts - 1) parts names)
            | inr down ↦ subst (AllByRecursion IsName) (sym (cond-false (goes_up part) _ _ down)) (each_push IsName parts part names (named part bytes on down))
          ])
    ]

pub fold_names : (parts more : List (List ℕ)) → AllByRecursion IsName parts → HavePartBytes more → AllByRecursion IsName (fold step_into parts more)
fold_names parts [] names bytes = names
fold_names parts (part ∷ more) names bytes = fold_names (step_into parts part) more (step_names parts part names bytes.0) bytes.1

start_names : (cwd : List (List ℕ)) (text : List ℕ) → AllByRecursion IsName cwd → AllByRecursion IsName (start_of cwd text)
start_names cwd [] names = names
start_names cwd (byte ∷ text) names = elim (is_slash byte) as (λ b. AllByRecursion IsName (cond b [] cwd)) [ true ↦ tt | false ↦ names ]

short_parts : (parts : List (List ℕ)) → list_all is_short parts ≡ true → AllByRecursion (λ part. length part ≤ 32) parts
short_parts [] short = tt
short_parts (part ∷ parts) short =
    let both = and_parts (is_short part) (list_all is_short parts) short in
    (leb-true (length part) 32 both.0, short_parts parts both.1)

-- where a path text leads, the limits make a path
pub walked_path : (cwd : List (List ℕ)) (text : List ℕ) → IsPath cwd → is_path_text text ≡ true → is_within_limits (walked (start_of cwd text) text) ≡ true → IsPath (walked (start_of cwd text) text)
walked_path cwd text path is_text within =
    let end = walked (start_of cwd text) text in
    let printed = (and_parts (nat_le 1 (length text) && nat_le (length text) 255) (list_all is_printed text) is_text).1 in
    let limits = and_parts (nat_le (length end) 16 && list_all is_short end) (nat_le (length (text_of end)) 255) within in
    let parts = and_parts (nat_le (length end) 16) (list_all is_short end) limits.0 in
    record {
      names = fold_names (start_of cwd text) (slice_split is_slash text) (start_names cwd text path.names) (split_part_bytes text printed);
      short_parts = short_parts end parts.1;
      few_parts = leb-true (length end) 16 parts.0;
      short_text = leb-true (length (text_of end)) 255 limits.1;
    }

-- ---- a path and its text

short_test : (parts : List (List ℕ)) → AllByRecursion (λ part. length part ≤ 32) parts → list_all is_short parts ≡ true
short_test [] short = refl
short_test (part ∷ parts) short = and_from (is_short part) (list_all is_short parts) (le-leb (length part) 32 short.0) (short_test parts short.1)

-- a path is within the limits
pub path_fits : (path : List (List ℕ)) → IsPath path → is_within_limits path ≡ true
path_fits path is =
    and_from (nat_le (length path) 16 && list_all is_short path) (nat_le (length (text_of path)) 255)
    (and_from (nat_le (length path) 16) (list_all is_short path) (le-leb (length path) 16 is.few_parts) (short_test path is.short_parts))
    (le-leb (length (text_of path)) 255 is.short_text)

part_printed : (part : List ℕ) → AllByRecursion IsPartByte part → list_all is_printed part ≡ true
part_printed [] bytes = refl
part_printed (byte ∷ part) bytes =
    and_from (is_printed byte) (list_all is_printed part)
    (and_from (nat_le 33 byte) (nat_le byte 126) (le-leb 33 byte bytes.0.from) (le-leb byte 126 bytes.0.to))
    (part_printed part bytes.1)

joined_printed : (parts : List (List ℕ)) → AllByRecursion IsName parts → list_all is_printed (joined parts) ≡ true
joined_printed [] names = refl
joined_printed (part ∷ parts) names =
    list_all-append is_printed part (joined parts) ∙ and_from (list_all is_printed part) (list_all is_printed (joined parts)) (part_printed part names.0.bytes) (joined_printed parts names.1)

-- a part before a text of which it is split is the first part
split_front : (part text : List ℕ) (more : List (List ℕ)) → AllByRecursion IsPartByte part → slice_split is_slash text ≡ [] ∷ more → slice_split is_slash (part ++ text) ≡ part ∷ more
split_front [] text more bytes e = e
split_front (byte ∷ part) text more bytes e =
    cond-false (is_slash byte) _ _ (ne_eqb byte 47 bytes.0.other) ∙ ap (onto_first byte) (split_front part text more bytes.1 e)

-- the text with `/` before each part is split into these parts
pub split_joined : (parts : List (List ℕ)) (text : List ℕ) (more : List (List ℕ)) → AllByRecursion IsName parts → slice_split is_slash text ≡ [] ∷ more → slice_split is_slash (joined parts ++ text) ≡ [] ∷ (parts ++ more)
split_joined [] text more names e = e
split_joined (part ∷ parts) text more names e =
    ap (λ split. [] ∷ split) (
    ap (slice_split is_slash) (append_assoc part (joined parts) text) ∙ split_front part (joined parts ++ text) (parts ++ more) names.0.bytes (split_joined parts text more names.1 e)
    )

split_all : (parts : List (List ℕ)) → AllByRecursion IsName parts → slice_split is_slash (joined parts) ≡ [] ∷ parts
split_all parts names =
    ap (slice_split is_slash) (sym (append-nil (joined parts))) ∙ split_joined parts [] [] names refl ∙ ap (λ split. [] ∷ split) (append-nil parts)

name_goes_on : (parts : List (List ℕ)) (part : List ℕ) → IsName part → step_into parts part ≡ parts ++ part ∷ []
name_goes_on parts part name =
    let on : stays part ≡ false = or_from (length part == 0) (pointwise nat_eq part (codes ".")) (ne_eqb (length part) 0 (λ e. let some = name.some in omega arith)) (other_test part (codes ".") name.other_than_here) in
    cond-false (stays part) _ _ on ∙ cond-false (goes_up part) _ _ (other_test part (codes "..") name.other_than_up)

-- going through names puts them all at the end
fold_on : (before parts : List (List ℕ)) → AllByRecursion IsName parts → fold step_into before parts ≡ before ++ parts
fold_on before [] names = sym (append-nil before)
fold_on before (part ∷ parts) names =
    ap (λ now. fold step_into now parts) (name_goes_on before part names.0) ∙ fold_on (before ++ part ∷ []) parts names.1 ∙ append_assoc before (part ∷ []) parts

pub clean_again : (cwd path : List (List ℕ)) → IsPath path → clean_path cwd (text_of path) ≡ Some path
clean_again cwd [] is = refl
clean_again cwd (part ∷ parts) is =
    let path = part ∷ parts in
    let text = joined path in
    let end : walked [] text ≡ path = ap (fold step_into []) (split_all path is.names) ∙ fold_on [] path is.names in
    let right : is_path_text text ≡ true =
    and_from (nat_le 1 (length text) && nat_le (length text) 255) (list_all is_printed text)
    (and_from (nat_le 1 (length text)) (nat_le (length text) 255) (le-leb 1 (length text) (omega arith)) (le-leb (length text) 255 is.short_text))
    (joined_printed path is.names)
    in
    cond-true (is_path_text text) _ _ right ∙ ap limited end ∙ cond-true (is_within_limits path) _ _ (path_fits path is)

pub one_text : (path other : List (List ℕ)) → IsPath path → IsPath other → text_of path ≡ text_of other → path ≡ other
one_text path other is is' e =
    let found : Some path ≡ Some other = sym (clean_again [] path is) ∙ ap (clean_path []) e ∙ clean_again [] other is' in
    some_is path other found

pub cleaned_path : (cwd : List (List ℕ)) (text : List ℕ) (path : List (List ℕ)) → IsPath cwd → clean_path cwd text ≡ Some path → IsPath path
cleaned_path cwd text path is e =
    let end = walked (start_of cwd text) text in
    elim (cases_Bool (is_path_text text)) [
      | inr wrong ↦ absurd (let none : None ≡ Some path = sym (cond-false (is_path_text text) _ _ wrong) ∙ e in cc)
      | inl right ↦
          let in_limits : limited end ≡ Some path = sym (cond-true (is_path_text text) _ _ right) ∙ e in
          elim (cases_Bool (is_within_limits end)) [
            | inr past ↦ absurd (let none : None ≡ Some path = sym (cond-false (is_within_limits end) _ _ past) ∙ in_limits in cc)
            | inl within ↦
                let found : end ≡ path = some_is end path (sym (cond-true (is_within_limits end) _ _ within) ∙ in_limits) in
                subst IsPath found (walked_path cwd text is right within)
          ]
    ]

-- ---- prefixes

goes_on_joined : (prefix : List (List ℕ)) (rest : List (List ℕ)) → GoesOnFrom (joined prefix) (joined (prefix ++ rest))
goes_on_joined prefix [] = inl (ap joined (append-nil prefix))
goes_on_joined prefix (part ∷ rest) = inr (part ++ joined rest, flat_map-append (λ p. 47 ∷ p) prefix (part ∷ rest))

goes_on_back : (first : List ℕ) (prefix path : List (List ℕ)) → IsPath (first ∷ prefix) → IsPath path → GoesOnFrom (joined (first ∷ prefix)) (text_of path) → IsPrefix (first ∷ prefix) path
goes_on_back first prefix path is is' (inl alone) =
    record { rest = []; whole = one_text path (first ∷ prefix) is' is alone ∙ sym (append-nil (first ∷ prefix)) }
goes_on_back first prefix [] is is' (inr on) =
    let some = is.names.0.some in
    absurd (let long = ap length on.1 in let all = length-append (joined (first ∷ prefix)) (47 ∷ on.0) in let front = length-append first (joined prefix) in omega arith)
goes_on_back first prefix (part ∷ path) is is' (inr on) =
    let parts : [] ∷ (part ∷ path) ≡ [] ∷ ((first ∷ prefix) ++ slice_split is_slash on.0) =
    sym (split_all (part ∷ path) is'.names) ∙ ap (slice_split is_slash) on.1 ∙ split_joined (first ∷ prefix) (47 ∷ on.0) (slice_split is_slash on.0) is.names refl in
    record { rest = slice_split is_slash on.0; whole = cc }

pub prefix_by_text : (prefix path : List (List ℕ)) → IsPath prefix → IsPath path → prefix ≢ [] → IsPrefix prefix path ↔ GoesOnFrom (text_of prefix) (text_of path)
prefix_by_text [] path is is' some = absurd (some refl)
prefix_by_text (first ∷ prefix) path is is' some = (
  λ begins. subst (λ (p : List (List ℕ)). GoesOnFrom (joined (first ∷ prefix)) (text_of p)) (sym begins.whole) (goes_on_joined (first ∷ prefix) begins.rest),
  λ on. goes_on_back first prefix path is is' on,
)

-- ---- a prefix and the rest

-- two paths one behind the other are a path within the limits
pub joined_is_path : (prefix rest : List (List ℕ)) → IsPath prefix → IsPath rest → is_within_limits (prefix ++ rest) ≡ true → IsPath (prefix ++ rest)
joined_is_path prefix rest is is' within =
    let all = prefix ++ rest in
    let limits = and_parts (nat_le (length all) 16 && list_all is_short all) (nat_le (length (text_of all)) 255) within in
    let parts = and_parts (nat_le (length all) 16) (list_all is_short all) limits.0 in
    record {
      names = each_append IsName prefix rest is.names is'.names;
      short_parts = short_parts all parts.1;
      few_parts = leb-true (length all) 16 parts.0;
      short_text = leb-true (length (text_of all)) 255 limits.1;
    }

-- the text with `/` before each part of the rest is no longer than all
rest_shorter : (prefix rest : List (List ℕ)) → length (joined rest) ≤ length (joined (prefix ++ rest))
rest_shorter prefix rest =
    let all = ap length (flat_map-append (λ p. 47 ∷ p) prefix rest) in
    let both = length-append (joined prefix) (joined rest) in
    omega arith

text_short : (prefix rest : List (List ℕ)) → length (text_of (prefix ++ rest)) ≤ 255 → length (text_of rest) ≤ 255
text_short prefix [] short = omega arith
text_short [] (part ∷ rest) short = short
text_short (first ∷ prefix) (part ∷ rest) short = let shorter = rest_shorter (first ∷ prefix) (part ∷ rest) in omega arith

-- what a path has behind any of its parts is a path
rest_is_path : (prefix rest : List (List ℕ)) → IsPath (prefix ++ rest) → IsPath rest
rest_is_path prefix rest is = record {
  names = (each_of_append IsName prefix rest is.names).1;
  short_parts = (each_of_append (λ part. length part ≤ 32) prefix rest is.short_parts).1;
  few_parts = let few = is.few_parts in let both = length-append prefix rest in omega arith;
  short_text = text_short prefix rest is.short_text;
}

pub drop_is_path : (n : ℕ) (path : List (List ℕ)) → IsPath path → IsPath (drop n path)
drop_is_path n path is = rest_is_path (take n path) (drop n path) (subst IsPath (sym (take-append-drop n path)) is)

-- the test of a prefix, with its two sides turned
turned : (prefix path : List (List ℕ)) → pointwise (pointwise nat_eq) (take (length prefix) path) prefix ≡ is_prefix prefix path
turned prefix path =
    elim (cases_Bool (is_prefix prefix path)) [
      | inl begins ↦ (parts_decide (take (length prefix) path) prefix).1 (sym ((parts_decide prefix (take (length prefix) path)).0 begins)) ∙ sym begins
      | inr other ↦
          elim (cases_Bool (pointwise (pointwise nat_eq) (take (length prefix) path) prefix)) [
            | inl same ↦ absurd (true≢false (sym ((parts_decide prefix (take (length prefix) path)).1 (sym ((parts_decide (take (length prefix) path) prefix).0 same))) ∙ other))
            | inr apart ↦ apart ∙ sym other
          ]
    ]

pub behind_found : (prefix path : List (List ℕ)) → pointwise (pointwise nat_eq) (take (length prefix) path) prefix ≡ true → behind prefix path ≡ Some (drop (length prefix) path)
behind_found prefix path same = cond-true (is_prefix prefix path) _ _ (sym (turned prefix path) ∙ same)

pub behind_none : (prefix path : List (List ℕ)) → pointwise (pointwise nat_eq) (take (length prefix) path) prefix ≡ false → behind prefix path ≡ None
behind_none prefix path apart = cond-false (is_prefix prefix path) _ _ (sym (turned prefix path) ∙ apart)

pub behind_joined : (prefix rest path : List (List ℕ)) → joined_path prefix rest ≡ Some path → behind prefix path ≡ Some rest
behind_joined prefix rest path e =
    elim (cases_Bool (is_within_limits (prefix ++ rest))) [
      | inr past ↦ absurd (let none : None ≡ Some path = sym (cond-false (is_within_limits (prefix ++ rest)) _ _ past) ∙ e in cc)
      | inl within ↦
          let whole : prefix ++ rest ≡ path = some_is (prefix ++ rest) path (sym (cond-true (is_within_limits (prefix ++ rest)) _ _ within) ∙ e) in
          let begins = (prefix_decides prefix path).1 (record { rest = rest; whole = sym whole }) in
          cond-true (is_prefix prefix path) _ _ begins ∙ ap (λ all. Some (drop (length prefix) all)) (sym whole) ∙ ap Some (drop_at prefix rest (length prefix) refl)
    ]

pub joined_behind : (prefix rest path : List (List ℕ)) → IsPath path → behind prefix path ≡ Some rest → joined_path prefix rest ≡ Some path
joined_behind prefix rest path is e =
    elim (cases_Bool (is_prefix prefix path)) [
      | inr other ↦ absurd (let none : None ≡ Some rest = sym (cond-false (is_prefix prefix path) _ _ other) ∙ e in cc)
      | inl begins ↦
          let found : drop (length prefix) path ≡ rest = some_is (drop (length prefix) path) rest (sym (cond-true (is_prefix prefix path) _ _ begins) ∙ e) in
          let same : prefix ≡ take (length prefix) path = (parts_decide prefix (take (length prefix) path)).0 begins in
          let whole : prefix ++ rest ≡ path = ap (λ front. front ++ rest) same ∙ ap (λ back. take (length prefix) path ++ back) (sym found) ∙ take-append-drop (length prefix) path in
          ap limited whole ∙ cond-true (is_within_limits path) _ _ (path_fits path is)
    ]
