-- What is put of a record shows it in its row.
use Rattle.std.proofs.Common.{◌≡◌, ◌∙◌, ℕ, ◌≤◌, ◌<◌, ◌+◌, ◌-◌, Bool, true, cond, List, [], ◌∷◌, ◌++◌, length, map, take, drop, refl, ap, ap₂, sym, subst, arith, append_assoc, Vec, Global}
use Rattle.std.proofs.lemmas.Bool.{le-leb, lt-leb}
use Rattle.std.proofs.lemmas.List.{map-append}
use Rattle.std.specs.Fmt.{decimal}
use Rattle.std.specs.Prelude.{codes}
use Rattle.unix_calls.specs.declared.event.Rec.{Rec}
use Rattle.picture_print.specs.declared.drawing.Figure.{Figure}
use Rattle.picture_print.specs.declared.drawing.Group.{Group}
use Rattle.picture_print.specs.declared.drawing.Outline.{Outline}
use Rattle.picture_print.specs.declared.drawing.Outline.TheVariants as outline
use Rattle.picture_drawing.specs.Places.{lane_left, row_top}
use Rattle.picture_drawing.specs.Records.{Adds, AddsRow, Grows, all_shown, first_text, fitting, hint_of, last_text, shown_by, shown_bytes, shown_line, shown_of, text_of}

-- of a long line the first bytes are shown, and how many it has
pub long_line : (old line first new rest : List ℕ) (count : ℕ) → 300 < count → count ≡ length line - 1 → first ≡ old ++ take 300 line
    → rest ≡ codes " .. (" ++ (decimal count ++ codes " bytes)") → new ≡ first ++ rest → new ≡ old ++ shown_line line
long_line old line first new rest count over same put words all =
    let told : List ℕ = codes " .. (" ++ (decimal count ++ codes " bytes)") in
    let long : shown_bytes count line ≡ take 300 line ++ told = ap (λ (short : Bool). cond short (take count line) (take 300 line ++ told)) (lt-leb count 300 over) in
    all ∙ ap₂ (λ (a b : List ℕ). a ++ b) put words ∙ append_assoc old (take 300 line) told
    ∙ ap (λ (bytes : List ℕ). old ++ bytes) (sym long) ∙ ap (λ (n : ℕ). old ++ shown_bytes n line) same

pub adds_grow : {wanted : Outline} {a b : List Figure} → Adds wanted a b → Grows a b
adds_grow one = record { more = one.figure ∷ []; grown = one.grown }

pub grows_on : {a b c : List Figure} → Grows a b → Grows b c → Grows a c
grows_on {a} one other = record {
  more = one.more ++ other.more;
  grown = other.grown ∙ ap (λ fs. fs ++ other.more) one.grown ∙ append_assoc a one.more other.more;
}

-- a text of at most 26 characters, at its place
text_fits : (x y : ℕ) (words : Vec ℕ Global) → length words.items ≤ 26 → fitting (text_of (outline.Text x y words)) ≡ ((x, y), true)
text_fits x y words short = ap (λ fits. ((x, y), fits)) (le-leb _ 26 short)

pub row_added : {number x y left height : ℕ} {one other : Vec ℕ Global} {a b c d : List Figure}
    → Adds (outline.Text 2 height one) a b → Grows b c → Adds (outline.Text left height other) c d
    → one.items ≡ decimal number → length other.items ≤ 26 → left ≡ x → height ≡ y → AddsRow number x y a d
row_added {left = left} {height = height} {other = other} first more last is short across down = record {
  digits = first.figure;
  marks = more.more;
  words = last.figure;
  grown = last.grown ∙ ap (λ fs. fs ++ last.figure ∷ []) (more.grown ∙ ap (λ fs. fs ++ more.more) first.grown);
  number_is = ap text_of first.outline_is ∙ ap₂ (λ (h : ℕ) (text : List ℕ). ((2, h), text)) down is;
  words_fit = ap (λ o. fitting (text_of o)) last.outline_is ∙ text_fits left height other short ∙ ap₂ (λ (l h : ℕ). ((l, h), true)) across down;
}

last_there : (xs : List Figure) (f : Figure) → last_text (xs ++ f ∷ []) ≡ text_of f.outline
last_there [] f = refl
last_there (x ∷ []) f = refl
last_there (x ∷ y ∷ xs) f = last_there (y ∷ xs) f

first_shown : {number x y : ℕ} {new : List Figure} → AddsRow number x y [] new → first_text new ≡ ((2, y), decimal number)
first_shown row = ap first_text row.grown ∙ row.number_is

last_shown : {number x y : ℕ} {new : List Figure} → AddsRow number x y [] new → fitting (last_text new) ≡ ((x, y), true)
last_shown row = ap (λ figures. fitting (last_text figures)) row.grown ∙ ap fitting (last_there (row.digits ∷ row.marks) row.words) ∙ row.words_fit

-- a group of a record's number, hint and figures shows the record
pub record_shown : (legend row number : ℕ) (r : Rec) (g : Group) (old : List Figure) → old ≡ [] → g.number ≡ number → g.hint.items ≡ hint_of number r
    → AddsRow number (lane_left (r.kernel - 1) + 86) (row_top legend row + 11) old g.figures.items → shown_by g ≡ shown_of legend row number r
unfolding shown_by shown_of
record_shown legend row number r g old none same hint drawn =
    let figures = subst (λ (fs : List Figure). AddsRow number (lane_left (r.kernel - 1) + 86) (row_top legend row + 11) fs g.figures.items) none drawn in
    ap₂ (λ (n : ℕ) (text : List ℕ). (n, text, first_text g.figures.items, fitting (last_text g.figures.items))) same hint
    ∙ ap₂ (λ (text : (ℕ × ℕ) × List ℕ) (place : (ℕ × ℕ) × Bool). (number, hint_of number r, text, place)) (first_shown figures) (last_shown figures)

-- one more group, of the next record, leaves as it is what is shown and what is to be shown
pub more_shown : (legend first row : ℕ) (groups : List Group) (g : Group) (shown : List Rec) (r : Rec) → drop row shown ≡ r ∷ drop (row + 1) shown
    → shown_by g ≡ shown_of legend row (first + row) r
    → map shown_by (groups ++ g ∷ []) ++ all_shown legend (row + 1) (first + (row + 1)) (drop (row + 1) shown)
    ≡ map shown_by groups ++ all_shown legend row (first + row) (drop row shown)
more_shown legend first row groups g shown r cut same =
    let rest : List Rec = drop (row + 1) shown in
    let next : first + (row + 1) ≡ first + row + 1 = omega arith in
    ap (λ rows. rows ++ all_shown legend (row + 1) (first + (row + 1)) rest) (map-append shown_by groups (g ∷ []))
    ∙ append_assoc (map shown_by groups) (shown_by g ∷ []) (all_shown legend (row + 1) (first + (row + 1)) rest)
    ∙ ap₂ (λ one number. map shown_by groups ++ one ∷ all_shown legend (row + 1) number rest) same next
    ∙ sym (ap (λ rs. map shown_by groups ++ all_shown legend row (first + row) rs) cut)
