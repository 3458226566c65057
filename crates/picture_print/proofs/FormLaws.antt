-- Escaped bytes are texts, and what is printed of a drawing is a document.
use Rattle.std.proofs.Common.{codes, ◌≡◌, ◌∙◌, ℕ, ◌==◌, ◌||◌, nat_eq, nat_lt, not, Bool, true, false, List, [], ◌∷◌, ◌++◌, refl, sym, ap, subst, append-nil, append_assoc}
use Rattle.std.specs.List.{flat_map, list_all}
use Rattle.std.specs.Cmp.Lexicographic.{pointwise}
use Rattle.std.proofs.lemmas.Bool.{and_parts}
use Rattle.std.proofs.lemmas.List.Folds.{list_any-append}
use Rattle.std.specs.Fmt.{decimal}
use Rattle.picture_print.specs.declared.drawing.Drawing.{Drawing}
use Rattle.picture_print.specs.declared.drawing.Figure.{Figure}
use Rattle.picture_print.specs.declared.drawing.Group.{Group}
use Rattle.picture_print.specs.declared.drawing.Mark.{Mark}
use Rattle.picture_print.specs.declared.drawing.Outline.{Outline}
use Rattle.picture_print.specs.declared.drawing.Outline.TheVariants as outline
use Rattle.picture_print.specs.declared.drawing.Subject.{Subject}
use Rattle.picture_print.specs.declared.drawing.Subject.TheVariants as subject
use Rattle.picture_print.specs.Svg.{attribute_text, class_of, colour_of, element_text, escape_of, escaped, figure_attributes, figure_text, flag_text, group_attributes, group_inside, group_name, group_opening, group_text, head_text, hint_text, mark_link, mark_name, mark_steps, mark_text, marks_text, all_marks, namespace, number_text, outline_attributes, outline_words, style_text, subject_attributes, svg_attributes, svg_inside, svg_text, tag_of}
use Rattle.picture_print.specs.WellFormed as form
use Rattle.picture_print.specs.WellFormed.{AreAttributes, IsContent, IsDocument, IsText, entity_text, is_among, is_name, is_plain}

-- ---- texts

text_joined : (a b : List ℕ) → IsText a → IsText b → IsText (a ++ b)
text_joined _ b form.IsText.ended h = h
text_joined _ b (form.IsText.plain x rest fits more) h = form.IsText.plain x (rest ++ b) fits (text_joined rest b more h)
text_joined _ b (form.IsText.entity e rest more) h =
    subst IsText (sym (append_assoc (entity_text e) rest b)) (form.IsText.entity e (rest ++ b) (text_joined rest b more h))

one : (b : ℕ) → is_plain b ≡ true → IsText (b ∷ [])
one b fits = form.IsText.plain b [] fits form.IsText.ended

pub plain_or_not : (b : ℕ) (unprinted ampersand less greater quote : Bool)
    → (nat_lt b 32 || nat_lt 126 b) ≡ unprinted → (b == 38) ≡ ampersand → (b == 60) ≡ less → (b == 62) ≡ greater → (b == 34) ≡ quote
    → IsText (escape_of b)
plain_or_not b true ampersand less greater quote u a l g q = rw u (one 63 refl)
plain_or_not b false true less greater quote u a l g q = rw (u, a) (form.IsText.entity form.Entity.Ampersand [] form.IsText.ended)
plain_or_not b false false true greater quote u a l g q = rw (u, a, l) (form.IsText.entity form.Entity.Less [] form.IsText.ended)
plain_or_not b false false false true quote u a l g q = rw (u, a, l, g) (form.IsText.entity form.Entity.Greater [] form.IsText.ended)
plain_or_not b false false false false true u a l g q = rw (u, a, l, g, q) (form.IsText.entity form.Entity.Quote [] form.IsText.ended)
plain_or_not b false false false false false u a l g q = rw (u, a, l, g, q) (one b (rw (u, a, l, g, q) refl))

byte_is_text : (b : ℕ) → IsText (escape_of b)
byte_is_text b = plain_or_not b (nat_lt b 32 || nat_lt 126 b) (b == 38) (b == 60) (b == 62) (b == 34) refl refl refl refl refl

pub escaped_is_text : (bytes : List ℕ) → IsText (escaped bytes)
escaped_is_text [] = form.IsText.ended
escaped_is_text (b ∷ bs) = text_joined (escape_of b) (escaped bs) (byte_is_text b) (escaped_is_text bs)

-- ---- attributes

-- no name of the first is one of the others
abbrev are_apart : List (List ℕ) → List (List ℕ) → Bool
are_apart names others = list_all (λ name. not (is_among name others)) names

not_true : (b : Bool) → not b ≡ true → b ≡ false
not_true false h = refl
not_true true h = sym h

alone_joined : (name : List ℕ) (names others : List (List ℕ)) → is_among name names ≡ false → is_among name others ≡ false → is_among name (names ++ others) ≡ false
alone_joined name names others here there = list_any-append (pointwise nat_eq name) names others ∙ ap (λ b. b || is_among name others) here ∙ there

attributes_joined : (names others : List (List ℕ)) (a b : List ℕ) → are_apart names others ≡ true → AreAttributes names a → AreAttributes others b → AreAttributes (names ++ others) (a ++ b)
attributes_joined _ others _ b apart form.AreAttributes.ended h = h
attributes_joined _ others _ b apart (form.AreAttributes.attribute name value rest names named alone fits more) h =
    let parts = and_parts (not (is_among name others)) (are_apart names others) apart in
    subst (AreAttributes (name ∷ (names ++ others))) (sym (append_assoc (attribute_text name value) rest b))
    (form.AreAttributes.attribute name value (rest ++ b) (names ++ others) named (alone_joined name names others alone (not_true _ parts.0)) fits
    (attributes_joined names others rest b parts.1 more h))

escaped_attribute : (name bytes : List ℕ) → is_name name ≡ true → AreAttributes (name ∷ []) (attribute_text name (escaped bytes))
escaped_attribute name bytes named =
    subst (AreAttributes (name ∷ [])) (append-nil (attribute_text name (escaped bytes)))
    (form.AreAttributes.attribute name (escaped bytes) [] [] named refl (escaped_is_text bytes) form.AreAttributes.ended)

number : (name : List ℕ) (n : ℕ) → is_name name ≡ true → AreAttributes (name ∷ []) (number_text name n)
number name n named = escaped_attribute name (decimal n) named

-- two with a name each
pair : (name other : List ℕ) (a b : List ℕ) → are_apart (name ∷ []) (other ∷ []) ≡ true → AreAttributes (name ∷ []) a → AreAttributes (other ∷ []) b → AreAttributes (name ∷ other ∷ []) (a ++ b)
pair name other a b apart h k = attributes_joined (name ∷ []) (other ∷ []) a b apart h k

abbrev subject_names : Subject → List (List ℕ)
subject_names subject.Nothing = []
subject_names (subject.Kernel n) = codes "data-kernel" ∷ []
subject_names (subject.Between first last repeated) = codes "data-from" ∷ codes "data-to" ∷ codes "data-repeated" ∷ []

subject_holds : (s : Subject) → AreAttributes (subject_names s) (subject_attributes s)
subject_holds subject.Nothing = form.AreAttributes.ended
subject_holds (subject.Kernel n) = number (codes "data-kernel") n refl
subject_holds (subject.Between first last repeated) =
    attributes_joined (codes "data-from" ∷ codes "data-to" ∷ []) (codes "data-repeated" ∷ []) _ _ refl
    (pair (codes "data-from") (codes "data-to") _ _ refl (number (codes "data-from") first refl) (number (codes "data-to") last refl))
    (escaped_attribute (codes "data-repeated") (flag_text repeated) refl)

-- a place, by its two numbers
place : (x y : ℕ) → AreAttributes (codes "x" ∷ codes "y" ∷ []) (number_text (codes "x") x ++ number_text (codes "y") y)
place x y = pair (codes "x") (codes "y") _ _ refl (number (codes "x") x refl) (number (codes "y") y refl)

abbrev outline_names : Outline → List (List ℕ)
outline_names (outline.Box x y width height) = codes "x" ∷ codes "y" ∷ codes "width" ∷ codes "height" ∷ []
outline_names (outline.Dot x y radius) = codes "cx" ∷ codes "cy" ∷ codes "r" ∷ []
outline_names (outline.Line steps) = codes "d" ∷ []
outline_names (outline.Mark m x y) = codes "href" ∷ codes "x" ∷ codes "y" ∷ []
outline_names (outline.Text x y words) = codes "x" ∷ codes "y" ∷ []

outline_holds : (o : Outline) → AreAttributes (outline_names o) (outline_attributes o)
outline_holds (outline.Box x y width height) =
    attributes_joined (codes "x" ∷ codes "y" ∷ codes "width" ∷ []) (codes "height" ∷ []) _ _ refl
    (attributes_joined (codes "x" ∷ codes "y" ∷ []) (codes "width" ∷ []) _ _ refl (place x y) (number (codes "width") width refl))
    (number (codes "height") height refl)
outline_holds (outline.Dot x y radius) =
    attributes_joined (codes "cx" ∷ codes "cy" ∷ []) (codes "r" ∷ []) _ _ refl
    (pair (codes "cx") (codes "cy") _ _ refl (number (codes "cx") x refl) (number (codes "cy") y refl))
    (number (codes "r") radius refl)
outline_holds (outline.Line steps) = escaped_attribute (codes "d") steps.items refl
outline_holds (outline.Mark m x y) =
    attributes_joined (codes "href" ∷ codes "x" ∷ []) (codes "y" ∷ []) _ _ refl
    (pair (codes "href") (codes "x") _ _ refl (escaped_attribute (codes "href") (mark_link m) refl) (number (codes "x") x refl))
    (number (codes "y") y refl)
outline_holds (outline.Text x y words) = place x y

-- what each figure has, what it is of and where it is have no name in common
abbrev looks : List (List ℕ)
looks = codes "class" ∷ codes "color" ∷ []

subject_apart : (s : Subject) → are_apart looks (subject_names s) ≡ true
subject_apart subject.Nothing = refl
subject_apart (subject.Kernel n) = refl
subject_apart (subject.Between first last repeated) = refl

outline_apart : (s : Subject) (o : Outline) → are_apart (looks ++ subject_names s) (outline_names o) ≡ true
outline_apart subject.Nothing (outline.Box x y width height) = refl
outline_apart subject.Nothing (outline.Dot x y radius) = refl
outline_apart subject.Nothing (outline.Line steps) = refl
outline_apart subject.Nothing (outline.Mark m x y) = refl
outline_apart subject.Nothing (outline.Text x y words) = refl
outline_apart (subject.Kernel n) (outline.Box x y width height) = refl
outline_apart (subject.Kernel n) (outline.Dot x y radius) = refl
outline_apart (subject.Kernel n) (outline.Line steps) = refl
outline_apart (subject.Kernel n) (outline.Mark m x y) = refl
outline_apart (subject.Kernel n) (outline.Text x y words) = refl
outline_apart (subject.Between first last repeated) (outline.Box x y width height) = refl
outline_apart (subject.Between first last repeated) (outline.Dot x y radius) = refl
outline_apart (subject.Between first last repeated) (outline.Line steps) = refl
outline_apart (subject.Between first last repeated) (outline.Mark m x y) = refl
outline_apart (subject.Between first last repeated) (outline.Text x y words) = refl

figure_holds : (f : Figure) → AreAttributes (looks ++ subject_names f.subject ++ outline_names f.outline) (figure_attributes f)
figure_holds f =
    attributes_joined (looks ++ subject_names f.subject) (outline_names f.outline) _ _ (outline_apart f.subject f.outline)
    (attributes_joined looks (subject_names f.subject) _ _ (subject_apart f.subject)
    (pair (codes "class") (codes "color") _ _ refl (escaped_attribute (codes "class") (class_of f.role) refl) (escaped_attribute (codes "color") (colour_of f.colour) refl))
    (subject_holds f.subject)) (outline_holds f.outline)

-- ---- elements

content_joined : (a b : List ℕ) → IsContent a → IsContent b → IsContent (a ++ b)
content_joined _ b form.IsContent.ended h = h
content_joined _ b (form.IsContent.text bytes rest is more) h =
    subst IsContent (sym (append_assoc bytes rest b)) (form.IsContent.text bytes (rest ++ b) is (content_joined rest b more h))
content_joined _ b (form.IsContent.line_end rest more) h = form.IsContent.line_end (rest ++ b) (content_joined rest b more h)
content_joined _ b (form.IsContent.element tag attributes inside rest names named have is more) h =
    subst IsContent (sym (append_assoc (element_text tag attributes inside) rest b)) (form.IsContent.element tag attributes inside (rest ++ b) names named have is (content_joined rest b more h))

text_content : (bytes : List ℕ) → IsText bytes → IsContent bytes
text_content bytes is = subst IsContent (append-nil bytes) (form.IsContent.text bytes [] is form.IsContent.ended)

element_content : (tag attributes inside : List ℕ) (names : List (List ℕ)) → is_name tag ≡ true → AreAttributes names attributes → IsContent inside → IsContent (element_text tag attributes inside)
element_content tag attributes inside names named have is =
    subst IsContent (append-nil (element_text tag attributes inside)) (form.IsContent.element tag attributes inside [] names named have is form.IsContent.ended)

line_ended : (bytes : List ℕ) → IsContent bytes → IsContent (bytes ++ codes "\n")
line_ended bytes is = content_joined bytes (codes "\n") is (form.IsContent.line_end [] form.IsContent.ended)

each_content : {A : Type 0} → (f : A → List ℕ) → ((x : A) → IsContent (f x)) → (xs : List A) → IsContent (flat_map f xs)
each_content f holds [] = form.IsContent.ended
each_content f holds (x ∷ xs) = content_joined (f x) (flat_map f xs) (holds x) (each_content f holds xs)

hint_content : (hint : List ℕ) → IsContent (hint_text hint)
hint_content [] = form.IsContent.ended
hint_content (b ∷ bs) = element_content (codes "title") [] (escaped (b ∷ bs)) [] refl form.AreAttributes.ended (text_content (escaped (b ∷ bs)) (escaped_is_text (b ∷ bs)))

tag_named : (o : Outline) → is_name (tag_of o) ≡ true
tag_named (outline.Box x y width height) = refl
tag_named (outline.Dot x y radius) = refl
tag_named (outline.Line steps) = refl
tag_named (outline.Mark m x y) = refl
tag_named (outline.Text x y words) = refl

figure_content : (f : Figure) → IsContent (figure_text f)
figure_content f =
    element_content (tag_of f.outline) (figure_attributes f) (hint_text f.hint.items ++ escaped (outline_words f.outline)) _ (tag_named f.outline) (figure_holds f)
    (content_joined (hint_text f.hint.items) (escaped (outline_words f.outline)) (hint_content f.hint.items) (text_content (escaped (outline_words f.outline)) (escaped_is_text (outline_words f.outline))))

-- ---- the picture

mark_content : (m : Mark) → IsContent (mark_text m)
mark_content m =
    element_content (codes "path") _ [] (codes "id" ∷ codes "d" ∷ []) refl
    (pair (codes "id") (codes "d") _ _ refl (escaped_attribute (codes "id") (mark_name m) refl) (escaped_attribute (codes "d") (mark_steps m) refl))
    form.IsContent.ended

group_content : (g : Group) → IsContent (group_text g)
unfolding group_text group_opening
group_content g =
    line_ended (element_text (codes "g") (group_attributes g) (group_inside g))
    (element_content (codes "g") (group_attributes g) (group_inside g) (codes "class" ∷ codes "id" ∷ []) refl
    (pair (codes "class") (codes "id") _ _ refl (escaped_attribute (codes "class") (codes "rec") refl) (escaped_attribute (codes "id") (group_name g.number) refl))
    (content_joined (hint_text g.hint.items) (flat_map figure_text g.figures.items) (hint_content g.hint.items) (each_content figure_text figure_content g.figures.items)))

style_content : (style : List ℕ) → IsContent (style_text style)
style_content style = element_content (codes "style") [] (escaped style) [] refl form.AreAttributes.ended (text_content (escaped style) (escaped_is_text style))

marks_content : IsContent marks_text
marks_content = element_content (codes "defs") [] (flat_map mark_text all_marks) [] refl form.AreAttributes.ended (each_content mark_text mark_content all_marks)

head_content : (style : List ℕ) → IsContent (head_text style)
head_content style = line_ended (style_text style ++ marks_text) (content_joined (style_text style) marks_text (style_content style) marks_content)

svg_holds : (d : Drawing) → AreAttributes (codes "xmlns" ∷ codes "fill" ∷ codes "width" ∷ codes "height" ∷ []) (svg_attributes d)
svg_holds d =
    attributes_joined (codes "xmlns" ∷ codes "fill" ∷ codes "width" ∷ []) (codes "height" ∷ []) _ _ refl
    (attributes_joined (codes "xmlns" ∷ codes "fill" ∷ []) (codes "width" ∷ []) _ _ refl
    (pair (codes "xmlns") (codes "fill") _ _ refl (escaped_attribute (codes "xmlns") namespace refl) (escaped_attribute (codes "fill") (codes "none") refl))
    (number (codes "width") d.width refl)) (number (codes "height") d.height refl)

drawings_are_documents : (d : Drawing) → IsDocument (svg_text d)
drawings_are_documents d = record {
  tag = codes "svg";
  attributes = svg_attributes d;
  names = codes "xmlns" ∷ codes "fill" ∷ codes "width" ∷ codes "height" ∷ [];
  inside = svg_inside d;
  named = refl;
  have_values = svg_holds d;
  closed =
      content_joined (head_text d.style.items ++ flat_map figure_text d.figures.items) (flat_map group_text d.groups.items)
      (content_joined (head_text d.style.items) (flat_map figure_text d.figures.items) (head_content d.style.items) (each_content figure_text figure_content d.figures.items))
      (each_content group_text group_content d.groups.items);
  parts = refl;
}

pub printed_is_document : (d : Drawing) (text : List ℕ) → text ≡ svg_text d → IsDocument text
printed_is_document d text is = subst IsDocument (sym is) (drawings_are_documents d)

-- ---- what is put between an opening and its closing

pub within_marks : (old opening inside new marks : List ℕ) → opening ≡ old ++ codes "<defs>" → inside ≡ opening ++ marks → new ≡ inside ++ codes "</defs>" → new ≡ old ++ element_text (codes "defs") [] marks
within_marks old opening inside new marks first more last =
    last ∙ ap (λ t. t ++ codes "</defs>") (more ∙ ap (λ t. t ++ marks) first ∙ append_assoc old (codes "<defs>") marks) ∙ append_assoc old (codes "<defs>" ++ marks) (codes "</defs>")
