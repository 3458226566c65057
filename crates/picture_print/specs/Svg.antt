-- The text of a picture.
use Rattle.std.specs.Prelude.{codes, ℕ, ◌==◌, ◌||◌, nat_lt, Bool, true, false, if◌then◌else◌, List, [], ◌∷◌, ◌++◌}
use Rattle.std.specs.Fmt.{decimal}
use Rattle.std.specs.List.{flat_map}
use Rattle.picture_print.specs.declared.drawing.Drawing.{Drawing}
use Rattle.picture_print.specs.declared.drawing.Figure.{Figure}
use Rattle.picture_print.specs.declared.drawing.Group.{Group}
use Rattle.picture_print.specs.declared.drawing.Mark.{Mark}
use Rattle.picture_print.specs.declared.drawing.Mark.TheVariants as mark
use Rattle.picture_print.specs.declared.drawing.Outline.{Outline}
use Rattle.picture_print.specs.declared.drawing.Outline.TheVariants as outline
use Rattle.picture_print.specs.declared.drawing.Role.{Role}
use Rattle.picture_print.specs.declared.drawing.Role.TheVariants as role
use Rattle.picture_print.specs.declared.drawing.Subject.{Subject}
use Rattle.picture_print.specs.declared.drawing.Subject.TheVariants as subject

-- ---- bytes of texts

-- a byte as it stands in a text: a sign of the language by its entity, what isn't printed as a question mark
abbrev pub escape_of : ℕ → List ℕ
escape_of b =
    if nat_lt b 32 || nat_lt 126 b then 63 ∷ []
    else if b == 38 then codes "&amp;"
    else if b == 60 then codes "&lt;"
    else if b == 62 then codes "&gt;"
    else if b == 34 then codes "&quot;"
    else b ∷ []

abbrev pub escaped : List ℕ → List ℕ
escaped bytes = flat_map escape_of bytes

-- ---- elements

-- an attribute, with its value in quotes
abbrev pub attribute_text : List ℕ → List ℕ → List ℕ
attribute_text name value = codes " " ++ name ++ codes "=\"" ++ value ++ codes "\""

-- an element: its name and attributes, what is inside, and its name again
abbrev pub opened : List ℕ → List ℕ → List ℕ
opened tag attributes = codes "<" ++ tag ++ attributes ++ codes ">"

abbrev pub closed : List ℕ → List ℕ
closed tag = codes "</" ++ tag ++ codes ">"

abbrev pub element_text : List ℕ → List ℕ → List ℕ → List ℕ
element_text tag attributes inside = opened tag attributes ++ inside ++ closed tag

-- ---- marks

abbrev pub mark_link : Mark → List ℕ
mark_link mark.Burst = codes "#burst"
mark_link mark.Issue = codes "#issue"
mark_link mark.Return = codes "#return"
mark_link mark.Pause = codes "#pause"
mark_link mark.Entry = codes "#entry"
mark_link mark.Cross = codes "#cross"
mark_link mark.HeadRight = codes "#right"
mark_link mark.HeadLeft = codes "#left"
mark_link mark.Request = codes "#request"
mark_link mark.Reply = codes "#reply"
mark_link mark.Repeat = codes "#repeat"
mark_link mark.Band = codes "#band"
mark_link mark.Dot = codes "#dot"
mark_link mark.Stripe = codes "#stripe"

abbrev pub mark_name : Mark → List ℕ
mark_name mark.Burst = codes "burst"
mark_name mark.Issue = codes "issue"
mark_name mark.Return = codes "return"
mark_name mark.Pause = codes "pause"
mark_name mark.Entry = codes "entry"
mark_name mark.Cross = codes "cross"
mark_name mark.HeadRight = codes "right"
mark_name mark.HeadLeft = codes "left"
mark_name mark.Request = codes "request"
mark_name mark.Reply = codes "reply"
mark_name mark.Repeat = codes "repeat"
mark_name mark.Band = codes "band"
mark_name mark.Dot = codes "dot"
mark_name mark.Stripe = codes "stripe"

abbrev pub mark_steps : Mark → List ℕ
mark_steps mark.Burst = codes "M0 -5h8v10h-8z"
mark_steps mark.Issue = codes "M0 -5h8l-4 8z"
mark_steps mark.Return = codes "M0 5h8l-4 -8z"
mark_steps mark.Pause = codes "M0 -4h8v8h-8z"
mark_steps mark.Entry = codes "M8 -6l6 6l-6 6l-6 -6z"
mark_steps mark.Cross = codes "M-4 -4l8 8m-8 0l8 -8"
mark_steps mark.HeadRight = codes "M0 0l-7 -4v8z"
mark_steps mark.HeadLeft = codes "M0 0l7 -4v8z"
mark_steps mark.Request = codes "M0 0h18l-7 -4v8l7 -4"
mark_steps mark.Reply = codes "M0 0h11v-4l7 4l-7 4v-4"
mark_steps mark.Repeat = codes "M0 0h5m3 0h5m3 0h5"
mark_steps mark.Band = codes "M0 0h18"
mark_steps mark.Dot = codes "M1 0a3 3 0 1 0 6 0a3 3 0 1 0 -6 0"
mark_steps mark.Stripe = codes "M4 -7v14"

abbrev pub mark_text : Mark → List ℕ
mark_text m = element_text (codes "path") (attribute_text (codes "id") (escaped (mark_name m)) ++ attribute_text (codes "d") (escaped (mark_steps m))) []

abbrev pub all_marks : List Mark
all_marks =
    mark.Burst ∷ mark.Issue ∷ mark.Return ∷ mark.Pause ∷ mark.Entry ∷ mark.Cross ∷
    mark.HeadRight ∷ mark.HeadLeft ∷ mark.Request ∷ mark.Reply ∷ mark.Repeat ∷ mark.Band ∷ mark.Dot ∷ mark.Stripe ∷ []

-- ---- figures

abbrev pub class_of : Role → List ℕ
class_of role.Lane = codes "lane"
class_of role.Spine = codes "spine"
class_of role.Rule = codes "rule"
class_of role.Header = codes "header"
class_of role.CachingOn = codes "on"
class_of role.CachingOff = codes "off"
class_of role.Stay = codes "stay"
class_of role.Call = codes "call"
class_of role.Move = codes "move"
class_of role.Arrow = codes "arrow"
class_of role.Lost = codes "lost"
class_of role.Tie = codes "tie"
class_of role.Filled = codes "filled"
class_of role.Hollow = codes "hollow"
class_of role.Alarm = codes "alarm"
class_of role.Number = codes "number"
class_of role.Label = codes "label"
class_of role.Followed = codes "label bold"
class_of role.Entry = codes "entry"
class_of role.Bold = codes "bold"
class_of role.Plain = codes "plain"

abbrev pub colour_of : ℕ → List ℕ
colour_of place =
    if place == 0 then codes "#0072B2" else
    if place == 1 then codes "#D55E00" else
    if place == 2 then codes "#009E73" else
    if place == 3 then codes "#CC79A7" else
    if place == 4 then codes "#332288" else
    if place == 5 then codes "#56B4E9" else
    if place == 6 then codes "#882255" else
    codes "#222222"

abbrev pub tag_of : Outline → List ℕ
tag_of (outline.Box x y width height) = codes "rect"
tag_of (outline.Dot x y radius) = codes "circle"
tag_of (outline.Line steps) = codes "path"
tag_of (outline.Mark m x y) = codes "use"
tag_of (outline.Text x y words) = codes "text"

abbrev pub outline_words : Outline → List ℕ
outline_words (outline.Text x y words) = words.items
outline_words (outline.Box x y width height) = []
outline_words (outline.Dot x y radius) = []
outline_words (outline.Line steps) = []
outline_words (outline.Mark m x y) = []

-- an attribute with a number
abbrev pub number_text : List ℕ → ℕ → List ℕ
number_text name number = attribute_text name (escaped (decimal number))

abbrev pub outline_attributes : Outline → List ℕ
outline_attributes (outline.Box x y width height) = number_text (codes "x") x ++ number_text (codes "y") y ++ number_text (codes "width") width ++ number_text (codes "height") height
outline_attributes (outline.Dot x y radius) = number_text (codes "cx") x ++ number_text (codes "cy") y ++ number_text (codes "r") radius
outline_attributes (outline.Line steps) = attribute_text (codes "d") (escaped steps.items)
outline_attributes (outline.Mark m x y) = attribute_text (codes "href") (escaped (mark_link m)) ++ number_text (codes "x") x ++ number_text (codes "y") y
outline_attributes (outline.Text x y words) = number_text (codes "x") x ++ number_text (codes "y") y

abbrev pub flag_text : Bool → List ℕ
flag_text true = codes "1"
flag_text false = codes "0"

abbrev pub subject_attributes : Subject → List ℕ
subject_attributes subject.Nothing = []
subject_attributes (subject.Kernel number) = number_text (codes "data-kernel") number
subject_attributes (subject.Between first last repeated) =
    number_text (codes "data-from") first ++ number_text (codes "data-to") last ++ attribute_text (codes "data-repeated") (escaped (flag_text repeated))

-- a hint, where there is one
abbrev pub hint_text : List ℕ → List ℕ
hint_text [] = []
hint_text (b ∷ bs) = element_text (codes "title") [] (escaped (b ∷ bs))

abbrev pub figure_attributes : Figure → List ℕ
figure_attributes f = attribute_text (codes "class") (escaped (class_of f.role)) ++ attribute_text (codes "color") (escaped (colour_of f.colour)) ++ subject_attributes f.subject ++ outline_attributes f.outline

abbrev pub figure_text : Figure → List ℕ
figure_text f = element_text (tag_of f.outline) (figure_attributes f) (hint_text f.hint.items ++ escaped (outline_words f.outline))

-- ---- the picture

-- a record's group: its name, by its number, its hint and its figures
unfoldable pub group_name : ℕ → List ℕ
group_name number = codes "r" ++ decimal number

abbrev pub group_attributes : Group → List ℕ
group_attributes g = attribute_text (codes "class") (escaped (codes "rec")) ++ attribute_text (codes "id") (escaped (group_name g.number))

unfoldable pub group_opening : Group → List ℕ
group_opening g = opened (codes "g") (group_attributes g)

abbrev pub group_inside : Group → List ℕ
group_inside g = hint_text g.hint.items ++ flat_map figure_text g.figures.items

unfoldable pub group_text : Group → List ℕ
group_text g = group_opening g ++ group_inside g ++ closed (codes "g") ++ codes "\n"

-- the style sheet and the marks
abbrev pub style_text : List ℕ → List ℕ
style_text style = element_text (codes "style") [] (escaped style)

abbrev pub marks_text : List ℕ
marks_text = element_text (codes "defs") [] (flat_map mark_text all_marks)

abbrev pub head_text : List ℕ → List ℕ
head_text style = style_text style ++ marks_text ++ codes "\n"

abbrev pub namespace : List ℕ
namespace = codes "http://www.w3.org/2000/svg"

abbrev pub svg_attributes : Drawing → List ℕ
svg_attributes d =
    attribute_text (codes "xmlns") (escaped namespace) ++ attribute_text (codes "fill") (escaped (codes "none")) ++
    number_text (codes "width") d.width ++ number_text (codes "height") d.height

abbrev pub svg_inside : Drawing → List ℕ
svg_inside d = head_text d.style.items ++ flat_map figure_text d.figures.items ++ flat_map group_text d.groups.items

abbrev pub svg_text : Drawing → List ℕ
svg_text d = element_text (codes "svg") (svg_attributes d) (svg_inside d) ++ codes "\n"
