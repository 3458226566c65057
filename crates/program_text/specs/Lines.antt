-- What each line of a program is, by its own bytes.
use Rattle.std.specs.Prelude.{codes, ℕ, List, [], ◌∷◌, ◌==◌, ◌&&◌, Bool, false, Option, Some, None, if◌then◌else◌, nat_le}
use Rattle.std.specs.Option.{option_map, option_and_then}
use Rattle.process_machine.specs.declared.program.Text.{Text}
use Rattle.program_text.specs.declared.line.Line.{Line}
use Rattle.program_text.specs.declared.line.Line.TheVariants.{Blank, Label, Pages, Data, Code}
use Rattle.text_lines.specs.Lines.{number_of}
use Rattle.program_text.specs.Words.{same, words_of, skip_spaces, past_word}
use Rattle.program_text.specs.Quoted.{literal}
use Rattle.program_text.specs.Labels.{label_in}
use Rattle.program_text.specs.Steps.{step_of}

-- a line whose first word begins with `#` is a comment
abbrev pub is_comment : List ℕ → Bool
is_comment [] = false
is_comment (b ∷ bs) = b == 35

-- a line of one word, which defines a label
abbrev pub label_line : List ℕ → Option Line
label_line word = option_map Label (label_in word)

-- a number of pages, from 1 to 8
abbrev pub page_count : ℕ → Option ℕ
page_count n = if nat_le 1 n && nat_le n 8 then Some n else None

-- what stands behind `pages`
abbrev pub pages_of : List (List ℕ) → Option ℕ
pages_of [] = None
pages_of (word ∷ []) = option_and_then page_count (number_of word)
pages_of (word ∷ more ∷ words) = None

-- the bytes that a text in quotes wrote, where no word stands behind it
abbrev pub alone : List ℕ → List (List ℕ) → Option (List ℕ)
alone bytes [] = Some bytes
alone bytes (word ∷ words) = None

-- the bytes that a text in double quotes writes
abbrev pub quoted_of : List ℕ → Option (List ℕ)
quoted_of [] = None
quoted_of (b ∷ bs) =
    if b == 34 then option_and_then (λ read. alone read.0 (words_of read.1)) (literal false bs) else None

-- a text at an address
abbrev pub text_at : List ℕ → ℕ → Option Text
text_at quotes address = option_map (λ bytes. record { address = address; bytes = bytes }) (quoted_of quotes)

-- what stands behind `text`, of which the words are known: an address and a text in double quotes
abbrev pub text_by : List ℕ → List (List ℕ) → Option Text
text_by bytes [] = None
text_by bytes (word ∷ words) = option_and_then (text_at (skip_spaces (past_word bytes))) (number_of word)

-- what stands behind `text`
abbrev pub text_of : List ℕ → Option Text
text_of bytes = text_by bytes (words_of bytes)

-- a line that is a label or an instruction
abbrev pub label_or_step : ℕ → List ℕ → List (List ℕ) → Option Line
label_or_step version word [] = label_line word
label_or_step version word (more ∷ words) = option_map Code (step_of version word (more ∷ words))

-- what a line is by its words; a text in quotes is read from the bytes
abbrev pub line_by : ℕ → List ℕ → List (List ℕ) → Option Line
line_by version bytes [] = Some Blank
line_by version bytes (word ∷ words) =
    if is_comment word
    then Some Blank
    else (if same word (codes "text")
    then option_map Data (text_of (past_word bytes))
    else (if same word (codes "pages")
    then option_map Pages (pages_of words)
    else label_or_step version word words))

-- what a line is
abbrev pub line_of : ℕ → List ℕ → Option Line
line_of version bytes = line_by version bytes (words_of bytes)
