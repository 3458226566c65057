-- The lines of a program in order, each judged by what stands before it.
use Rattle.std.specs.Prelude.{ℕ, List, [], ◌∷◌, ◌++◌, ◌+◌, ◌*◌, ◌&&◌, ◌||◌, Bool, true, Result, Ok, Err, Option, Some, None, if◌then◌else◌, nat_le, nat_lt, length}
use Rattle.std.specs.Option.{is_some, option_and_then}
use Rattle.std.specs.Map.{lookup}
use Rattle.process_machine.specs.declared.program.Text.{Text}
use Rattle.program_text.specs.declared.line.Line.{Line}
use Rattle.program_text.specs.declared.line.Line.TheVariants as line
use Rattle.program_text.specs.declared.step.Step.{Step}
use Rattle.program_text.specs.declared.step.Step.TheVariants.{Plain, ToLabel}
use Rattle.program_text.specs.declared.reading.Reading.{Reading}
use Rattle.program_text.specs.Words.{same}
use Rattle.program_text.specs.Lines.{line_of}

-- the place of the label of a name, among those that were defined, each with its place
abbrev pub place_of : List (List ℕ × ℕ) → List ℕ → Option ℕ
place_of labels name = lookup (same name) labels

-- how many bytes the pages have; one page where no line gives their number
abbrev pub bytes_of : Option ℕ → ℕ
bytes_of None = 4096
bytes_of (Some pages) = pages * 4096

-- whether a text ends inside so many bytes
abbrev pub is_inside : Text → ℕ → Bool
is_inside text bytes = nat_le (text.address + length text.bytes) bytes

-- whether the label that the step uses, if it uses one, is one of those that are defined
abbrev pub aims : (List ℕ → Bool) → Step → Bool
aims defined (Plain instruction) = true
aims defined (ToLabel jump label) = defined label

-- one more label, which no line before defines; its place is the number of instructions before it
abbrev pub with_label : Reading → List ℕ → Option Reading
with_label r name =
    if is_some (place_of r.labels name)
    then None
    else Some (record r { labels = r.labels ++ (name, length r.steps) ∷ [] })

-- the number of pages, once at most and before all texts
abbrev pub with_pages : Reading → ℕ → Option Reading
with_pages r pages = if is_some r.pages || nat_lt 0 (length r.texts) then None else Some (record r { pages = Some pages })

-- one more text, of at most 64, which lies inside the pages
abbrev pub with_text : Reading → Text → Option Reading
with_text r text =
    if nat_lt (length r.texts) 64 && is_inside text (bytes_of r.pages)
    then Some (record r { texts = r.texts ++ text ∷ [] })
    else None

-- one more instruction, of at most 512, whose label is defined somewhere
abbrev pub with_step : (List ℕ → Bool) → Reading → Step → Option Reading
with_step defined r step =
    if nat_lt (length r.steps) 512 && aims defined step then Some (record r { steps = r.steps ++ step ∷ [] }) else None

-- what was read with one more line; none where the line may not stand there. `defined` tells the labels of the whole text
abbrev pub with_line : (List ℕ → Bool) → Reading → Line → Option Reading
with_line defined r line.Blank = Some r
with_line defined r (line.Label name) = with_label r name
with_line defined r (line.Pages pages) = with_pages r pages
with_line defined r (line.Data text) = with_text r text
with_line defined r (line.Code step) = with_step defined r step

-- the lines one after another, behind n lines that gave a reading; the first bad line's number from 1, where one is bad
abbrev pub judged : ℕ → (List ℕ → Bool) → ℕ → Option Reading → List (List ℕ) → Result Reading ℕ
judged version defined n None lines = Err n
judged version defined n (Some r) [] = Ok r
judged version defined n (Some r) (line ∷ lines) =
    judged version defined (n + 1) (option_and_then (with_line defined r) (line_of version line)) lines

-- before the first line
abbrev pub unread : Reading
unread = record { pages = None; texts = []; steps = []; labels = [] }
