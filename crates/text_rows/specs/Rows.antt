-- A text's rows, one a line, of which each is read with its line's number.
use Rattle.std.specs.Prelude.{◌≡◌, ℕ, ◌+◌, List, [], ◌∷◌, ◌++◌, Option, Some, None, Result, Ok, Err}
use Rattle.text_rows.specs.declared.line_error.LineError.{LineError}
use Rattle.text_rows.specs.declared.line_error.LineError.TheVariants.{Line, NoMemory}

-- a row before others, where each line was read
abbrev pub before_others : {T : Type 0} → T → Result (List T) ℕ → Result (List T) ℕ
before_others row (Ok rows) = Ok (row ∷ rows)
before_others row (Err line) = Err line

abbrev pub row_read : {T : Type 0} → ℕ → Option T → Result (List T) ℕ → Result (List T) ℕ
row_read number (Some row) others = before_others row others
row_read number None others = Err number

-- the rows of the lines, of which the first has that number; or the number of the first line that is none
abbrev pub rows_read : {T : Type 0} → (ℕ → List ℕ → Option T) → ℕ → List (List ℕ) → Result (List T) ℕ
rows_read read number [] = Ok []
rows_read read number (line ∷ lines) = row_read number (read number line) (rows_read read (number + 1) lines)

-- these rows, and then what was read
abbrev pub behind_rows : {T : Type 0} → List T → Result (List T) ℕ → Result (List T) ℕ
behind_rows rows (Ok more) = Ok (rows ++ more)
behind_rows rows (Err line) = Err line

-- what the rows come to, where each line was read
abbrev pub come_to : {T A : Type 0} → (List T → A) → Result (List T) ℕ → Result A ℕ
come_to told (Ok rows) = Ok (told rows)
come_to told (Err line) = Err line

-- what lines come to of which the first tells how the others are read; a first line that isn't of its form is line 1
abbrev pub behind_head : {H A : Type 0} → (H → List (List ℕ) → Result A ℕ) → Option H → List (List ℕ) → Result A ℕ
behind_head told (Some head) lines = told head lines
behind_head told None lines = Err 1

abbrev pub by_head : {H A : Type 0} → (List ℕ → Option H) → (H → List (List ℕ) → Result A ℕ) → List (List ℕ) → Result A ℕ
by_head head_of told [] = Err 1
by_head head_of told (first ∷ lines) = behind_head told (head_of first) lines

-- why lines were not read so
abbrev pub IsBadAt : {A : Type 0} → Result A ℕ → LineError → Type 0
IsBadAt read (Line number) = read ≡ Err number
IsBadAt read NoMemory = Unit {0}
