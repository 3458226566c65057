-- What the program promises: why each of its statuses comes, and what is written with it.
use Rattle.std.specs.Prelude.{codes, ◌≡◌, ℕ, List, ◌++◌, Option, Some, None}
use Rattle.std.specs.Fmt.{decimal}
use Rattle.std.specs.Io.KnownBytes.{Consumes, IsAtEnd}
use Rattle.sprite_bytes.specs.Counts.{Rose}
use Rattle.sprite_bytes.specs.Ends.{CameOver}
use Rattle.report_print.specs.Refused.{refusal_line}
use Rattle.trace_picture.specs.declared.outcome.Outcome.{Outcome}
use Rattle.trace_picture.specs.declared.outcome.Outcome.TheVariants as outcome
use Rattle.trace_picture.specs.declared.status.Status.{Status}
use Rattle.trace_picture.specs.declared.status.Status.TheVariants as status
use Rattle.trace_picture.specs.declared.asking.Asked.{Asked}
use Rattle.trace_picture.specs.Words.{asked_of}
use Rattle.trace_picture.specs.Outcomes.{ComesTo}

-- how many bytes may be read
abbrev pub most_bytes : ℕ
most_bytes = 268435456

abbrev pub usage_line : List ℕ
usage_line = codes "usage: trace_picture [FIRST LAST] [follow SERVER:NUMBER]\n"

abbrev pub fault_line : List ℕ
fault_line = codes "read fault\n"

abbrev pub too_long_line : List ℕ
too_long_line = codes "refused: more than 268435456 bytes\n"

abbrev pub numbered_line : List ℕ → ℕ → List ℕ
numbered_line words number = words ++ decimal number ++ codes "\n"

-- what is due for what a text came to: the picture, or a line that says why there is none
abbrev pub line_of : Outcome → List ℕ
line_of (outcome.Drawn text) = text.items
line_of (outcome.Refused refusal) = refusal_line refusal
line_of (outcome.BadLine number) = numbered_line (codes "refused: no record in line ") number
line_of (outcome.Few total) = numbered_line (codes "refused: none of the records 1 to ") total
line_of (outcome.Many count) = numbered_line (codes "refused: more than 20000 records, ") count

abbrev pub status_of : Outcome → Status
status_of (outcome.Drawn text) = status.Drawn
status_of _ = status.Refused

-- what a text comes to is due, with its status
pub record IsOfText (asked : Asked) (text : List ℕ) (status : Status) (due : List ℕ) : Type 0 where
  pub outcome : Outcome
  pub comes_to : ComesTo asked text outcome
  pub status_is : status ≡ status_of outcome
  pub line : due ≡ line_of outcome

-- the words ask for a picture, all that the source held was read, and what it comes to is due
pub record IsAnswered (status : Status) (words : List (List ℕ)) (left left_after : Option (List ℕ)) (due : List ℕ) : Type 0 where
  pub asked : Asked
  pub words_are : asked_of words ≡ Some asked
  pub came : List ℕ
  pub read : Consumes left left_after came
  pub ended : IsAtEnd left_after
  pub answers : IsOfText asked came status due

-- the source held too many bytes
pub record IsTooLong (left left_after : Option (List ℕ)) (due : List ℕ) : Type 0 where
  pub over : CameOver left left_after most_bytes
  pub line : due ≡ too_long_line

-- the words ask for nothing that there is, and nothing was read
pub record IsUsage (words : List (List ℕ)) (left left_after : Option (List ℕ)) (due : List ℕ) : Type 0 where
  pub words_are : asked_of words ≡ None
  pub nothing_read : left_after ≡ left
  pub line : due ≡ usage_line

-- the source failed
pub record IsReadFault (faults faults_after : ℕ) (due : List ℕ) : Type 0 where
  pub rose : Rose faults faults_after
  pub line : due ≡ fault_line

-- why a status comes, before anything is written
abbrev pub Causes : Status → List (List ℕ) → Option (List ℕ) → Option (List ℕ) → ℕ → ℕ → List ℕ → Type 0
Causes status.Drawn words left left_after faults faults_after due = IsAnswered status.Drawn words left left_after due
Causes status.Refused words left left_after faults faults_after due = IsAnswered status.Refused words left left_after due
Causes status.TooLong words left left_after faults faults_after due = IsTooLong left left_after due
Causes status.Usage words left left_after faults faults_after due = IsUsage words left left_after due
Causes status.ReadFault words left left_after faults faults_after due = IsReadFault faults faults_after due
Causes _ words left left_after faults faults_after due = ⊥
