-- A text of steps of a file, and the text of what comes of them.
use Rattle.std.specs.Prelude.{codes, ℕ, List, [], ◌++◌, length, Result, Err}
use Rattle.std.specs.List.{flat_map}
use Rattle.std.specs.Fmt.{decimal}
use Rattle.text_lines.specs.Lines.{lines_of}
use Rattle.text_rows.specs.declared.line_error.LineError.{LineError}
use Rattle.text_rows.specs.Rows.{IsBadAt, by_head, come_to, rows_read}
use Rattle.history_text.specs.Texts.{text}
use Rattle.file_views.specs.declared.FileBody.{FileBody}
use Rattle.file_views.specs.declared.FileBody.TheVariants as form
use Rattle.file_views.specs.declared.FileStep.{FileStep}
use Rattle.file_views.specs.declared.FileStep.TheVariants as act
use Rattle.file_views.specs.declared.View.{View}
use Rattle.file_views.specs.Setting.{sprite_setting}
use Rattle.file_views.specs.Views.{new_view}
use Rattle.restart_views.specs.declared.Outcome.{Outcome}
use Rattle.restart_views.specs.declared.Outcome.TheVariants as came
use Rattle.restart_views.specs.declared.RestartStep.{RestartStep}
use Rattle.restart_views.specs.declared.Restarted.{Restarted}
use Rattle.restart_views.specs.Restarts.{all_restarted, all_told}
use Rattle.restart_text.specs.FileLines.{step_of, file_of}

-- the line of a reading that took effect; of other things none
abbrev pub value_of : FileBody → List ℕ
value_of (form.Value first second bytes) = bytes
value_of reply = []

abbrev pub entered_line : FileStep → FileBody → List ℕ
entered_line (act.Reading pid number kernel stream from many) reply = codes "read " ++ decimal kernel ++ codes " " ++ text.printed (value_of reply) ++ codes "\n"
entered_line step reply = []

abbrev pub outcome_line : Outcome → List ℕ
outcome_line (came.Event one) = entered_line one.step one.reply
outcome_line (came.Granted kernel version) = codes "claim " ++ decimal kernel ++ codes " granted " ++ decimal version ++ codes "\n"
outcome_line (came.Refused kernel own server) = codes "claim " ++ decimal kernel ++ codes " refused " ++ decimal own ++ codes " " ++ decimal server ++ codes "\n"

-- the last line: what the server has
abbrev pub end_numbers : View → List ℕ
end_numbers v = codes "end version " ++ decimal v.version ++ codes " size " ++ decimal (length v.bytes)

abbrev pub end_line : View → List ℕ
end_line v = end_numbers v ++ (codes " " ++ text.printed v.bytes ++ codes "\n")

abbrev pub outcomes_text : List Outcome → List ℕ
outcomes_text outcomes = flat_map outcome_line outcomes

-- the steps of the lines, of which the first has that number; or the number of the first that is none
abbrev pub steps_read : ℕ → ℕ → List (List ℕ) → Result (List RestartStep) ℕ
steps_read kernels number lines = rows_read (step_of kernels) number lines

-- what comes of steps on a new file
abbrev pub new_file : ℕ → List ℕ → Restarted
new_file kernels bytes = record { view = new_view kernels bytes; kept = [] }

abbrev pub played_text : Restarted → List RestartStep → List ℕ
played_text file steps = outcomes_text (all_told sprite_setting file steps) ++ end_line (all_restarted sprite_setting file steps).view

-- what comes of the steps of the lines behind the first, on a new file
abbrev pub played : ℕ × List ℕ → List (List ℕ) → Result (List ℕ) ℕ
played (kernels, bytes) lines = come_to (played_text (new_file kernels bytes)) (steps_read kernels 2 lines)

-- the text of what comes of a text of steps, or the number of its first line, counted from 1, that isn't of its form
abbrev pub file_text : List ℕ → Result (List ℕ) ℕ
file_text bytes = by_head file_of played (lines_of bytes)

-- why no text was given
abbrev pub TellsLine : List ℕ → LineError → Type 0
TellsLine bytes error = IsBadAt (file_text bytes) error
