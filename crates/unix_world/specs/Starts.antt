-- A part of the start that code has a function of its own for.
use Rattle.std.specs.Prelude.{ℕ, List, if◌then◌else◌}
use Rattle.unix_calls.specs.declared.description.FileLine.{FileLine}
use Rattle.unix_calls.specs.Boot.{Filed, bytes_at, with_file_line}

-- what a file line makes, of all of them; one that joins another's file makes none
abbrev pub with_line : List FileLine → ℕ → FileLine → Filed → Filed
with_line all place line f = if line.append then f else with_file_line place line.path (bytes_at all line.path) f
