use Rattle.std.proofs.Common.{IfOk, IfErr, ◌≡◌, ℕ, List, Bool, Ok, Some, subst}
use Rattle.program_text.specs.Names.{has}
use Rattle.program_text.specs.Labels.{defines}
use Rattle.program_text.specs.Readings.{judged, unread}
use Rattle.text_lines.specs.Lines.{lines_of}
use Rattle.program_text.specs.Programs.{IsBadAt}
use Rattle.program_text.proofs.NameLaws.{all_names}
use Rattle.program_text.proofs.assembly.read_text.Goals as goal

pub returns-clause-reading : goal.returns-clause-reading
returns-clause-reading c =
    let same_labels = all_names (has c.in_ok-defined.defined) (defines (lines_of c.args.text.now)) c.in_ok-defined.ensures in
    subst (λ (d : List ℕ → Bool). IfOk c.read_lines.result (λ reading. judged c.args.version d 0 (Some unread) (lines_of c.args.text.now) ≡ Ok reading)) same_labels c.read_lines.ensures.reading

pub returns-clause-bad : goal.returns-clause-bad
returns-clause-bad c =
    let same_labels = all_names (has c.in_ok-defined.defined) (defines (lines_of c.args.text.now)) c.in_ok-defined.ensures in
    subst (λ (d : List ℕ → Bool). IfErr c.read_lines.result (IsBadAt (judged c.args.version d 0 (Some unread) (lines_of c.args.text.now)))) same_labels c.read_lines.ensures.bad
