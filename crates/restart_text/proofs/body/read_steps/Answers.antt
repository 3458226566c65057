use Rattle.std.proofs.Common.{◌≡◌, ◌∙◌, List, sym, subst}
use Rattle.text_lines.specs.Lines.{lines_of}
use Rattle.text_rows.specs.Rows.{behind_rows}
use Rattle.text_rows.proofs.RowLaws.{rows_go}
use Rattle.restart_views.specs.declared.RestartStep.{RestartStep}
use Rattle.restart_text.specs.FileLines.{step_of}
use Rattle.restart_text.specs.FileTexts.{steps_read}
use Rattle.restart_text.proofs.body.read_steps.Goals as goal

pub loop-rest-preserved : goal.loop-rest-preserved
loop-rest-preserved c =
    let line = c.first_line.result.0.now in
    let behind = c.first_line.result.1.now in
    let all = steps_read c.args.kernels 2 (lines_of c.args.text.now) in
    let went = rows_go (step_of c.args.kernels) c.loop-rest.number c.in-Some-checked_add.next c.loop-rest.steps.items c.in-Some.step line c.loop-rest.rest.now behind all c.first_line.ensures.lines (sym c.in_ok-step.ensures ∙ c.in-Some.is) c.in-Some-checked_add.ensures.1 c.loop-rest.invariant in
    subst (λ (ss : List RestartStep). behind_rows ss (steps_read c.args.kernels c.in-Some-checked_add.next (lines_of behind)) ≡ all) (sym c.in_ok-push.ensures.items) went
