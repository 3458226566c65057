use Rattle.std.proofs.Common.{◌∙◌, ◌++◌, ap, ap₂}
use Rattle.restart_text.specs.FileTexts.{end_line, outcomes_text}
use Rattle.restart_text.proofs.body.tell_played.Goals as goal

pub returns : goal.returns
returns c =
    c.in_ok-put_end.ensures
    ∙ ap₂ (λ a v. a ++ end_line v) (c.in_ok-told.ensures ∙ ap outcomes_text (c.as_slice.ensures ∙ c.in_ok-outcomes.ensures.told)) (c.view.ensures.view ∙ ap (λ s. s.view) c.in_ok-outcomes.ensures.state)
