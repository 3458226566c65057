use Rattle.std.proofs.Common.{◌≡◌, IfOk, subst}
use Rattle.restart_views.specs.declared.Restarted.{Restarted}
use Rattle.restart_text.specs.FileTexts.{played_text}
use Rattle.restart_text.proofs.body.played_text.Goals as goal

pub returns : goal.returns
returns c = subst (λ (f : Restarted). IfOk c.tell_played.result (λ told. told.items ≡ played_text f c.args.steps.now)) c.in_ok-file.ensures.state c.tell_played.ensures
