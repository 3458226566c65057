use Rattle.std.proofs.Common.{ℕ, List, IfOk, subst}
use Rattle.sprite_top.specs.declared.top.Answer.{Answer}
use Rattle.sprite_top.specs.Top.{FileCauses}
use Rattle.frames_text.specs.Texts.{AreTold}
use Rattle.sprite_top.proofs.TopLaws.{from_file}
use Rattle.sprite_top.proofs.top.answer_run.Goals as goal

pub returns-in-Ok-clause-causes : goal.returns-in-Ok-clause-causes
returns-in-Ok-clause-causes g c = λ words asks.
    from_file (AreTold g.L.Link.faults g.L.Link.asked c.args.link c.answer_file.result.1) c.args.print words _ _ _ _ c.in-Ok.bytes.items c.answer_file.result.0 asks c.in-Ok.ensures.whole c.in-Ok.ensures.end c.in-Ok.ensures.short (subst (λ (came : List ℕ). IfOk c.answer_file.result.0 (λ (a : Answer). FileCauses c.args.print a.status came a.closed a.due)) c.as_slice.ensures.value c.answer_file.ensures.causes)
