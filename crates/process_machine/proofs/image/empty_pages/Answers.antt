use Rattle.std.proofs.Common.{◌∙◌, ap, Some}
use Rattle.process_machine.proofs.MemoryLaws.{copies_more}
use Rattle.process_machine.proofs.image.empty_pages.Goals as goal

pub loop-preserved : goal.loop-preserved
loop-preserved c =
    c.in_ok-push.ensures.ok ∙ copies_more _ _ _ _ c.loop.invariant (ap Some c.in_ok-page.ensures)
