use Rattle.std.proofs.Common.{◌≡◌, Some, subst}
use Rattle.process_machine.specs.Runs.{ahead, EndsBy}
use Rattle.client_moves.proofs.PageLaws.{wants_none, wants_page}
use Rattle.client_moves.proofs.paging.named_by.Goals as goal

pub returns-in-PageNeeded : goal.returns-in-PageNeeded
returns-in-PageNeeded c =
    wants_page c.args.program.now c.args.image.now c.burst.new.image c.burst.result.0 c.in-PageNeeded.page
    (subst (λ m. ahead c.args.program.now m c.burst.result.0 ≡ Some c.burst.new.image) c.in_ok-copy.ensures c.burst.ensures.moved)
    (subst (EndsBy c.args.program.now c.burst.new.image c.burst.result.0 1) c.in-PageNeeded.is c.burst.ensures.why)

pub returns-in-Call : goal.returns-in-Call
returns-in-Call c =
    wants_none c.args.program.now c.args.image.now c.burst.new.image c.burst.result.0
    (subst (λ m. ahead c.args.program.now m c.burst.result.0 ≡ Some c.burst.new.image) c.in_ok-copy.ensures c.burst.ensures.moved)
    (subst (EndsBy c.args.program.now c.burst.new.image c.burst.result.0 1) c.in-Call.is c.burst.ensures.why)
