use Rattle.std.proofs.Common.{ne_eqb}
use Rattle.file_coherence.proofs.ListLaws.{stays_in_place}
use Rattle.file_coherence.proofs.views.put_call_at.Goals as goal

pub returns-else-at-new : goal.returns-else-at-new
returns-else-at-new c = λ d. stays_in_place c.args.calls.now c.args.at c.args.new.now _ d c.at.ensures (ne_eqb _ _ c.if-at-new.false)
