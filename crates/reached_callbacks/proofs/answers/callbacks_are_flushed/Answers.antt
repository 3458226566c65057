use Rattle.reached_callbacks.proofs.FlushedLaws.{callbacks_flushed}
use Rattle.reached_callbacks.proofs.answers.callbacks_are_flushed.Goals as goal

pub returns : goal.returns
returns g c = callbacks_flushed g.L.Link.faults g.L.Link.asked
