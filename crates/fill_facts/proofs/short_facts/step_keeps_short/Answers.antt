use Rattle.fill_facts.proofs.Shorts.{step_keeps_short}
use Rattle.fill_facts.proofs.short_facts.step_keeps_short.Goals as goal

pub returns : goal.returns
returns c = step_keeps_short
