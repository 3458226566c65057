use Rattle.fill_facts.proofs.Shorts.{begins_short}
use Rattle.fill_facts.proofs.short_facts.begins_short.Goals as goal

pub returns : goal.returns
returns c = begins_short
