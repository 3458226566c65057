use Rattle.fill_facts.proofs.Shorts.{image_keeps_short}
use Rattle.fill_facts.proofs.short_facts.image_keeps_short.Goals as goal

pub returns : goal.returns
returns c = image_keeps_short
