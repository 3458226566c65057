use Rattle.cases.proofs.ChanceLaws.{held_less}
use Rattle.cases.proofs.chance.take_held.Goals as goal

pub returns : goal.returns
returns c = λ d all. held_less d c.args.held.now.items c.swap_remove.new.self.items c.args.place c.swap_remove.result c.requires c.swap_remove.ensures.value c.swap_remove.ensures.items all
