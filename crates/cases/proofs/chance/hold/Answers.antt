use Rattle.std.specs.Prelude.{is_ok}
use Rattle.cases.proofs.ChanceLaws.{held_more}
use Rattle.cases.proofs.chance.hold.Goals as goal

pub returns : goal.returns
returns c = λ d may all. held_more d c.args.held.now.items c.push.new.self.items c.args.burst (is_ok c.push.result) c.push.ensures.items may all
