use Rattle.cases.proofs.ChanceLaws.{begun_may, held_still}
use Rattle.cases.proofs.chance.begin.Goals as goal

pub returns-in-Ok-Some-clause-may_end : goal.returns-in-Ok-Some-clause-may_end
returns-in-Ok-Some-clause-may_end g c =
    c.hold.ensures c.begin_burst.new.self.description (begun_may c.begin_burst.new.self.description c.in-Ok-Some.field-0 c.in-Ok-Some.job c.in-Ok-Some.field-0-is c.in-Ok-Some.ensures.may_end) (held_still _ _ c.args.chance.now.held.items c.in-Ok-Some.ensures.ok.origin_stays c.requires.may_end)
