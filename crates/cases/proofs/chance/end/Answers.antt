use Rattle.cases.proofs.ChanceLaws.{ended_same, held_still}
use Rattle.cases.proofs.chance.end.Goals as goal

pub end_burst-requires-clause-may_end : goal.end_burst-requires-clause-may_end
end_burst-requires-clause-may_end g c = (c.take_held-kernel.ensures c.args.cluster.now.description c.requires.may_end).0 c.run_job.result c.run_job.ensures

pub returns-clause-may_end : goal.returns-clause-may_end
returns-clause-may_end g c =
    held_still _ _ c.take_held-kernel.new.held.items (ended_same g.L.Link.faults g.L.Link.asked c.take_held-kernel.result.kernel c.args.cluster.now c.end_burst.new.self _ _ _ c.end_burst.result c.end_burst.ensures.taken c.end_burst.ensures.stale c.end_burst.ensures.err) (c.take_held-kernel.ensures c.args.cluster.now.description c.requires.may_end).1
