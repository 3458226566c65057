use Rattle.std.proofs.Common.{arith}
use Rattle.sprite_cluster.proofs.StepLaws.{begin_stays, counts_after, did_after}
use Rattle.sprite_cluster.proofs.stepped.ClusterStepped.begin_burst.Goals as goal

pub returns-clause-ok : goal.returns-clause-ok
returns-clause-ok g c = begin_stays g.L.Link.faults g.L.Link.asked c.args.kernel c.args.self.now c.begin_burst.new.self c.begin_burst.result (omega arith, omega arith) c.begin_burst.ensures.job c.begin_burst.ensures.state c.begin_burst.ensures.open c.begin_burst.ensures.description c.begin_burst.ensures.begun c.begin_burst.ensures.trace c.begin_burst.ensures.wire c.requires.holds

pub returns-clause-may_end : goal.returns-clause-may_end
returns-clause-may_end g c = did_after c.args.self.now.description c.begin_burst.new.self.description c.args.kernel c.args.self.now.state c.begin_burst.result c.begin_burst.ensures.description c.begin_burst.ensures.job

pub returns-clause-counts : goal.returns-clause-counts
returns-clause-counts g c = counts_after c.args.self.now.description c.args.kernel c.args.self.now.state c.begin_burst.new.self.state c.begin_burst.result c.begin_burst.ensures.job c.begin_burst.ensures.state
