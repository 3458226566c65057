use Rattle.std.proofs.Common.{arith}
use Rattle.sprite_cluster.proofs.StepLaws.{step_adds}
use Rattle.sprite_cluster.proofs.stepped.ClusterStepped.step.Goals as goal

pub returns-clause-ok : goal.returns-clause-ok
returns-clause-ok g c = step_adds g.L.Link.faults g.L.Link.asked c.args.kernel c.args.choice c.args.self.now c.step.new.self c.step.result (omega arith, omega arith) c.step.ensures.ok c.step.ensures.open c.step.ensures.description c.step.ensures.begun c.requires.holds
