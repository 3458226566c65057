use Rattle.std.proofs.Common.{◌∙◌, sym, subst}
use Rattle.unix_calls.specs.Lawful.{Lawful}
use Rattle.sprite_cluster.proofs.StepLaws.{finish_stays, may_move, running_short}
use Rattle.sprite_cluster.proofs.stepped.ClusterStepped.finish.Goals as goal

pub returns-clause-bounded : goal.returns-clause-bounded
returns-clause-bounded g c = λ running. running_short c.finish.new.self.closed c.finish.new.self.description c.finish.new.self.trace c.finish.new.self.wire.machine c.finish.new.self.state (subst Lawful (sym c.finish.ensures.description) c.requires.lawful) (sym c.finish.ensures.stands ∙ running)

pub returns-clause-moves : goal.returns-clause-moves
returns-clause-moves g c = λ running none. may_move c.finish.new.self.closed c.finish.new.self.description c.finish.new.self.trace c.finish.new.self.wire.machine c.finish.new.self.state (sym c.finish.ensures.stands ∙ running) none

pub returns-clause-stays : goal.returns-clause-stays
returns-clause-stays g c = finish_stays g.L.Link.faults g.L.Link.asked c.args.self.now c.finish.new.self c.finish.ensures.description c.finish.ensures.begun c.finish.ensures.trace c.finish.ensures.open c.requires
