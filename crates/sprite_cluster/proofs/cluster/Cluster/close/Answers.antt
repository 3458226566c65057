use Rattle.sprite_cluster.proofs.WireLaws.{closed_tells}
use Rattle.sprite_cluster.proofs.cluster.Cluster.close.Goals as goal

pub returns-clause-wire : goal.returns-clause-wire
returns-clause-wire g c = closed_tells g.L.Link.faults g.L.Link.asked c.args.self.description c.args.self.closed c.args.self.begun.value c.into_link.result c.args.self.wire c.args.self.state c.args.self.trace c.requires c.into_link.ensures
