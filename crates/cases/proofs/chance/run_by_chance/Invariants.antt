use Rattle.std.specs.Prelude.{All}
use Rattle.sprite_cluster.specs.Logs.{Holds}
use Rattle.cases.specs.Jobs.{MayEnd}
use Rattle.cases.proofs.chance.run_by_chance.Given as goal

abbrev pub invariant-loop-turn : goal.invariant-loop-turn
invariant-loop-turn g l = record {
  holds : Holds g.L.Link.faults g.L.Link.asked l.cluster.description l.cluster.closed l.cluster.begun.value l.cluster.wire l.cluster.state l.cluster.trace;
  may_end : All (λ h. MayEnd l.cluster.description h.job) l.chance.held.items;
}
