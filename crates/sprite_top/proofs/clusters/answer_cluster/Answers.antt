use Rattle.sprite_top.proofs.KnownLaws.{known_of}
use Rattle.sprite_top.proofs.RunLaws.{causes_of}
use Rattle.sprite_top.proofs.clusters.answer_cluster.Goals as goal

pub judge_closed-answer-requires-clause-known : goal.judge_closed-answer-requires-clause-known
judge_closed-answer-requires-clause-known g c =
    known_of g.L.Link.faults g.L.Link.asked c.args.link c.run_cluster-closed.result.1 c.run_cluster-closed.result.0 c.in-Ok.closed c.in-Ok.is c.run_cluster-closed.ensures.over

pub judge_closed-answer-requires-clause-for_cause : goal.judge_closed-answer-requires-clause-for_cause
judge_closed-answer-requires-clause-for_cause g c =
    causes_of g.L.Link.faults g.L.Link.asked c.args.link c.run_cluster-closed.result.1 c.run_cluster-closed.result.0 c.in-Ok.closed c.in-Ok.is c.run_cluster-closed.ensures.over
