use Rattle.cluster_wire.proofs.ServerLaws.{apart_first}
use Rattle.cluster_wire.proofs.servers.+are_apart.Goals as goal

pub returns-then-not-has-clause-apart : goal.returns-then-not-has-clause-apart
returns-then-not-has-clause-apart t c =
    apart_first c.args.kernels.now c.first-item.result c.has.result c.are_apart.result c.in-len1-up.len_at_least c.first-item.is c.has.ensures c.if-not-has.true c.are_apart.ensures.apart
