use Rattle.std.proofs.Common.{◌≡◌, drop}
use Rattle.unix_calls.specs.Domains.{begins_domain}
use Rattle.cluster_steps.proofs.receivers.begins_domain.Given as goal

abbrev pub invariant-loop-root : goal.invariant-loop-root
invariant-loop-root l = begins_domain (drop l.root-index l.roots) l.path ≡ begins_domain l.roots l.path
