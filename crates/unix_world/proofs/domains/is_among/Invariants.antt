use Rattle.std.proofs.Common.{◌≡◌, drop}
use Rattle.unix_calls.specs.Domains.{begins_domain}
use Rattle.unix_world.proofs.domains.is_among.Given as goal

abbrev pub invariant-loop-other : goal.invariant-loop-other
invariant-loop-other l = begins_domain (drop l.other-index l.paths) l.path ≡ begins_domain l.paths l.path
