use Rattle.std.proofs.Common.{◌≡◌, drop}
use Rattle.unix_calls.specs.Domains.{begins_domain, roots_of}
use Rattle.unix_world.proofs.domains.begins_domain.Given as goal

abbrev pub invariant-loop-line : goal.invariant-loop-line
invariant-loop-line l = begins_domain (roots_of (drop l.line-index l.c.kernels)) l.path ≡ begins_domain (roots_of l.c.kernels) l.path
