use Rattle.std.specs.Prelude.{drop}
use Rattle.unix_calls.specs.Domains.{roots_of}
use Rattle.unix_calls.proofs.DomainLaws.{Reached}
use Rattle.unix_calls.proofs.domains.longest_place.Given as goal

abbrev pub invariant-loop-line : goal.invariant-loop-line
invariant-loop-line l = Reached l.path (roots_of l.lines) (roots_of (drop l.line-index l.lines)) l.best l.place
