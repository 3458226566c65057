use Rattle.std.proofs.Common.{◌≡◌, drop, fold, option_map}
use Rattle.prefix_table.specs.Prefixes.{better, longest}
use Rattle.prefix_table.proofs.prefixes.longest.Given as goal

abbrev pub invariant-loop-domain : goal.invariant-loop-domain
invariant-loop-domain l =
    fold (better l.path) (option_map (λ found. found.now) l.best) (drop l.domain-index l.domains) ≡ longest l.domains l.path
