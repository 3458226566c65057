use Rattle.std.proofs.Common.{◌≡◌, drop}
use Rattle.client_files.specs.Arrivals.{are_apart}
use Rattle.client_files.proofs.arrival.are_apart.Given as goal

abbrev pub invariant-loop-at : goal.invariant-loop-at
invariant-loop-at l = are_apart (drop l.at l.carried) ≡ are_apart l.carried
