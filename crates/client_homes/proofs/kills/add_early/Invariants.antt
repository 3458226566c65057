use Rattle.std.proofs.Common.{◌≡◌, drop}
use Rattle.client_homes.specs.Kills.{adds_early}
use Rattle.client_homes.proofs.kills.add_early.Given as goal

abbrev pub invariant-loop-fork : goal.invariant-loop-fork
invariant-loop-fork l = adds_early l.pid (drop l.fork-index l.forks) l.early ≡ adds_early l.pid l.forks l.fn.early
