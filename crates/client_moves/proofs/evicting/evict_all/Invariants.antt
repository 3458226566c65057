use Rattle.std.proofs.Common.{◌≡◌, drop}
use Rattle.client_moves.specs.Evicting.{evicts_all}
use Rattle.client_moves.proofs.evicting.evict_all.Given as goal

abbrev pub invariant-loop-pid : goal.invariant-loop-pid
invariant-loop-pid l = evicts_all (drop l.pid-index l.pids) l.client ≡ evicts_all l.pids l.fn.client
