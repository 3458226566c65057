use Rattle.std.proofs.Common.{◌≡◌, drop}
use Rattle.client_devices.specs.Making.{ends_all}
use Rattle.client_devices.proofs.making.end_all.Given as goal

abbrev pub invariant-loop-ask : goal.invariant-loop-ask
invariant-loop-ask l = ends_all (drop l.ask-index l.asks) l.client ≡ ends_all l.asks l.fn.client
