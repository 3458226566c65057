use Rattle.std.proofs.Common.{◌≡◌, drop}
use Rattle.file_views.specs.Clients.{first_absent}
use Rattle.file_coherence.proofs.clients.first_absent.Given as goal

abbrev pub invariant-loop-number : goal.invariant-loop-number
invariant-loop-number l = first_absent l.limits l.client (drop l.number-index l.numbers) ≡ first_absent l.limits l.client l.numbers
