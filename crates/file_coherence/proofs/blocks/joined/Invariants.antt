use Rattle.std.proofs.Common.{◌≡◌, ◌++◌, drop}
use Rattle.file_views.specs.Clients.{joined}
use Rattle.file_coherence.proofs.blocks.joined.Given as goal

abbrev pub invariant-loop-number : goal.invariant-loop-number
invariant-loop-number l = l.bytes ++ joined l.limits l.blocks (drop l.number-index l.numbers) ≡ joined l.limits l.blocks l.numbers
