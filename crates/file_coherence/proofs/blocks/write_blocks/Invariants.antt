use Rattle.std.proofs.Common.{◌≡◌, drop}
use Rattle.file_views.specs.Clients.{blocks_written}
use Rattle.file_coherence.proofs.blocks.write_blocks.Given as goal

abbrev pub invariant-loop-number : goal.invariant-loop-number
invariant-loop-number l = blocks_written l.limits l.blocks l.low l.bytes l.dirty (drop l.number-index l.numbers) ≡ blocks_written l.limits l.fn.blocks l.low l.bytes l.count l.numbers
