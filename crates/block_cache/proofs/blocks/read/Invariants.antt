use Rattle.std.proofs.Common.{◌≡◌}
use Rattle.block_cache.specs.Blocks.{parts}
use Rattle.block_cache.proofs.blocks.read.Given as goal

abbrev pub invariant-loop-place : goal.invariant-loop-place
invariant-loop-place l = l.bytes.items ≡ parts l.blocks.entries l.file l.from l.end l.span.first l.place
