use Rattle.std.proofs.Common.{◌≡◌, ◌+◌, ◌-◌}
use Rattle.block_cache.specs.Blocks.{missing_of}
use Rattle.block_cache.proofs.blocks.missing.Given as goal

abbrev pub invariant-loop-place : goal.invariant-loop-place
invariant-loop-place l = missing_of l.blocks.entries l.file (l.span.first + l.place) (l.span.count - l.place) ≡ missing_of l.blocks.entries l.file l.span.first l.span.count
