use Rattle.std.proofs.Common.{◌≡◌, ◌++◌, drop}
use Rattle.client_data.specs.Sync.{dirty_of}
use Rattle.client_data.proofs.sync.dirty_of.Given as goal

abbrev pub invariant-loop-block : goal.invariant-loop-block
invariant-loop-block l = l.dirty ++ dirty_of l.file l.files (drop l.block-index l.blocks) ≡ dirty_of l.file l.files l.blocks
