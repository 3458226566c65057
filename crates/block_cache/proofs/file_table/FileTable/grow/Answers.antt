use Rattle.std.proofs.Common.{sym, ap, ◌∙◌}
use Rattle.block_cache.specs.Files.{high_of}
use Rattle.block_cache.proofs.HighLaws.{high_grown}
use Rattle.block_cache.proofs.file_table.FileTable.grow.Goals as goal

pub invariant_of-self : goal.invariant_of-self
invariant_of-self c = c.self.invariant ∙ sym (ap high_of c.grow.ensures ∙ high_grown c.self.inside.states.entries c.args.file.now c.args.end)
