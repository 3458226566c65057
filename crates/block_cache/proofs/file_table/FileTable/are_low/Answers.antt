use Rattle.std.proofs.Common.{◌==◌, ap, ◌∙◌}
use Rattle.std.specs.List.{list_all}
use Rattle.std.specs.Map.{values_of}
use Rattle.block_cache.specs.Files.{Files, is_low}
use Rattle.block_cache.proofs.HighLaws.{none_high}
use Rattle.block_cache.proofs.file_table.FileTable.are_low.Goals as goal

pub returns : goal.returns
returns c = ap (λ n. n == 0) c.self.invariant ∙ none_high c.self.inside.states.entries ∙ ap (λ (files : Files). list_all is_low (values_of files)) c.self.view_is
