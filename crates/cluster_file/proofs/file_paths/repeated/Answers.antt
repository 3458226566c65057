use Rattle.std.proofs.Common.{◌∙◌, sym}
use Rattle.cluster_file.proofs.TextLaws.{none_repeated}
use Rattle.cluster_file.proofs.file_paths.repeated.Goals as goal

pub returns-then-is_empty : goal.returns-then-is_empty
returns-then-is_empty c =
    c.new.ensures ∙ sym (none_repeated c.args.text.now c.args.times (sym c.is_empty.ensures ∙ c.if-is_empty.true))
