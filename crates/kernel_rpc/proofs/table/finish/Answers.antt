use Rattle.std.proofs.Common.{sym, ap, ◌∙◌}
use Rattle.std.specs.List.{remove}
use Rattle.kernel_rpc.specs.Table.{counts_of}
use Rattle.kernel_rpc.proofs.CountLaws.{counted_less}
use Rattle.kernel_rpc.proofs.table.finish.Goals as goal

pub returns-clause-counted : goal.returns-clause-counted
returns-clause-counted c =
    let table = c.args.table.now in
    c.remove-2.ensures.items ∙ ap (λ ns. remove ns c.args.at) c.requires.counted ∙ counted_less table.copies.items table.unfinished.items c.args.at ∙ ap (counts_of table.copies.items) (sym c.remove.ensures.items)
