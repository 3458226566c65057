use Rattle.std.proofs.Common.{◌==◌, ◌&&◌, not, sym, ap, ◌∙◌}
use Rattle.kernel_rpc.specs.Machine.{is_taken}
use Rattle.kernel_rpc.proofs.CountLaws.{due_there, not_zero}
use Rattle.kernel_rpc.proofs.queries.is_due.Goals as goal

pub returns-then-index-eq0 : goal.returns-then-index-eq0
returns-then-index-eq0 c =
    let none = due_there c.args.table.now.copies.items c.args.table.now.unfinished.items c.args.table.now.flying.items c.args.at c.index.result.now c.args.call.now c.requires.inside c.requires.counted c.requires.there c.index.ensures in
    ap not c.is_taken.ensures ∙ ap (λ b. b && not (is_taken c.args.call.now)) (sym (ap (λ n. n == 0) c.if-index-eq0.true) ∙ none)

pub returns-else-index-eq0 : goal.returns-else-index-eq0
returns-else-index-eq0 c =
    let none = due_there c.args.table.now.copies.items c.args.table.now.unfinished.items c.args.table.now.flying.items c.args.at c.index.result.now c.args.call.now c.requires.inside c.requires.counted c.requires.there c.index.ensures in
    let away = not_zero c.index.result.now c.if-index-eq0.false in away ∙ ap (λ b. b && not (is_taken c.args.call.now)) (sym away ∙ none)
