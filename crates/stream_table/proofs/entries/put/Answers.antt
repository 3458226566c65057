use Rattle.std.proofs.Common.{sym, ap, ◌∙◌, is_some, true≢false}
use Rattle.stream_table.specs.Entries.{entries_in}
use Rattle.stream_table.proofs.MapLaws.{entry_put, entry_listed}
use Rattle.stream_table.proofs.entries.put.Goals as goal

pub returns-clause-ok : goal.returns-clause-ok
returns-clause-ok c = ap entries_in c.in_ok-insert.ensures.entries ∙ entry_put c.args.entries.now.entries c.args.number.now c.args.known

pub returns-in_err-insert-clause-listed : goal.returns-in_err-insert-clause-listed
returns-in_err-insert-clause-listed c =
    λ there. absurd (true≢false (sym there ∙ entry_listed c.args.entries.now.entries c.args.number.now ∙ ap is_some c.in_err-insert.ensures.absent))
