use Rattle.std.proofs.Common.{None, sym, ap, ◌∙◌, true≢false}
use Rattle.stream_table.specs.Owners.{owners_in}
use Rattle.stream_table.proofs.MapLaws.{owner_put, owner_known}
use Rattle.stream_table.proofs.owners.insert.Goals as goal

pub returns-clause-ok : goal.returns-clause-ok
returns-clause-ok c = ap owners_in c.in_ok-insert.ensures.entries ∙ owner_put c.args.owners.now.entries c.args.pid c.args.descriptors

pub returns-in_err-insert-clause-there : goal.returns-in_err-insert-clause-there
returns-in_err-insert-clause-there c =
    λ there. absurd (true≢false (sym there ∙ owner_known c.args.owners.now.entries c.args.pid None (sym c.in_err-insert.ensures.absent)))
