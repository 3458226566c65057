use Rattle.std.proofs.Common.{None, sym, ap, ◌∙◌, slice_set}
use Rattle.stream_table.specs.Owners.{owners_in, numbers_of}
use Rattle.stream_table.proofs.MapLaws.{owner_gone}
use Rattle.stream_table.proofs.owners.release.Goals as goal

pub returns-then-not-clear : goal.returns-then-not-clear
returns-then-not-clear c =
    let numbers = slice_set (numbers_of (owners_in c.args.owners.now.entries) c.args.pid) c.args.fd None in
    ap owners_in c.shift_remove.ensures.entries ∙ owner_gone c.args.owners.now.entries c.clear.new.owners.entries c.args.pid numbers c.clear.ensures.owners c.requires.once (sym c.clear.ensures.used ∙ c.if-not-clear.true)
