use Rattle.std.proofs.Common.{Some, None, sym, ◌∙◌}
use Rattle.stream_table.proofs.MapLaws.{numbers_found}
use Rattle.stream_table.proofs.owners.descriptors_of.Goals as goal

pub returns-in-Some : goal.returns-in-Some
returns-in-Some c = sym (numbers_found c.args.owners.now.entries c.args.pid (Some c.in-Some.descriptors.now) c.in-Some.ensures.value)

pub returns-in-None : goal.returns-in-None
returns-in-None c = c.none.ensures ∙ sym (numbers_found c.args.owners.now.entries c.args.pid None c.in-None.ensures.value)
