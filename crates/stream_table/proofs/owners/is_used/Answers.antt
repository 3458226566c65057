use Rattle.std.proofs.Common.{Some, None, sym, ap, ◌∙◌}
use Rattle.stream_table.specs.Owners.{is_used}
use Rattle.stream_table.proofs.MapLaws.{numbers_found}
use Rattle.stream_table.proofs.owners.is_used.Goals as goal

pub returns-in-Some : goal.returns-in-Some
returns-in-Some c = c.is_used.ensures ∙ sym (ap is_used (numbers_found c.args.owners.now.entries c.args.pid (Some c.in-Some.descriptors.now) c.in-Some.ensures.value))

pub returns-in-None : goal.returns-in-None
returns-in-None c = sym (ap is_used (numbers_found c.args.owners.now.entries c.args.pid None c.in-None.ensures.value))
