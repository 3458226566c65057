use Rattle.std.proofs.Common.{Some, None, sym, ap, ◌∙◌, position}
use Rattle.stream_table.specs.Owners.{is_free}
use Rattle.stream_table.proofs.MapLaws.{numbers_found}
use Rattle.stream_table.proofs.owners.lowest_free.Goals as goal

pub returns-in-Some-clause-first : goal.returns-in-Some-clause-first
returns-in-Some-clause-first c = c.lowest_free.ensures.first ∙ sym (ap (position is_free) (numbers_found c.args.owners.now.entries c.args.pid (Some c.in-Some.descriptors.now) c.in-Some.ensures.value))

pub returns-in-None-clause-first : goal.returns-in-None-clause-first
returns-in-None-clause-first c = sym (ap (position is_free) (numbers_found c.args.owners.now.entries c.args.pid None c.in-None.ensures.value))
