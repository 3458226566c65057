use Rattle.std.proofs.Common.{Some, None, sym}
use Rattle.stream_table.proofs.MapLaws.{holder_found}
use Rattle.stream_table.proofs.entries.holder_of.Goals as goal

pub returns-in-Some : goal.returns-in-Some
returns-in-Some c = sym (holder_found c.args.entries.now.entries c.args.number.now (Some c.in-Some.known.now) c.in-Some.ensures.value)

pub returns-in-None : goal.returns-in-None
returns-in-None c = sym (holder_found c.args.entries.now.entries c.args.number.now None c.in-None.ensures.value)
