use Rattle.std.proofs.Common.{Some, sym, ap, ◌∙◌, slice_get}
use Rattle.stream_table.specs.Owners.{named}
use Rattle.stream_table.proofs.MapLaws.{numbers_found, no_owner}
use Rattle.stream_table.proofs.owners.descriptor.Goals as goal

pub returns-in-Some-clause-number : goal.returns-in-Some-clause-number
returns-in-Some-clause-number c = c.at.ensures.number ∙ sym (ap (λ ns. named (slice_get ns c.args.fd)) (numbers_found c.args.owners.now.entries c.args.pid (Some c.in-Some.descriptors.now) c.in-Some.ensures.value))

pub returns-in-None-clause-number : goal.returns-in-None-clause-number
returns-in-None-clause-number c = sym (no_owner c.args.owners.now.entries c.args.pid c.args.fd c.in-None.ensures.value)
