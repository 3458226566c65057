use Rattle.std.proofs.Common.{ap, ◌∙◌}
use Rattle.server_kernel.specs.Listing.{keyed}
use Rattle.server_kernel.proofs.SortLaws.{insert_keyed}
use Rattle.server_kernel.proofs.listing.put_name.Goals as goal

pub returns : goal.returns
returns c = ap (keyed (λ name. name.items)) c.in_ok-insert.ensures.entries ∙ insert_keyed (λ name. name.items) c.args.sorted.now.entries c.args.name tt
