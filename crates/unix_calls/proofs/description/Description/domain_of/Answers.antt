use Rattle.std.proofs.Common.{◌<◌, ◌^◌, length}
use Rattle.sprite_ids.proofs.ListLaws.{get_within}
use Rattle.unix_calls.specs.Domains.{roots_of}
use Rattle.unix_calls.proofs.DomainLaws.{longest_of}
use Rattle.unix_calls.proofs.description.Description.domain_of.Goals as goal

pub returns-clause-longest : goal.returns-clause-longest
returns-clause-longest c =
    let place = rw c.as_slice.ensures at c.longest_place.ensures in
    λ (small : length (roots_of c.args.self.now.kernels) < 2 ^ 64). longest_of _ _ _ c.requires.root (place small)

pub returns-clause-there : goal.returns-clause-there
returns-clause-there c =
    let place = rw c.as_slice.ensures at c.longest_place.ensures in
    λ (small : length (roots_of c.args.self.now.kernels) < 2 ^ 64).
    let is = longest_of _ _ _ c.requires.root (place small) in
    get_within _ _ is.root is.there
