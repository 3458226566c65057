use Rattle.unix_calls.proofs.DomainLaws.{domain_is_longest}
use Rattle.unix_calls.proofs.laws.domain_is_longest.Goals as goal

pub returns : goal.returns
returns c = domain_is_longest
