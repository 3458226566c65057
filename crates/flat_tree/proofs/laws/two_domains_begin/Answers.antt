use Rattle.std.proofs.Common.{refl}
use Rattle.flat_tree.proofs.laws.two_domains_begin.Goals as goal

pub returns : goal.returns
returns c = λ ties. record { root = refl; other = refl }
