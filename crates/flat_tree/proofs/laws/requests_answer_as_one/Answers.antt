use Rattle.std.proofs.Common.{refl}
use Rattle.flat_tree.proofs.RunLaws.{all_as_one}
use Rattle.flat_tree.proofs.laws.requests_answer_as_one.Goals as goal

pub returns : goal.returns
returns c = λ ties u trees all one answered. all_as_one ties u.roots all u trees one refl answered
