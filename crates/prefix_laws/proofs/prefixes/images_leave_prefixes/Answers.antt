use Rattle.prefix_laws.proofs.LearnLaws.{images_leave}
use Rattle.prefix_laws.proofs.prefixes.images_leave_prefixes.Goals as goal

pub returns : goal.returns
returns c = images_leave
