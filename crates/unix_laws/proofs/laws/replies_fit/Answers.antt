use Rattle.unix_laws.proofs.ReplyLaws.{replies_fit}
use Rattle.unix_laws.proofs.laws.replies_fit.Goals as goal

pub returns : goal.returns
returns c = replies_fit
