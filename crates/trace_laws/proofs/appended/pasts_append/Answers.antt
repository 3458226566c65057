use Rattle.trace_laws.proofs.AppendLaws.{pasts_append}
use Rattle.trace_laws.proofs.appended.pasts_append.Goals as goal

pub returns : goal.returns
returns c = pasts_append
