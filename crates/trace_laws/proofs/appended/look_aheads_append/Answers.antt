use Rattle.trace_laws.proofs.AppendLaws.{look_aheads_append}
use Rattle.trace_laws.proofs.appended.look_aheads_append.Goals as goal

pub returns : goal.returns
returns c = look_aheads_append
