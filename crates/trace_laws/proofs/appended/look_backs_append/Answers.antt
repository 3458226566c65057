use Rattle.trace_laws.proofs.AppendLaws.{look_backs_append}
use Rattle.trace_laws.proofs.appended.look_backs_append.Goals as goal

pub returns : goal.returns
returns c = look_backs_append
