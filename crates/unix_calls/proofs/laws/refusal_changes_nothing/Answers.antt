use Rattle.unix_calls.proofs.AfterLaws.{refusal_changes_nothing}
use Rattle.unix_calls.proofs.laws.refusal_changes_nothing.Goals as goal

pub returns : goal.returns
returns c = refusal_changes_nothing
