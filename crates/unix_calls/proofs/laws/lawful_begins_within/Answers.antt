use Rattle.unix_calls.proofs.LawfulLaws.{lawful_begins_within}
use Rattle.unix_calls.proofs.laws.lawful_begins_within.Goals as goal

pub returns : goal.returns
returns c = lawful_begins_within
