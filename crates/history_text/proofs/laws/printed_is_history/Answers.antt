use Rattle.history_text.proofs.ListingLaws.{printed_is}
use Rattle.history_text.specs.Entries.{entry}
use Rattle.history_text.proofs.laws.printed_is_history.Goals as goal

pub returns : goal.returns
returns c = printed_is entry
