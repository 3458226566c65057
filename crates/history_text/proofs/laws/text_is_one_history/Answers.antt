use Rattle.history_text.proofs.ListingLaws.{one_listing}
use Rattle.history_text.specs.Entries.{entry}
use Rattle.history_text.proofs.EntryLaws.{entry_is, no_entry_ends}
use Rattle.history_text.proofs.laws.text_is_one_history.Goals as goal

pub returns : goal.returns
returns c = one_listing entry entry_is no_entry_ends
