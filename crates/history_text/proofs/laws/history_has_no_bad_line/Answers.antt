use Rattle.history_text.proofs.ListingLaws.{no_bad_line}
use Rattle.history_text.specs.Entries.{entry}
use Rattle.history_text.proofs.EntryLaws.{entry_is, no_entry_ends}
use Rattle.history_text.proofs.laws.history_has_no_bad_line.Goals as goal

pub returns : goal.returns
returns c = no_bad_line entry entry_is no_entry_ends
