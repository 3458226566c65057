use Rattle.history_text.proofs.ListingLaws.{one_bad_line}
use Rattle.history_text.specs.Entries.{entry}
use Rattle.history_text.proofs.EntryLaws.{entry_is}
use Rattle.history_text.proofs.laws.text_has_one_bad_line.Goals as goal

pub returns : goal.returns
returns c = one_bad_line entry entry_is
