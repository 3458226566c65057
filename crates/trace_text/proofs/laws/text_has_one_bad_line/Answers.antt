use Rattle.history_text.proofs.ListingLaws.{one_bad_line}
use Rattle.trace_text.specs.Traces.{record_format}
use Rattle.trace_text.proofs.EventLaws.{record_is}
use Rattle.trace_text.proofs.laws.text_has_one_bad_line.Goals as goal

pub returns : goal.returns
returns c = one_bad_line record_format record_is
