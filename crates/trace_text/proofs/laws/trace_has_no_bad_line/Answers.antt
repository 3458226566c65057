use Rattle.history_text.proofs.ListingLaws.{no_bad_line}
use Rattle.trace_text.specs.Traces.{record_format}
use Rattle.trace_text.proofs.EventLaws.{record_is, no_record_ends}
use Rattle.trace_text.proofs.laws.trace_has_no_bad_line.Goals as goal

pub returns : goal.returns
returns c = no_bad_line record_format record_is no_record_ends
