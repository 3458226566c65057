use Rattle.history_text.proofs.ListingLaws.{one_listing}
use Rattle.trace_text.specs.Traces.{record_format}
use Rattle.trace_text.proofs.EventLaws.{record_is, no_record_ends}
use Rattle.trace_text.proofs.laws.text_is_one_trace.Goals as goal

pub returns : goal.returns
returns c = one_listing record_format record_is no_record_ends
