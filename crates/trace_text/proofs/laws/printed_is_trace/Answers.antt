use Rattle.history_text.proofs.ListingLaws.{printed_is}
use Rattle.trace_text.specs.Traces.{record_format}
use Rattle.trace_text.proofs.laws.printed_is_trace.Goals as goal

pub returns : goal.returns
returns c = printed_is record_format
