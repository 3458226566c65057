-- From what the records of a trace come to, to what a text comes to.
use Rattle.std.proofs.Common.{ℕ, List, Result, Ok, Err, IfOk}
use Rattle.sprite_ids.specs.declared.no_memory.NoMemory.{NoMemory}
use Rattle.unix_calls.specs.declared.description.Description.{Description}
use Rattle.unix_calls.specs.declared.event.Rec.{Rec}
use Rattle.cluster_file.specs.Clusters.{Describes}
use Rattle.trace_text.specs.Traces.{IsTrace}
use Rattle.trace_picture.specs.declared.asking.Asked.{Asked}
use Rattle.trace_picture.specs.declared.outcome.Outcome.{Outcome}
use Rattle.trace_picture.specs.declared.outcome.Outcome.TheVariants as outcome
use Rattle.trace_picture.specs.Outcomes.{FileComesTo, RecordsComeTo, TraceComesTo}

of_records : (asked : Asked) (trace : List ℕ) (records : List Rec) (o : Outcome) → IsTrace trace records → RecordsComeTo asked records o → TraceComesTo asked trace o
of_records asked trace records (outcome.Refused r) reads come = absurd come
of_records asked trace records (outcome.BadLine n) reads come = absurd come
of_records asked trace records (outcome.Few n) reads come = record { records = records; reads = reads; come_to = come }
of_records asked trace records (outcome.Many n) reads come = record { records = records; reads = reads; come_to = come }
of_records asked trace records (outcome.Drawn t) reads come = record { records = records; reads = reads; come_to = come }

-- what the records of a trace come to, the trace comes to
pub trace_comes : (asked : Asked) (trace : List ℕ) (records : List Rec) (r : Result Outcome NoMemory) → IsTrace trace records → IfOk r (RecordsComeTo asked records) → IfOk r (TraceComesTo asked trace)
trace_comes asked trace records (Ok o) reads come = of_records asked trace records o reads come
trace_comes asked trace records (Err e) reads come = come

of_trace : (asked : Asked) (file trace : List ℕ) (cluster : Description) (o : Outcome) → Describes file cluster → TraceComesTo asked trace o → FileComesTo asked file trace o
of_trace asked file trace cluster (outcome.Refused r) describes come = absurd come
of_trace asked file trace cluster (outcome.BadLine n) describes come = record { cluster = cluster; describes = describes; comes_to = come }
of_trace asked file trace cluster (outcome.Few n) describes come = record { cluster = cluster; describes = describes; comes_to = come }
of_trace asked file trace cluster (outcome.Many n) describes come = record { cluster = cluster; describes = describes; comes_to = come }
of_trace asked file trace cluster (outcome.Drawn t) describes come = record { cluster = cluster; describes = describes; comes_to = come }

-- what the trace of a described cluster comes to, the file and the trace come to
pub file_comes : (asked : Asked) (file trace : List ℕ) (cluster : Description) (r : Result Outcome NoMemory) → Describes file cluster → IfOk r (TraceComesTo asked trace) → IfOk r (FileComesTo asked file trace)
file_comes asked file trace cluster (Ok o) describes come = of_trace asked file trace cluster o describes come
file_comes asked file trace cluster (Err e) describes come = come
