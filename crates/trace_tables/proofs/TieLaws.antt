-- What the calls of a trace's records go by, record by record.
use Rattle.std.proofs.Common.{◌≡◌, suc, List, [], ◌∷◌, length, refl, ap}
use Rattle.unix_calls.specs.declared.description.Description.{Description}
use Rattle.unix_calls.specs.declared.event.Rec.{Rec}
use Rattle.call_journal.specs.Past.{Past, past_with}
use Rattle.trace_tables.specs.Ties.{ties_from}

-- each record has its own
pub ties_count : (c : Description) (past : Past) (trace : List Rec) → length (ties_from c past trace) ≡ length trace
ties_count c past [] = refl
ties_count c past (rec ∷ rest) = ap suc (ties_count c (past_with c rec past) rest)
