-- What is told of each record tells whether it opens a file and truncates it.
use Rattle.std.proofs.Common.{◌≡◌, Bool, List, [], ◌∷◌, refl, ap}
use Rattle.unix_calls.specs.declared.description.Description.{Description}
use Rattle.unix_calls.specs.declared.event.Rec.{Rec}
use Rattle.call_journal.specs.Past.{Past, past_with}
use Rattle.sharing_rules.specs.Facts.{facts_at, facts_from}
use Rattle.write_sharing.specs.Cuts.{cuts_from}
use Rattle.trace_judge.specs.Cuts.{cuts_in}

pub cuts_told : (c : Description) (past : Past) (trace : List Rec) → cuts_in (facts_from c past trace) ≡ cuts_from c past trace
cuts_told c past [] = refl
cuts_told c past (rec ∷ rest) = ap (λ (cuts : List Bool). (facts_at c past rec).truncates ∷ cuts) (cuts_told c (past_with c rec past) rest)
