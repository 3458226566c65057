-- Each record of a trace makes a stream of a file or none.
use Rattle.std.proofs.Common.{◌≡◌, ◌∙◌, ◌<◌, ℕ, suc, List, [], ◌∷◌, Option, Some, length, refl, ap, arith}
use Rattle.unix_calls.specs.declared.description.Description.{Description}
use Rattle.unix_calls.specs.declared.event.Rec.{Rec}
use Rattle.unix_calls.specs.declared.state.Stream.{Stream}
use Rattle.unix_calls.specs.State.{Unix}
use Rattle.unix_calls.specs.Boot.{boot_of}
use Rattle.call_journal.specs.Past.{state_by}
use Rattle.trace_forms.specs.Openings.{openings_from, openings_of}

openings_count : (c : Description) (u : Option Unix) (trace : List Rec) → length (openings_from c u trace) ≡ length trace
openings_count c u [] = refl
openings_count c u (rec ∷ rest) = ap suc (openings_count c (state_by c rec.event u) rest)

pub openings_reach : (c : Description) (openings : List (Option Stream)) (trace : List Rec) (place : ℕ) → openings ≡ openings_of c trace → place < length trace → place < length openings
openings_reach c openings trace place is short =
    let count : length openings ≡ length trace = ap length is ∙ openings_count c (Some (boot_of c)) trace in
    omega (arith, count, short)
