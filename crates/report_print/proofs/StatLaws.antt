-- The counts that a trace keeps are those of its records.
use Rattle.std.proofs.Common.{arith, ◌≡◌, ℕ, ◌<◌, List, refl, sym, ap, ap₂, ◌∙◌}
use Rattle.std.specs.Prelude.{◌++◌, slice_index}
use Rattle.unix_calls.specs.declared.Rec.{Rec}
use Rattle.call_journal.specs.Counts.{AreCounts}
use Rattle.call_journal.specs.Units.{count_of, units_of}
use Rattle.report_print.specs.declared.counting.Count.TheVariants as counts
use Rattle.report_print.specs.Stats.{block_stats, call_stats, grant_stats, place_stats, stat_line, stats_by, stats_of}

same_count : (trace : List Rec) (told : List ℕ) → AreCounts trace told → (kind : ℕ) → kind < 21 → slice_index told kind ≡ count_of kind trace
same_count trace told are kind low = are.each kind low

call_same : (trace : List Rec) (told : List ℕ) → AreCounts trace told → call_stats (slice_index told) ≡ call_stats (λ kind. count_of kind trace)
call_same trace told are = rw (same_count trace told are 0 (omega arith), same_count trace told are 1 (omega arith), same_count trace told are 2 (omega arith), same_count trace told are 3 (omega arith), same_count trace told are 4 (omega arith), same_count trace told are 5 (omega arith), same_count trace told are 6 (omega arith), same_count trace told are 7 (omega arith)) refl

grant_same : (trace : List Rec) (told : List ℕ) → AreCounts trace told → grant_stats (slice_index told) ≡ grant_stats (λ kind. count_of kind trace)
grant_same trace told are = rw (same_count trace told are 8 (omega arith), same_count trace told are 9 (omega arith), same_count trace told are 10 (omega arith)) refl

block_same : (trace : List Rec) (told : List ℕ) → AreCounts trace told → block_stats (slice_index told) ≡ block_stats (λ kind. count_of kind trace)
block_same trace told are = rw (same_count trace told are 11 (omega arith), same_count trace told are 12 (omega arith), same_count trace told are 13 (omega arith), same_count trace told are 14 (omega arith)) refl

place_same : (trace : List Rec) (told : List ℕ) → AreCounts trace told → place_stats (slice_index told) ≡ place_stats (λ kind. count_of kind trace)
place_same trace told are = rw (same_count trace told are 15 (omega arith), same_count trace told are 16 (omega arith), same_count trace told are 17 (omega arith), same_count trace told are 18 (omega arith), same_count trace told are 19 (omega arith), same_count trace told are 20 (omega arith)) refl

-- so what is printed of them is what is printed of the trace
pub are_stats : (trace : List Rec) (told : List ℕ) (units : ℕ) → AreCounts trace told → units ≡ units_of trace → stats_by (slice_index told) units ≡ stats_of trace
are_stats trace told units are is =
    ap₂ (λ one rest. one ++ rest) (ap₂ (λ one rest. one ++ rest) (ap₂ (λ one rest. one ++ rest) (ap₂ (λ one rest. one ++ rest) (call_same trace told are) (grant_same trace told are)) (block_same trace told are)) (place_same trace told are)) (ap (stat_line counts.Units) is)
