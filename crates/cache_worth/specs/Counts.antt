-- How often kernels move blocks, and how often they have a motive.
use Rattle.std.specs.Prelude.{◌≡◌, ℕ, ◌+◌, ◌*◌, ◌==◌, Bool, ◌&&◌, if◌then◌else◌, List, nat_le, count_by, Option, Some, None}
use Rattle.std.specs.List.{list_all}
use Rattle.std.specs.Map.{lookup}
use Rattle.sprite_ids.specs.Lists.{one_if}
use Rattle.unix_calls.specs.declared.event.Event.{Event}
use Rattle.unix_calls.specs.declared.event.Rec.{Rec}
use Rattle.call_journal.specs.Matching.{is_at, is_any_fetch}
use Rattle.call_journal.specs.WorthCaches.{is_any_filled, is_any_dirtied, is_motive}
use Rattle.cache_worth.specs.declared.counts.Counts.{Counts}

-- the counts that are kept of a kernel
abbrev pub counts_or : Option Counts → Counts
counts_or None = record { fetched = 0; filled = 0; dirtied = 0; motives = 0 }
counts_or (Some counts) = counts

abbrev pub counts_at : List (ℕ × Counts) → ℕ → Counts
counts_at counts kernel = counts_or (lookup (λ other. kernel == other) counts)

-- with one event more
abbrev pub one_more : Event → Counts → Counts
one_more event counts =
    record {
      fetched = counts.fetched + one_if (is_any_fetch event);
      filled = counts.filled + one_if (is_any_filled event);
      dirtied = counts.dirtied + one_if (is_any_dirtied event);
      motives = counts.motives + one_if (is_motive event);
    }

abbrev pub CountsOn : Rec → List (ℕ × Counts) → List (ℕ × Counts) → Type 0
CountsOn rec before after =
    (kernel : ℕ) → counts_at after kernel ≡ (if rec.kernel == kernel then one_more rec.event (counts_at before rec.kernel) else counts_at before kernel)

-- at most five for each motive
abbrev pub is_few : Counts → Bool
is_few counts = nat_le counts.fetched (5 * counts.motives) && nat_le counts.filled (5 * counts.motives) && nat_le counts.dirtied (5 * counts.motives)

-- at the kernels of all records
abbrev pub are_few_in : List (ℕ × Counts) → List Rec → Bool
are_few_in counts trace = list_all (λ (rec : Rec). is_few (counts_at counts rec.kernel)) trace

-- the counts of the records
abbrev pub told_counts : ℕ → List Rec → Counts
told_counts kernel records =
    record {
      fetched = count_by (is_at kernel is_any_fetch) records;
      filled = count_by (is_at kernel is_any_filled) records;
      dirtied = count_by (is_at kernel is_any_dirtied) records;
      motives = count_by (is_at kernel is_motive) records;
    }

abbrev pub TellsCounts : List (ℕ × Counts) → List Rec → Type 0
TellsCounts counts records = (kernel : ℕ) → counts_at counts kernel ≡ told_counts kernel records
