-- How long ago kernels made their blocks dirty, in steps of theirs.
use Rattle.std.specs.Prelude.{◌≡◌, ℕ, ◌+◌, ◌-◌, ◌==◌, Bool, true, false, if◌then◌else◌, List, nat_le, count_by, Option, Some, None}
use Rattle.std.specs.List.{list_any}
use Rattle.std.specs.Map.{lookup}
use Rattle.unix_calls.specs.declared.event.Event.{Event}
use Rattle.unix_calls.specs.declared.event.Event.TheVariants as event
use Rattle.unix_calls.specs.declared.event.Rec.{Rec}
use Rattle.call_journal.specs.Past.{since_last}
use Rattle.call_journal.specs.Matching.{is_at}
use Rattle.call_journal.specs.WriteBacks.{is_counted_step, is_dirtied}
use Rattle.trace_rules.specs.declared.place.BlockAt.{BlockAt}
use Rattle.trace_rules.specs.Places.{same_place}

-- the counted steps that are kept of a kernel; a kernel of which none are kept made none
abbrev pub steps_kept : List (ℕ × ℕ) → ℕ → Option ℕ
steps_kept steps kernel = lookup (λ other. kernel == other) steps

abbrev pub steps_or : Option ℕ → ℕ
steps_or None = 0
steps_or (Some count) = count

abbrev pub steps_at : List (ℕ × ℕ) → ℕ → ℕ
steps_at steps kernel = steps_or (steps_kept steps kernel)

-- how many steps its kernel had made where a block was last made dirty
abbrev pub dirtied_at : List (BlockAt × ℕ) → BlockAt → Option ℕ
dirtied_at dirtied at = lookup (same_place at) dirtied

-- thirty steps ago, or longer
abbrev pub is_aged : ℕ → Option ℕ → Bool
is_aged steps None = false
is_aged steps (Some before) = nat_le 30 (steps - before)

abbrev pub is_old_in : List (ℕ × ℕ) → List (BlockAt × ℕ) → BlockAt → Bool
is_old_in steps dirtied at = is_aged (steps_at steps at.kernel) (dirtied_at dirtied at)

-- what is kept of a kernel and of a block behind an event of a kernel that had made so many steps
abbrev pub steps_behind : ℕ → Event → ℕ → ℕ → Option ℕ → Option ℕ
steps_behind kernel (event.Burst pid many) other count before = if kernel == other then Some (count + 1) else before
steps_behind kernel (event.Deliver tx from reply about) other count before = if kernel == other then Some (count + 1) else before
steps_behind kernel (event.Expire tx last) other count before = if kernel == other then Some (count + 1) else before
steps_behind kernel _ other count before = before

abbrev pub dirtied_behind : ℕ → Event → BlockAt → ℕ → Option ℕ → Option ℕ
dirtied_behind kernel (event.Dirtied file block) at count before =
    if same_place (record { kernel = kernel; file = file; block = block }) at then Some count else before
dirtied_behind kernel _ at count before = before

-- what is kept behind a record
abbrev pub AgesOn : Rec → List (ℕ × ℕ) → List (BlockAt × ℕ) → List (ℕ × ℕ) → List (BlockAt × ℕ) → Type 0
AgesOn rec steps dirtied steps_after dirtied_after =
    ((kernel : ℕ) → steps_kept steps_after kernel ≡ steps_behind rec.kernel rec.event kernel (steps_at steps rec.kernel) (steps_kept steps kernel))
    × ((at : BlockAt) → dirtied_at dirtied_after at ≡ dirtied_behind rec.kernel rec.event at (steps_at steps rec.kernel) (dirtied_at dirtied at))

-- the steps of a kernel that are counted, and those of them behind the last place where a block was made dirty
abbrev pub counted : ℕ → List Rec → ℕ
counted kernel records = count_by (is_at kernel is_counted_step) records

abbrev pub counted_since : BlockAt → List Rec → ℕ
counted_since at records = counted at.kernel (since_last (is_at at.kernel (is_dirtied at.file at.block)) records)

abbrev pub was_dirtied : BlockAt → List Rec → Bool
was_dirtied at records = list_any (is_at at.kernel (is_dirtied at.file at.block)) records

-- what is kept of a block is what the records tell
abbrev pub Aged : BlockAt → List Rec → Option ℕ → Type 0
Aged at records None = was_dirtied at records ≡ false
Aged at records (Some before) = (was_dirtied at records ≡ true) × (before + counted_since at records ≡ counted at.kernel records)

pub record TellsAges (steps : List (ℕ × ℕ)) (dirtied : List (BlockAt × ℕ)) (records : List Rec) : Type 0 where
  pub steps_told : (kernel : ℕ) → steps_at steps kernel ≡ counted kernel records
  pub dirtied_told : (at : BlockAt) → Aged at records (dirtied_at dirtied at)
