-- What kernels cache, and the calls that were done in a cache.
use Rattle.std.specs.Prelude.{◌≡◌, ℕ, zero, suc, ◌+◌, ◌-◌, ◌/◌, ◌==◌, Bool, true, false, ◌&&◌, not, if◌then◌else◌, List, Option, Some, None}
use Rattle.std.specs.List.{list_any}
use Rattle.std.specs.Option.{is_some}
use Rattle.sprite_ids.specs.declared.names.FileId.{FileId}
use Rattle.sprite_ids.specs.declared.caching.CacheMode.{CacheMode}
use Rattle.sprite_ids.specs.declared.caching.CacheMode.TheVariants as cache
use Rattle.unix_calls.specs.declared.description.Description.{Description}
use Rattle.unix_calls.specs.declared.event.About.{About}
use Rattle.unix_calls.specs.declared.event.Event.{Event}
use Rattle.unix_calls.specs.declared.event.Event.TheVariants as event
use Rattle.unix_calls.specs.declared.event.Rec.{Rec}
use Rattle.call_journal.specs.Past.{Past, past_of, some_record}
use Rattle.call_journal.specs.Matching.{same_file}
use Rattle.call_journal.specs.Files.{mode_of, holds_block}
use Rattle.call_journal.specs.CachedCalls.{is_between}
use Rattle.sharing_rules.specs.declared.entry_facts.LocalUse.{LocalUse}
use Rattle.trace_tables.specs.declared.CallAt.{CallAt}
use Rattle.trace_tables.specs.Calls.{has_call, same_call}
use Rattle.trace_rules.specs.declared.place.FileAt.{FileAt}
use Rattle.trace_rules.specs.Modes.{mode_at, mode_or, mode_behind}
use Rattle.sharing_rules.specs.declared.keys.HeldAt.{HeldAt}

-- the same block at the same kernel, and the same call
abbrev pub same_held : HeldAt → HeldAt → Bool
same_held a b = a.kernel == b.kernel && (same_file a.file b.file && a.block == b.block)

-- what is kept of a block and a call
abbrev pub has_held : List HeldAt → HeldAt → Bool
has_held held at = list_any (same_held at) held

-- whether the mode is on
abbrev pub is_on_or : Option CacheMode → Bool
is_on_or (Some cache.On) = true
is_on_or _ = false

abbrev pub is_on_in : List (FileAt × CacheMode) → FileAt → Bool
is_on_in modes at = is_on_or (mode_at modes at)

-- whether so many blocks from that one on are held
abbrev pub are_held_in : List HeldAt → ℕ → FileId → ℕ → ℕ → Bool
are_held_in held kernel file zero block = true
are_held_in held kernel file (suc count) block =
    has_held held (record { kernel = kernel; file = file; block = block }) && are_held_in held kernel file count (block + 1)

-- whether each block of a range is
abbrev pub is_range_held_in : List HeldAt → ℕ → LocalUse → Bool
is_range_held_in held kernel used =
    if used.length == 0
    then true
    else are_held_in held kernel used.file ((used.from + used.length - 1) / 4096 + 1 - used.from / 4096) (used.from / 4096)

-- a use, if it is one, finds the mode on and its blocks held
abbrev pub is_within_cache : List (FileAt × CacheMode) → List HeldAt → ℕ → Option LocalUse → Bool
is_within_cache modes held kernel None = true
is_within_cache modes held kernel (Some used) =
    is_on_in modes (record { kernel = kernel; file = used.file }) && is_range_held_in held kernel used

-- a packet goes for the sake of no call that was done in a cache
abbrev pub is_quiet_in : List CallAt → Option About → Bool
is_quiet_in quiet None = true
is_quiet_in quiet (Some about) = not (has_call quiet (record { pid = about.pid; number = about.number }))

-- a record keeps the rule
abbrev pub is_well_cached : List (FileAt × CacheMode) → List HeldAt → List CallAt → ℕ → Event → Option LocalUse → Bool
is_well_cached modes held quiet kernel (event.Enter entry) used = is_within_cache modes held kernel used
is_well_cached modes held quiet kernel (event.Send tx to about kind) used = is_quiet_in quiet about
is_well_cached modes held quiet kernel _ used = true

-- what is kept of a block and a call behind an event of a kernel
abbrev pub held_behind : ℕ → Event → HeldAt → Bool → Bool
held_behind kernel (event.Filled file block) at before =
    if same_held (record { kernel = kernel; file = file; block = block.0 }) at then true else before
held_behind kernel (event.Dropped file block cause) at before =
    if same_held (record { kernel = kernel; file = file; block = block.0 }) at then false else before
held_behind kernel _ at before = before

abbrev pub quiet_behind : Event → Option LocalUse → CallAt → Bool → Bool
quiet_behind (event.Enter entry) used at before =
    if is_some used && same_call (record { pid = entry.pid; number = entry.number }) at then true else before
quiet_behind (event.Return pid number reply) used at before =
    if same_call (record { pid = pid; number = number }) at then false else before
quiet_behind _ used at before = before

-- all that is kept, behind a record
pub record CachesOn (rec : Rec) (used : Option LocalUse) (modes : List (FileAt × CacheMode)) (held : List HeldAt) (quiet : List CallAt) (modes_after : List (FileAt × CacheMode)) (held_after : List HeldAt) (quiet_after : List CallAt) : Type 0 where
  pub modes_on : (at : FileAt) → mode_at modes_after at ≡ mode_behind rec.kernel rec.event at (mode_at modes at)
  pub held_on : (at : HeldAt) → has_held held_after at ≡ held_behind rec.kernel rec.event at (has_held held at)
  pub quiet_on : (at : CallAt) → has_call quiet_after at ≡ quiet_behind rec.event used at (has_call quiet at)

-- what is kept is what the records tell
pub record TellsCached (c : Description) (modes : List (FileAt × CacheMode)) (held : List HeldAt) (quiet : List CallAt) (past : Past) : Type 0 where
  pub all : past ≡ past_of c past.records
  pub modes_told : (at : FileAt) → mode_or (mode_at modes at) ≡ mode_of at.kernel at.file past.records
  pub held_told : (at : HeldAt) → has_held held at ≡ holds_block at.kernel at.file (record { 0 = at.block }) past.records
  pub quiet_told : (at : CallAt) → has_call quiet at ≡ some_record c (λ earlier r rest. is_between earlier r.kernel at.pid at.number r.event rest) past.records
