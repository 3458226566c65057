-- What happened to blocks since the last place of a kind.
use Rattle.std.specs.Prelude.{◌≡◌, ℕ, ◌+◌, ◌-◌, Bool, true, false, ◌||◌, if◌then◌else◌, List, nat_le, count_by, Option, Some, None}
use Rattle.std.specs.List.{list_any}
use Rattle.std.specs.Map.{lookup}
use Rattle.unix_calls.specs.declared.event.Rec.{Rec}
use Rattle.call_journal.specs.Past.{since_last}
use Rattle.trace_rules.specs.declared.place.BlockAt.{BlockAt}
use Rattle.trace_rules.specs.declared.place.FileAt.{FileAt}
use Rattle.cache_worth.specs.declared.since.Since.{Since}
use Rattle.cache_worth.specs.declared.since.Step.{Step}
use Rattle.cache_worth.specs.declared.since.Step.TheVariants as step
use Rattle.trace_rules.specs.Places.{same_place, same_use, file_of, has_block}

-- ---- what is kept

-- a count that isn't kept is none
abbrev pub count_or : Option ℕ → ℕ
count_or None = 0
count_or (Some count) = count

-- how often it happened to a whole file, and how often where a block's last place stood
abbrev pub takes_kept : List (FileAt × ℕ) → FileAt → Option ℕ
takes_kept takes file = lookup (same_use file) takes

abbrev pub takes_at : List (FileAt × ℕ) → FileAt → ℕ
takes_at takes file = count_or (takes_kept takes file)

abbrev pub mark_kept : List (BlockAt × ℕ) → BlockAt → Option ℕ
mark_kept marks at = lookup (same_place at) marks

abbrev pub mark_at : List (BlockAt × ℕ) → BlockAt → ℕ
mark_at marks at = count_or (mark_kept marks at)

-- whether a block had such a place
abbrev pub is_kept : Option ℕ → Bool
is_kept None = false
is_kept (Some count) = true

abbrev pub has_begun : Since → BlockAt → Bool
has_begun since at = is_kept (mark_kept since.marks.entries at)

-- whether it happened to the block since
abbrev pub has_changed : Since → BlockAt → Bool
has_changed since at =
    has_block since.changed.keys at || nat_le 1 (takes_at since.takes.entries (file_of at) - mark_at since.marks.entries at)

-- ---- what is kept behind a step

abbrev pub takes_behind : Step → List (FileAt × ℕ) → FileAt → Option ℕ
takes_behind (step.Takes taken) takes file = if same_use taken file then Some (takes_at takes taken + 1) else takes_kept takes file
takes_behind _ takes file = takes_kept takes file

abbrev pub mark_behind : Step → List (FileAt × ℕ) → BlockAt → Option ℕ → Option ℕ
mark_behind (step.Begins begun) takes at before = if same_place begun at then Some (takes_at takes (file_of begun)) else before
mark_behind _ takes at before = before

abbrev pub changed_behind : Step → BlockAt → Bool → Bool
changed_behind (step.Begins begun) at before = if same_place begun at then false else before
changed_behind (step.Changes changed) at before = if same_place changed at then true else before
changed_behind _ at before = before

pub record StepsOn (taken : Step) (old new : Since) : Type 0 where
  pub takes : (file : FileAt) → takes_kept new.takes.entries file ≡ takes_behind taken old.takes.entries file
  pub marks : (at : BlockAt) → mark_kept new.marks.entries at ≡ mark_behind taken old.takes.entries at (mark_kept old.marks.entries at)
  pub changed : (at : BlockAt) → has_block new.changed.keys at ≡ changed_behind taken at (has_block old.changed.keys at)

-- ---- what the records tell

-- what a step does to a block
abbrev pub begins_at : Step → BlockAt → Bool
begins_at (step.Begins begun) at = same_place begun at
begins_at _ at = false

abbrev pub changes_at : Step → BlockAt → Bool
changes_at (step.Changes changed) at = same_place changed at
changes_at _ at = false

abbrev pub takes_in : Step → FileAt → Bool
takes_in (step.Takes taken) file = same_use taken file
takes_in _ file = false

-- three tests of records tell that step: it begins, happens to a block, happens to its file
pub record Reads (begins changes takes : BlockAt → Rec → Bool) (taken : Step) (rec : Rec) : Type 0 where
  pub begin : (at : BlockAt) → begins at rec ≡ begins_at taken at
  pub change : (at : BlockAt) → changes at rec ≡ changes_at taken at
  pub take : (at : BlockAt) → takes at rec ≡ takes_in taken (file_of at)

-- what is kept is what the records tell by these tests
pub record TellsSince (begins changes takes : BlockAt → Rec → Bool) (since : Since) (records : List Rec) : Type 0 where
  pub takes_told : (at : BlockAt) → takes_at since.takes.entries (file_of at) ≡ count_by (takes at) records
  pub marks_told :
      (at : BlockAt) → mark_at since.marks.entries at + count_by (takes at) (since_last (begins at) records) ≡ count_by (takes at) records
  pub begun_told : (at : BlockAt) → has_begun since at ≡ list_any (begins at) records
  pub changed_told : (at : BlockAt) → has_block since.changed.keys at ≡ list_any (changes at) (since_last (begins at) records)
