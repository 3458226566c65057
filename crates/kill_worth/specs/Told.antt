-- Kills that are told: what stands behind a place of a trace, kept from one record to the one before.
use Rattle.std.specs.Prelude.{◌≡◌, ℕ, ◌+◌, ◌≤◌, ◌==◌, Bool, true, ◌&&◌, if◌then◌else◌, List, [], ◌∷◌, ◌++◌, Option, Some, None}
use Rattle.std.specs.Map.{lookup}
use Rattle.unix_calls.specs.declared.description.Description.{Description}
use Rattle.unix_calls.specs.declared.event.About.{About}
use Rattle.unix_calls.specs.declared.event.Event.{Event}
use Rattle.unix_calls.specs.declared.event.Event.TheVariants as event
use Rattle.unix_calls.specs.declared.event.Rec.{Rec}
use Rattle.call_journal.specs.Past.{Past, each_record, holds, no_past, past_with}
use Rattle.call_journal.specs.WorthKills.{is_told, kills_well, killed_by}
use Rattle.kill_worth.specs.declared.keys.KillAt.{KillAt}
use Rattle.kill_worth.specs.declared.told.Told.{Told}
use Rattle.kill_worth.specs.Kills.{same_kill, kill_told}

-- ---- what the records tell

-- a kill is told by the records behind it, if there is one
abbrev pub is_paid : Option KillAt → List Rec → Bool
is_paid None rest = true
is_paid (Some kill) rest = is_told kill.home kill.to kill.pid kill.number rest

-- where the kills of a trace are to be told, record by record
abbrev pub kills_from : Description → Past → List Rec → List (Option KillAt)
kills_from c past [] = []
kills_from c past (rec ∷ rest) = kill_told past rec.event ∷ kills_from c (past_with c rec past) rest

abbrev pub kills_of : Description → List Rec → List (Option KillAt)
kills_of c trace = kills_from c (no_past c) trace

-- each is
abbrev pub are_paid : List (Option KillAt) → List Rec → Bool
are_paid [] rest = true
are_paid (kill ∷ kills) [] = true
are_paid (kill ∷ kills) (rec ∷ rest) = is_paid kill rest && are_paid kills rest

-- the kills of a trace are told
abbrev pub tells_well : Past → Event → List Rec → Bool
tells_well past (event.Enter entry) rest = kills_well past entry (killed_by entry.call entry.reply) rest
tells_well past _ rest = true

abbrev pub kills_are_told : Description → List Rec → Bool
kills_are_told c trace = each_record c (λ past rec rest. tells_well past rec.event rest) trace

-- a place of a trace before these records: the kills so far are those of the records before it
pub record Listing (c : Description) (Tells : Past → Type 0) (kills : List (Option KillAt)) (trace rest : List Rec) : Type 0 where
  pub past : Past
  pub told : Tells past
  pub left : (more : List (Option KillAt)) → more ≡ kills_from c past rest → kills ++ more ≡ kills_of c trace

-- ---- what is kept

-- a count that isn't kept is none
abbrev pub count_or : Option ℕ → ℕ
count_or None = 0
count_or (Some count) = count

abbrev pub steps_kept : List (ℕ × ℕ) → ℕ → Option ℕ
steps_kept steps kernel = lookup (λ other. kernel == other) steps

abbrev pub steps_of : List (ℕ × ℕ) → ℕ → ℕ
steps_of steps kernel = count_or (steps_kept steps kernel)

abbrev pub mark_of : List (KillAt × ℕ) → KillAt → Option ℕ
mark_of marks at = lookup (same_kill at) marks

-- as many steps of its home stand behind its packet as there are
abbrev pub is_told_kept : Told → KillAt → Bool
is_told_kept told at = holds (λ count. count == steps_of told.steps.entries at.home) (mark_of told.marks.entries at)

abbrev pub is_told_of : Told → Option KillAt → Bool
is_told_of told None = true
is_told_of told (Some at) = is_told_kept told at

-- ---- one record more, before the others

-- the kill about which a packet goes
abbrev pub kill_sent : ℕ → ℕ → About → KillAt
kill_sent kernel to about = record { home = kernel; to = to; pid = about.pid; number = about.number }

abbrev pub PutsMark : KillAt → List (ℕ × ℕ) → List (KillAt × ℕ) → List (KillAt × ℕ) → Type 0
PutsMark at steps before after =
    (other : KillAt) → mark_of after other ≡ (if same_kill at other then Some (steps_of steps at.home) else mark_of before other)

abbrev pub marks_about : ℕ → ℕ → Option About → List (ℕ × ℕ) → KillAt → Option ℕ → Option ℕ
marks_about kernel to None steps other before = before
marks_about kernel to (Some about) steps other before =
    if same_kill (kill_sent kernel to about) other then Some (steps_of steps kernel) else before

abbrev pub marks_behind : ℕ → Event → List (ℕ × ℕ) → KillAt → Option ℕ → Option ℕ
marks_behind kernel (event.Send tx to about kind) steps other before = marks_about kernel to about steps other before
marks_behind kernel _ steps other before = before

abbrev pub MarksOn : ℕ → Event → List (ℕ × ℕ) → List (KillAt × ℕ) → List (KillAt × ℕ) → Type 0
MarksOn kernel e steps before after =
    (other : KillAt) → mark_of after other ≡ marks_behind kernel e steps other (mark_of before other)

abbrev pub step_more : ℕ → List (ℕ × ℕ) → ℕ → Option ℕ
step_more kernel before other = if kernel == other then Some (steps_of before kernel + 1) else steps_kept before other

abbrev pub TakesStep : ℕ → List (ℕ × ℕ) → List (ℕ × ℕ) → Type 0
TakesStep kernel before after = (other : ℕ) → steps_kept after other ≡ step_more kernel before other

abbrev pub steps_behind : ℕ → Event → List (ℕ × ℕ) → ℕ → Option ℕ
steps_behind kernel (event.Burst pid count) before other = step_more kernel before other
steps_behind kernel (event.Deliver tx from reply about) before other = step_more kernel before other
steps_behind kernel (event.Expire tx last) before other = step_more kernel before other
steps_behind kernel _ before other = steps_kept before other

abbrev pub StepsOn : ℕ → Event → List (ℕ × ℕ) → List (ℕ × ℕ) → Type 0
StepsOn kernel e before after = (other : ℕ) → steps_kept after other ≡ steps_behind kernel e before other

pub record ToldOn (kernel : ℕ) (e : Event) (old new : Told) : Type 0 where
  pub marks : MarksOn kernel e old.steps.entries old.marks.entries new.marks.entries
  pub steps : StepsOn kernel e old.steps.entries new.steps.entries

-- what is kept is what the records behind the place tell, and no mark is above the steps
pub record TellsTold (told : Told) (rest : List Rec) : Type 0 where
  pub is_told : (at : KillAt) → is_told_kept told at ≡ is_told at.home at.to at.pid at.number rest
  pub within : (at : KillAt) → count_or (mark_of told.marks.entries at) ≤ steps_of told.steps.entries at.home
