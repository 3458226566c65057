-- Frames that are sent over a link, each with its fate, and those that arrive.
use Rattle.std.specs.Prelude.{◌≡◌, ◌⊎◌, ◌≤◌, ℕ, ◌+◌, ◌-◌, ◌^◌, Bool, ◌&&◌, List, [], ◌∷◌, ◌++◌, map}
use Rattle.std.specs.List.{count_by, flat_map}
use Rattle.link_plan.specs.Counts.{is_fault, same_pair}
use Rattle.link_plan.specs.declared.Fate.{Fate}
use Rattle.link_plan.specs.declared.Fate.TheVariants.{Once, Lost, Twice, Late}
use Rattle.wire_fragments.specs.Runs.{Cut, frames_of}
use Rattle.frames_text.specs.declared.sending.Sent.{Sent}

-- a frame and its two ends
pub record Frame : Type 0 where
  pub from : ℕ
  pub to : ℕ
  pub bytes : List ℕ

abbrev pub frame_of : Sent → Frame
frame_of s = record { from = s.from; to = s.to; bytes = s.bytes }

-- the frames of messages, one behind another
abbrev pub framed : Cut → List Frame
framed c = map (λ (bytes : List ℕ). record { from = c.name.from; to = c.name.to; bytes = bytes }) (frames_of c)

abbrev pub all_framed : List Cut → List Frame
all_framed cuts = flat_map framed cuts

-- whether the frame went between these two kernels
abbrev pub is_between : ℕ → ℕ → Sent → Bool
is_between a b s = same_pair a b s.from s.to

-- and whether its fate was a fault
abbrev pub is_faulty : ℕ → ℕ → Sent → Bool
is_faulty a b s = is_between a b s && is_fault s.fate

-- a count rose by at least so many, or stands at u64::MAX
abbrev pub RoseBy : ℕ → ℕ → ℕ → Type 0
RoseBy many old new = (old + many ≤ new) ⊎ (new ≡ 2 ^ 64 - 1)

-- the link was asked about each of these frames: between any two kernels no more of them met a fault than by how many the count of
-- faults rose, and it was asked as often as there are frames
pub record AreAsked {L : Type 0} (faults asked : L → ℕ → ℕ → ℕ) (before after : L) (sent : List Sent) : Type 0 where
  pub faulty : (a b : ℕ) → faults before a b + count_by (is_faulty a b) sent ≤ faults after a b
  pub often : (a b : ℕ) → (1 ≤ a) × (a ≤ 16) → (1 ≤ b) × (b ≤ 16) → RoseBy (count_by (is_between a b) sent) (asked before a b) (asked after a b)

-- what arrives of a frame at once
abbrev pub now_arriving : Fate → List ℕ → List (List ℕ)
now_arriving Once bytes = bytes ∷ []
now_arriving Twice bytes = bytes ∷ bytes ∷ []
now_arriving Lost bytes = []
now_arriving Late bytes = []

-- and what behind all others
abbrev pub later_arriving : Fate → List ℕ → List (List ℕ)
later_arriving Late bytes = bytes ∷ []
later_arriving Once bytes = []
later_arriving Twice bytes = []
later_arriving Lost bytes = []

abbrev pub in_time : List Sent → List (List ℕ)
in_time sent = flat_map (λ (s : Sent). now_arriving s.fate s.bytes) sent

abbrev pub too_late : List Sent → List (List ℕ)
too_late sent = flat_map (λ (s : Sent). later_arriving s.fate s.bytes) sent

-- the frames that arrive, in order
abbrev pub arriving : List Sent → List (List ℕ)
arriving sent = in_time sent ++ too_late sent
