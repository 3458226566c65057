-- What is given of messages whose frames come in any order, left out or repeated.
use Rattle.std.specs.Prelude.{◌≡◌, ◌≤◌, ◌<◌, ◌↔◌, ℕ, ◌==◌, Bool, true, false, ◌&&◌, not, List, [], ◌∷◌, length}
use Rattle.std.specs.List.{list_any, list_all, IsAmong}
use Rattle.std.specs.Cmp.Lexicographic.{pointwise}
use Rattle.wire_fragments.specs.declared.head.MessageId.{MessageId}
use Rattle.wire_fragments.specs.declared.gathered.Gathered.{Gathered}
use Rattle.wire_fragments.specs.declared.gathered.Gathered.TheVariants.{Bad, Known, Differs, Full, Whole, Kept}
use Rattle.wire_fragments.specs.Frames.{cut}
use Rattle.wire_fragments.specs.Gathering.{is_message, whole}

-- ---- messages that are cut

-- a message and its name
pub record Cut : Type 0 where
  pub name : MessageId
  pub message : List ℕ

-- the name and the length are ones that frames can spell
pub record IsCut (c : Cut) : Type 0 where
  pub from_is : (1 ≤ c.name.from) × (c.name.from ≤ 16)
  pub to_is : (1 ≤ c.name.to) × (c.name.to ≤ 16)
  pub id_is : c.name.id < 4294967296
  pub short : length c.message ≤ 97516080

-- messages that can be cut, of which no two have one name
pub record AreCuts (cuts : List Cut) : Type 0 where
  pub each : (c : Cut) → IsAmong cuts c → IsCut c
  pub names : (c d : Cut) → IsAmong cuts c → IsAmong cuts d → c.name ≡ d.name → c ≡ d

abbrev pub frames_of : Cut → List (List ℕ)
frames_of c = cut c.name c.message

-- the bytes are a frame of one of them
abbrev pub IsFrameOf : List Cut → List ℕ → Type 0
IsFrameOf cuts bytes = (c : Cut) × IsAmong cuts c × IsAmong (frames_of c) bytes

-- ---- what came so far: frames with their answers, of which the latest stands first

abbrev pub Told : Type 0
Told = List ℕ × Gathered

abbrev pub is_full : Gathered → Bool
is_full (Full room) = true
is_full Bad = false
is_full Known = false
is_full (Differs kept came) = false
is_full (Whole from to id message) = false
is_full Kept = false

-- whether that frame came there with another answer than Full
abbrev pub came_with : List ℕ → Told → Bool
came_with frame told = pointwise (λ a b. a == b) told.0 frame && not (is_full told.1)

-- whether that frame came with another answer than Full
abbrev pub has_come : List Told → List ℕ → Bool
has_come before frame = list_any (came_with frame) before

-- whether each frame of the message came with another answer than Full
abbrev pub all_came : List Told → Cut → Bool
all_came before c = list_all (has_come before) (frames_of c)

-- whether the answer gives the message of that name
abbrev pub gives : MessageId → Gathered → Bool
gives name (Whole from to id message) = is_message name (record { from = from; to = to; id = id })
gives name Bad = false
gives name Known = false
gives name (Differs kept came) = false
gives name (Full room) = false
gives name Kept = false

-- whether the message of that name was given
abbrev pub was_given : List Told → MessageId → Bool
was_given before name = list_any (λ (told : Told). gives name told.1) before

-- ---- what is answered

-- a message that is given is one of those that were cut, byte for byte; and no answer is Bad or Differs
abbrev pub IsOfCuts : List Cut → Gathered → Type 0
IsOfCuts cuts (Whole from to id message) = (c : Cut) × IsAmong cuts c × (whole c.name c.message ≡ Whole from to id message)
IsOfCuts cuts Bad = ⊥
IsOfCuts cuts (Differs kept came) = ⊥
IsOfCuts cuts Known = Unit {0}
IsOfCuts cuts (Full room) = Unit {0}
IsOfCuts cuts Kept = Unit {0}

-- the answer to a frame behind those before: each message is given exactly where with this frame all of its own have come
-- with another answer than Full, and without it not yet; and it wasn't given before
pub record IsGathered (cuts : List Cut) (before : List Told) (frame : List ℕ) (answer : Gathered) : Type 0 where
  pub of_cuts : IsOfCuts cuts answer
  pub at_last : (c : Cut) → IsAmong cuts c → (answer ≡ whole c.name c.message) ↔ ((all_came ((frame, answer) ∷ before) c ≡ true) × (all_came before c ≡ false))
  pub once : (c : Cut) → IsAmong cuts c → answer ≡ whole c.name c.message → was_given before c.name ≡ false

-- so it is with each of these frames, one behind another
abbrev pub AreGathered : List Cut → List Told → List (List ℕ) → List Gathered → Type 0
AreGathered cuts before [] [] = Unit {0}
AreGathered cuts before [] (answer ∷ answers) = ⊥
AreGathered cuts before (frame ∷ frames) [] = ⊥
AreGathered cuts before (frame ∷ frames) (answer ∷ answers) =
    IsGathered cuts before frame answer × AreGathered cuts ((frame, answer) ∷ before) frames answers

-- ---- where there is room for each message

-- whether that frame is among these
abbrev pub is_sent : List (List ℕ) → List ℕ → Bool
is_sent frames frame = list_any (λ (sent : List ℕ). pointwise (λ a b. a == b) sent frame) frames

-- whether each frame of the message is among these
abbrev pub all_sent : List (List ℕ) → Cut → Bool
all_sent frames c = list_all (is_sent frames) (frames_of c)

-- whether one of the answers gives the message of that name
abbrev pub is_given : List Gathered → MessageId → Bool
is_given answers name = list_any (gives name) answers

-- no frame is turned away, and a message is given exactly where each of its frames came
pub record AreAllGiven (cuts : List Cut) (frames : List (List ℕ)) (answers : List Gathered) : Type 0 where
  pub none_full : list_any is_full answers ≡ false
  pub each : (c : Cut) → IsAmong cuts c → is_given answers c.name ≡ all_sent frames c
