-- What a text comes to that is to hold a cluster file and packets.
use Rattle.std.specs.Prelude.{codes, ◌≡◌, ◌⊎◌, ℕ, List, [], ◌∷◌, ◌++◌, length, None, Ok, Err}
use Rattle.std.specs.Fmt.{decimal}
use Rattle.text_lines.specs.Lines.{lines_of}
use Rattle.text_lines.specs.Parts.{parts_of}
use Rattle.unix_calls.specs.declared.Description.{Description}
use Rattle.cluster_file.specs.declared.Refusal.{Refusal}
use Rattle.parted_text.specs.Parted.{HasCluster, HasRefusal}
use Rattle.report_print.specs.Refused.{refusal_line}
use Rattle.frames_text.specs.declared.parcel.Parcel.{Parcel}
use Rattle.frames_text.specs.declared.answering.FramesAnswer.{FramesAnswer}
use Rattle.frames_text.specs.declared.answering.FramesAnswer.TheVariants.{Lines, Refused}
use Rattle.frames_text.specs.Parcels.{cuts_from, parcels_read}
use Rattle.frames_text.specs.Reports.{AreSent}

-- a cluster file stands before a line `=====`, and behind it packets between its kernels, one a line
pub record HoldsPackets (text : List ℕ) : Type 0 where
  pub cluster : Description
  pub body : List ℕ
  pub has : HasCluster text cluster body
  pub parcels : List Parcel
  pub are_read : parcels_read (length cluster.kernels) 1 (lines_of body) ≡ Ok parcels

-- such a text, whose packets were sent in frames over a link that goes from there to here, and the lines that tell what came of them
pub record AreTold {L : Type 0} (faults asked : L → ℕ → ℕ → ℕ) (before after : L) (text lines : List ℕ) : Type 0 where
  pub holds : HoldsPackets text
  pub sent : AreSent faults asked before after (cuts_from 1 holds.parcels) lines

-- no line `=====` stands in the text
pub record HasNoBody (text due : List ℕ) : Type 0 where
  pub parts : parts_of text ≡ None
  pub line_is : due ≡ codes "refused: 14\n"

-- what stands before that line is refused as a cluster file
pub record HasBadFile (text due : List ℕ) : Type 0 where
  pub refusal : Refusal
  pub has : HasRefusal text refusal
  pub line_is : due ≡ refusal_line refusal

-- a line behind it is the first that is no packet's between different kernels of the file, or it is one too many
pub record HasBadLine (text due : List ℕ) : Type 0 where
  pub cluster : Description
  pub body : List ℕ
  pub has : HasCluster text cluster body
  pub number : ℕ
  pub bad : parcels_read (length cluster.kernels) 1 (lines_of body) ≡ Err number
  pub line_is : due ≡ codes "refused: 15 line " ++ decimal number ++ 10 ∷ []

-- the line of a text that is refused
abbrev pub IsTextRefusal : List ℕ → List ℕ → Type 0
IsTextRefusal text due = HasNoBody text due ⊎ (HasBadFile text due ⊎ HasBadLine text due)

-- what is due for a text
abbrev pub Answers : {L : Type 0} → (L → ℕ → ℕ → ℕ) → (L → ℕ → ℕ → ℕ) → L → L → List ℕ → FramesAnswer → Type 0
Answers faults asked before after text (Lines lines) = AreTold faults asked before after text lines
Answers faults asked before after text (Refused line) = IsTextRefusal text line

-- what is due for packets between so many kernels
abbrev pub BodyAnswers : {L : Type 0} → (L → ℕ → ℕ → ℕ) → (L → ℕ → ℕ → ℕ) → L → L → ℕ → List ℕ → FramesAnswer → Type 0
BodyAnswers faults asked before after kernels body (Lines lines) = (parcels : List Parcel) × (parcels_read kernels 1 (lines_of body) ≡ Ok parcels) × AreSent faults asked before after (cuts_from 1 parcels) lines
BodyAnswers faults asked before after kernels body (Refused line) = (number : ℕ) × (parcels_read kernels 1 (lines_of body) ≡ Err number) × (line ≡ codes "refused: 15 line " ++ decimal number ++ 10 ∷ [])
