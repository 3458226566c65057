-- What a text comes to.
use Rattle.std.specs.Prelude.{◌≡◌, ℕ, ◌-◌, ◌<◌, ◌≤◌, ◌||◌, nat_lt, min, if◌then◌else◌, List, Option, Some, None, length, take, drop}
use Rattle.unix_calls.specs.declared.description.Description.{Description}
use Rattle.unix_calls.specs.declared.event.Rec.{Rec}
use Rattle.cluster_file.specs.Clusters.{Describes, Refuses}
use Rattle.trace_text.specs.Traces.{IsFirstBad, IsTrace}
use Rattle.text_lines.specs.Parts.{parts_of}
use Rattle.picture_drawing.specs.Records.{IsPicture}
use Rattle.picture_print.specs.WellFormed.{IsDocument}
use Rattle.trace_picture.specs.declared.outcome.Outcome.{Outcome}
use Rattle.trace_picture.specs.declared.outcome.Outcome.TheVariants as outcome
use Rattle.trace_picture.specs.declared.asking.Asked.{Asked}

-- the number of the first record that is shown, and how many are, of so many; none where none of those that are wanted is there
abbrev pub shown_of : Option (ℕ × ℕ) → ℕ → Option (ℕ × ℕ)
shown_of None total = Some (1, total)
shown_of (Some range) total =
    if nat_lt range.0 1 || nat_lt total range.0 || nat_lt range.1 range.0 then None else Some (range.0, min range.1 total - (range.0 - 1))

-- so many of the records are wanted, from one on
pub record IsWanted (asked : Asked) (records : List Rec) (first count : ℕ) : Type 0 where
  pub shown : shown_of asked.range (length records) ≡ Some (first, count)

-- more records are wanted than a picture shows
pub record IsMany (asked : Asked) (records : List Rec) (count : ℕ) : Type 0 where
  pub first : ℕ
  pub wanted : shown_of asked.range (length records) ≡ Some (first, count)
  pub many : 20000 < count

-- the wanted records are drawn, each once and in their order, and the text is well-formed
pub record IsDrawn (asked : Asked) (records : List Rec) (text : List ℕ) : Type 0 where
  pub first : ℕ
  pub count : ℕ
  pub wanted : shown_of asked.range (length records) ≡ Some (first, count)
  pub few : count ≤ 20000
  pub picture : IsPicture first (take count (drop (first - 1) records)) text
  pub document : IsDocument text

-- what the records of a trace come to
abbrev pub RecordsComeTo : Asked → List Rec → Outcome → Type 0
RecordsComeTo asked records (outcome.Few total) = (shown_of asked.range (length records) ≡ None) × (total ≡ length records)
RecordsComeTo asked records (outcome.Many count) = IsMany asked records count
RecordsComeTo asked records (outcome.Drawn text) = IsDrawn asked records text.items
RecordsComeTo asked records _ = ⊥

-- a trace is read, and its records come to that
pub record IsRead (asked : Asked) (trace : List ℕ) (outcome : Outcome) : Type 0 where
  pub records : List Rec
  pub reads : IsTrace trace records
  pub come_to : RecordsComeTo asked records outcome

-- what a trace comes to: that line of it is the first that is no record's, or it is read
abbrev pub TraceComesTo : Asked → List ℕ → Outcome → Type 0
TraceComesTo asked trace (outcome.BadLine number) = IsFirstBad trace number
TraceComesTo asked trace (outcome.Refused refusal) = ⊥
TraceComesTo asked trace other = IsRead asked trace other

-- a file describes a cluster, and the trace comes to that
pub record IsDescribed (asked : Asked) (file trace : List ℕ) (outcome : Outcome) : Type 0 where
  pub cluster : Description
  pub describes : Describes file cluster
  pub comes_to : TraceComesTo asked trace outcome

-- what a cluster file and a trace come to: the file has a refusal, or it describes a cluster
abbrev pub FileComesTo : Asked → List ℕ → List ℕ → Outcome → Type 0
FileComesTo asked file trace (outcome.Refused refusal) = Refuses file refusal
FileComesTo asked file trace other = IsDescribed asked file trace other

-- what a text comes to: it is a trace, or it has two parts
abbrev pub PartsComeTo : Asked → List ℕ → Option (List ℕ × List ℕ) → Outcome → Type 0
PartsComeTo asked text None outcome = TraceComesTo asked text outcome
PartsComeTo asked text (Some parts) outcome = FileComesTo asked parts.0 parts.1 outcome

abbrev pub ComesTo : Asked → List ℕ → Outcome → Type 0
ComesTo asked text outcome = PartsComeTo asked text (parts_of text) outcome
