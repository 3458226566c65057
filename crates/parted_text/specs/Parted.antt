-- What a text of two parts holds: a cluster file, a line `=====`, and what stands behind it.
use Rattle.std.specs.Prelude.{◌≡◌, ℕ, List, Some, None}
use Rattle.unix_calls.specs.declared.description.Description.{Description}
use Rattle.cluster_file.specs.declared.Refusal.{Refusal}
use Rattle.cluster_file.specs.Clusters.{Describes, Refuses}
use Rattle.text_lines.specs.Parts.{parts_of}
use Rattle.parted_text.specs.declared.parts_end.PartsEnd.{PartsEnd}
use Rattle.parted_text.specs.declared.parts_end.PartsEnd.TheVariants.{NoBody, NoMemory, Refused}

-- how many instructions the processes of a history or a trace in a text may do in all
unfoldable pub most_instructions : ℕ
most_instructions = 1000000000

-- what stands before the line describes that cluster, and that stands behind it
pub record HasCluster (text : List ℕ) (cluster : Description) (body : List ℕ) : Type 0 where
  pub file : List ℕ
  pub parts : parts_of text ≡ Some (file, body)
  pub describes : Describes file cluster

-- what stands before the line has that refusal
pub record HasRefusal (text : List ℕ) (refusal : Refusal) : Type 0 where
  pub file : List ℕ
  pub body : List ℕ
  pub parts : parts_of text ≡ Some (file, body)
  pub refuses : Refuses file refusal

-- why a text isn't parted: it has no line `=====`, or its file is refused
abbrev pub TellsEnd : List ℕ → PartsEnd → Type 0
TellsEnd text NoBody = parts_of text ≡ None
TellsEnd text (Refused refusal) = HasRefusal text refusal
TellsEnd text NoMemory = Unit {0}

-- the text describes a cluster, for which what stands behind the line is so
pub record IsDescribed (text : List ℕ) (IsSo : Description → List ℕ → Type 0) : Type 0 where
  pub cluster : Description
  pub body : List ℕ
  pub has : HasCluster text cluster body
  pub comes_to : IsSo cluster body
