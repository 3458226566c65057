-- What holds of each cluster that bytes describe.
use Rattle.std.specs.Prelude.{ℕ, List}
use Rattle.unix_calls.specs.declared.description.Description.{Description}
use Rattle.unix_calls.specs.Lawful.{Lawful}
use Rattle.cluster_file.specs.Clusters.{Describes}

-- each cluster that bytes describe is lawful
abbrev pub DescribedIsLawful : Type 0
DescribedIsLawful = (bytes : List ℕ) (d : Description) → Describes bytes d → Lawful d
