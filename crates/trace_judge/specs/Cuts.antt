-- Which records open a file and truncate it, by what is told of each.
use Rattle.std.specs.Prelude.{Bool, List, [], ◌∷◌}
use Rattle.sharing_rules.specs.declared.entry_facts.EntryFacts.{EntryFacts}

abbrev pub cuts_in : List EntryFacts → List Bool
cuts_in [] = []
cuts_in (fact ∷ rest) = fact.truncates ∷ cuts_in rest
