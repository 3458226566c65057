-- A rule that looks back and ahead, judged record by record.
use Rattle.std.specs.Prelude.{◌≡◌, Bool, true, List, Option}
use Rattle.unix_calls.specs.declared.description.Description.{Description}
use Rattle.unix_calls.specs.declared.event.Rec.{Rec}
use Rattle.call_journal.specs.Past.{Past, each_from, each_record}
use Rattle.sharing_rules.specs.declared.entry_facts.EntryFacts.{EntryFacts}
use Rattle.trace_tables.specs.declared.Tied.{Tied}
use Rattle.sharing_rules.specs.Facts.{facts_from}
use Rattle.trace_tables.specs.Ties.{ties_from}

-- a record keeps the rule, and what was due is paid by it and those behind it, exactly where what is due then is paid by these
pub record Pays (test : Bool) (Due Left : Type 0) : Type 0 where
  pub on : test ≡ true → Due → Left
  pub back : Left → (test ≡ true) × Due

-- a place of a trace before these records: what stands before it is told, and the rest keeps the rule and pays what is due exactly
-- where all records keep it
pub record HereOwing (c : Description) (test : Past → Rec → List Rec → Bool) (Tells : Past → Type 0) (Owes : Past → List Rec → Type 0) (trace rest : List Rec) (ties : List (Option Tied)) (facts : List EntryFacts) : Type 0 where
  pub past : Past
  pub told : Tells past
  pub tied : ties ≡ ties_from c past rest
  pub facts_are : facts ≡ facts_from c past rest
  pub on : each_from c test past rest ≡ true → Owes past rest → each_record c test trace ≡ true
  pub back : each_record c test trace ≡ true → (each_from c test past rest ≡ true) × Owes past rest
