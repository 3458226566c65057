-- A place of a trace, between the records that were judged and those that weren't.
use Rattle.std.specs.Prelude.{◌≡◌, Bool, List}
use Rattle.unix_calls.specs.declared.description.Description.{Description}
use Rattle.unix_calls.specs.declared.event.Rec.{Rec}
use Rattle.call_journal.specs.Past.{Past, each_from, each_record}

-- what stands before these records is told, and whether the rest keeps the rule is whether all do
pub record Facing (c : Description) (test : Past → Rec → List Rec → Bool) (Tells : Past → List Rec → Type 0) (trace rest : List Rec) : Type 0 where
  pub past : Past
  pub told : Tells past rest
  pub left : each_from c test past rest ≡ each_record c test trace
