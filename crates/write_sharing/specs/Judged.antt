-- What is kept of files decides the rule of a trace.
use Rattle.std.specs.Prelude.{◌≡◌, Bool, true, List, Option}
use Rattle.unix_calls.specs.declared.description.Description.{Description}
use Rattle.unix_calls.specs.declared.event.Rec.{Rec}
use Rattle.call_journal.specs.Past.{Past, each_from, each_record}
use Rattle.call_journal.specs.Sharing.{stops_well}
use Rattle.trace_tables.specs.declared.tied.Tied.{Tied}
use Rattle.trace_tables.specs.Ties.{ties_from}
use Rattle.write_sharing.specs.declared.kept.Sharing.{Sharing}
use Rattle.write_sharing.specs.Cuts.{cuts_from}
use Rattle.write_sharing.specs.Watched.{TellsSharing, Owes}

-- how the rule judges a record
abbrev pub test_of : Description → Past → Rec → List Rec → Bool
test_of c past rec rest = stops_well c past rec rec.kernel rec.event rest

-- a place of a trace before these records: what stands before it is told, and the rest keeps the rule and pays what is due exactly
-- where all records keep it
pub record HereSharing (c : Description) (kept : Sharing) (trace rest : List Rec) (ties : List (Option Tied)) (cuts : List Bool) : Type 0 where
  pub past : Past
  pub told : TellsSharing kept past
  pub tied : ties ≡ ties_from c past rest
  pub cut : cuts ≡ cuts_from c past rest
  pub on : each_from c (test_of c) past rest ≡ true → Owes c kept past rest → each_record c (test_of c) trace ≡ true
  pub back : each_record c (test_of c) trace ≡ true → (each_from c (test_of c) past rest ≡ true) × Owes c kept past rest
