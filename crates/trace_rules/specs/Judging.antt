-- A rule that looks back, judged record by record.
use Rattle.std.specs.Prelude.{◌≡◌, Bool, List, [], ◌∷◌, Option, refl}
use Rattle.unix_calls.specs.declared.description.Description.{Description}
use Rattle.unix_calls.specs.declared.event.Rec.{Rec}
use Rattle.call_journal.specs.Past.{Past, each_from, each_record, past_with}
use Rattle.trace_tables.specs.declared.Tied.{Tied}
use Rattle.trace_tables.specs.declared.Caller.{Caller}
use Rattle.trace_tables.specs.Callers.{caller_at, callers_from}
use Rattle.trace_tables.specs.Ties.{tied_at, ties_from}

-- a place of a trace before these records: what stands before it is told, and whether the rest keeps the rule is whether all do
pub record Here (c : Description) (test : Past → Rec → Bool) (Tells : Past → Type 0) (trace rest : List Rec) : Type 0 where
  pub past : Past
  pub told : Tells past
  pub left : each_from c (λ past rec behind. test past rec) past rest ≡ each_record c (λ past rec behind. test past rec) trace

-- what is told of each record of a trace goes by those before it
pub record TellsEach {A : Type 0} (c : Description) (at : Past → Rec → A) (from : Past → List Rec → List A) : Type 0 where
  pub none : (past : Past) → from past [] ≡ []
  pub first : (past : Past) (rec : Rec) (rest : List Rec) → from past (rec ∷ rest) ≡ at past rec ∷ from (past_with c rec past) rest

-- such a place, where something is told of each record of the rest
pub record HereWith {A : Type 0} (from : Past → List Rec → List A) (c : Description) (test : Past → Rec → Bool) (Tells : Past → Type 0) (trace rest : List Rec) (items : List A) : Type 0 where
  pub past : Past
  pub told : Tells past
  pub said : items ≡ from past rest
  pub left : each_from c (λ past rec behind. test past rec) past rest ≡ each_record c (λ past rec behind. test past rec) trace

-- what the calls of records go by is told so
abbrev pub tie_of : Past → Rec → Option Tied
tie_of past rec = tied_at past rec.event

pub ties_each : (c : Description) → TellsEach c tie_of (ties_from c)
ties_each c = record { none = λ past. refl; first = λ past rec rest. refl }

-- and what the one-kernel Unix tells of their processes
abbrev pub caller_of : Description → Past → Rec → Caller
caller_of c past rec = caller_at c past rec.event

pub callers_each : (c : Description) → TellsEach c (caller_of c) (callers_from c)
callers_each c = record { none = λ past. refl; first = λ past rec rest. refl }
