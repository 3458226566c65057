-- What a trace comes to.
use Rattle.std.specs.Prelude.{codes, ◌≡◌, ℕ, ◌+◌, ◌-◌, true, false, List, take, length, Some, ◌⊎◌, IsTrue}
use Rattle.unix_calls.specs.declared.description.Description.{Description}
use Rattle.unix_calls.specs.declared.event.Rec.{Rec}
use Rattle.unix_calls.specs.After.{legal}
use Rattle.one_kernel.specs.declared.Verdict.TheVariants as verdict
use Rattle.one_kernel.specs.Verdicts.{verdict_of}
use Rattle.call_journal.specs.Journal.{journal_of}
use Rattle.call_journal.specs.Formed.{formed}
use Rattle.call_journal.specs.Once.{Once}
use Rattle.call_journal.specs.Unreachable.{unreachable_for_cause}
use Rattle.trace_bursts.specs.Costs.{passes_bound}
use Rattle.trace_judge.specs.declared.Rule.{Rule}
use Rattle.trace_judge.specs.Rules.{KeepsJudged, broken_when_formed}
use Rattle.trace_judge.specs.Rules as rules
use Rattle.trace_audit.specs.declared.promise.Promise.{Promise}
use Rattle.trace_audit.specs.declared.promise.Promise.TheVariants as promise
use Rattle.trace_audit.specs.declared.outcome.Audit.{Audit}
use Rattle.trace_audit.specs.declared.outcome.Audit.TheVariants as audit

-- one Unix kernel gives the journal of a trace, and its processes do no more than the bound, behind its entries too
pub record IsWithin (c : Description) (most : ℕ) (trace : List Rec) : Type 0 where
  pub verdict_is : verdict_of c most (journal_of trace) ≡ verdict.Legal
  pub is_legal : IsTrue (legal c (journal_of trace))
  pub within : passes_bound c most trace ≡ false

-- besides, its records are written as they should be
pub record IsFormed (c : Description) (most : ℕ) (trace : List Rec) : Type 0 where
  pub is_within : IsWithin c most trace
  pub formed : IsTrue (formed c trace)

-- besides, each call is once, and a server is called unreachable only for a cause
pub record IsCaused (c : Description) (most : ℕ) (trace : List Rec) : Type 0 where
  pub is_formed : IsFormed c most trace
  pub once : Once trace
  pub for_cause : IsTrue (unreachable_for_cause c trace)

-- a trace keeps every promise
pub record KeepsAll (c : Description) (most : ℕ) (trace : List Rec) : Type 0 where
  pub is_caused : IsCaused c most trace
  pub keeps : KeepsJudged c trace

-- one Unix kernel gives the entries of the journal before that one, and not that one
pub record BreaksLegal (c : Description) (most : ℕ) (trace : List Rec) : Type 0 where
  pub place : ℕ
  pub verdict_is : verdict_of c most (journal_of trace) ≡ verdict.NotLegal place
  pub before : legal c (take (place - 1) (journal_of trace)) ≡ true
  pub not_legal : legal c (take place (journal_of trace)) ≡ false

-- a trace keeps the promises before one, and breaks that one
abbrev pub BreaksFirst : Description → ℕ → List Rec → Promise → Type 0
BreaksFirst c most trace promise.Legal = BreaksLegal c most trace
BreaksFirst c most trace promise.Formed = IsWithin c most trace × (formed c trace ≡ false)
BreaksFirst c most trace promise.Once = IsFormed c most trace × (Once trace → ⊥)
BreaksFirst c most trace promise.Unreachable = IsFormed c most trace × Once trace × (unreachable_for_cause c trace ≡ false)
BreaksFirst c most trace (promise.Rule rule) = IsCaused c most trace × (broken_when_formed c trace ≡ Some rule)

-- the processes do no more than the bound up to the calls of all entries, and behind them more
abbrev pub PassesBehind : Description → ℕ → List Rec → ℕ → Type 0
PassesBehind c most trace n =
    (verdict_of c most (journal_of trace) ≡ verdict.Legal)
    × (passes_bound c most trace ≡ true)
    × (n ≡ length (journal_of trace) + 1)

-- what a trace comes to, whose processes may do so many instructions in all
abbrev pub AuditsTo : Description → ℕ → List Rec → Audit → Type 0
AuditsTo c most trace audit.Holds = KeepsAll c most trace
AuditsTo c most trace (audit.Fails promise) = BreaksFirst c most trace promise
AuditsTo c most trace (audit.Steps n) = (verdict_of c most (journal_of trace) ≡ verdict.Steps n) ⊎ PassesBehind c most trace n

-- the name by which a promise is printed
abbrev pub name_of : Promise → List ℕ
name_of promise.Legal = codes "legal"
name_of promise.Formed = codes "formed"
name_of promise.Once = codes "once"
name_of promise.Unreachable = codes "unreachable"
name_of (promise.Rule rule) = rules.name_of rule
