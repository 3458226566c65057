-- What a run that came to its end comes to.
use Rattle.std.specs.Prelude.{◌≡◌, ℕ, ◌+◌, true, false, List, Some, ◌⊎◌, IsTrue}
use Rattle.std.specs.List.{list_any}
use Rattle.sprite_ids.specs.declared.running.Finish.{Finish}
use Rattle.unix_calls.specs.declared.description.Description.{Description}
use Rattle.unix_calls.specs.declared.event.Rec.{Rec}
use Rattle.unix_calls.specs.State.{Unix}
use Rattle.unix_calls.specs.After.{legal, state_of}
use Rattle.unix_calls.specs.Output.{output_of}
use Rattle.report_print.specs.Summaries.{tally_in}
use Rattle.report_print.specs.declared.Tally.{Tally}
use Rattle.one_kernel.specs.declared.Verdict.TheVariants as verdict
use Rattle.one_kernel.specs.Verdicts.{verdict_of}
use Rattle.call_journal.specs.Journal.{journal_of}
use Rattle.call_journal.specs.Once.{Once}
use Rattle.call_journal.specs.Unreachable.{unreachable_for_cause}
use Rattle.trace_judge.specs.declared.Rule.{Rule}
use Rattle.trace_judge.specs.Rules.{KeepsJudged, first_broken}
use Rattle.run_judge.specs.declared.judged.JudgedRun.{JudgedRun}
use Rattle.run_judge.specs.declared.judged.JudgedRun.TheVariants as judge
use Rattle.run_judge.specs.declared.judged.Refutation.{Refutation}
use Rattle.run_judge.specs.declared.judged.Refutation.TheVariants as refute
use Rattle.run_judge.specs.declared.ending.Stop.{Stop}
use Rattle.run_judge.specs.declared.ending.Stop.TheVariants as stop
use Rattle.run_judge.specs.Ends.{EndsAs, end_of, is_free}

-- the journal of a trace is a history that one Unix kernel gives within the bound of instructions, and leads to that state
pub record IsLegal (c : Description) (most : ℕ) (trace : List Rec) (u : Unix) : Type 0 where
  pub is_legal : IsTrue (legal c (journal_of trace))
  pub leads : state_of c (journal_of trace) ≡ Some u
  pub verdict_is : verdict_of c most (journal_of trace) ≡ verdict.Legal

-- besides, each call is once, a server is called unreachable only for a cause, the run ended as it says, and its trace keeps the rules that
-- are judged; that is printed of its journal, and its processes came to that
pub record IsJudged (c : Description) (most : ℕ) (trace : List Rec) (finish : Finish) (output : List ℕ) (tally : Tally) : Type 0 where
  pub state : Unix
  pub is_legal : IsLegal c most trace state
  pub once : Once trace
  pub for_cause : unreachable_for_cause c trace ≡ true
  pub stands : end_of c most state finish ≡ stop.Good
  pub ends : EndsAs c state finish
  pub rules : KeepsJudged c trace
  pub output_is : output ≡ output_of c (journal_of trace) finish
  pub tally_is : tally ≡ tally_in (state_of c (journal_of trace))

-- and that much of it before its rules are asked for
pub record EndsWell (c : Description) (most : ℕ) (trace : List Rec) (finish : Finish) (u : Unix) : Type 0 where
  pub is_legal : IsLegal c most trace u
  pub once : Once trace
  pub for_cause : unreachable_for_cause c trace ≡ true
  pub stands : end_of c most u finish ≡ stop.Good

-- a call isn't once
pub record IsNotOnce (c : Description) (most : ℕ) (trace : List Rec) : Type 0 where
  pub state : Unix
  pub is_legal : IsLegal c most trace state
  pub not_once : Once trace → ⊥

-- each call is once, and the run stands otherwise than it says
pub record StandsSo (c : Description) (most : ℕ) (trace : List Rec) (finish : Finish) (at : Stop) (Besides : Unix → Type 0) : Type 0 where
  pub state : Unix
  pub is_legal : IsLegal c most trace state
  pub once : Once trace
  pub for_cause : unreachable_for_cause c trace ≡ true
  pub stands : end_of c most state finish ≡ at
  pub besides : Besides state

-- a process that lives isn't blocked
abbrev pub HasFree : Description → Unix → Type 0
HasFree c u = list_any (is_free c u) u.processes ≡ true

-- the first rule that its trace breaks is that one
abbrev pub Breaks : Description → List Rec → Rule → Type 0
Breaks c trace rule = first_broken c trace ≡ Some rule

-- the first promise that the run breaks
abbrev pub IsRefuted : Description → ℕ → List Rec → Finish → Refutation → Type 0
IsRefuted c most trace finish (refute.Legal n) = verdict_of c most (journal_of trace) ≡ verdict.NotLegal n
IsRefuted c most trace finish refute.Once = IsNotOnce c most trace
IsRefuted c most trace finish refute.End = StandsSo c most trace finish stop.Wrong (λ u. Unit {0})
IsRefuted c most trace finish refute.Stall = StandsSo c most trace finish stop.Free (HasFree c)
IsRefuted c most trace finish (refute.Rule rule) = StandsSo c most trace finish stop.Good (λ u. Breaks c trace rule)

-- the bound of instructions is passed before that entry, or behind the last one
abbrev pub IsFar : Description → ℕ → List Rec → Finish → ℕ → Type 0
IsFar c most trace finish n =
    (verdict_of c most (journal_of trace) ≡ verdict.Steps n) ⊎ StandsSo c most trace finish stop.Far (λ u. n ≡ u.entries + 1)

-- what the run comes to
abbrev pub JudgesTo : Description → ℕ → List Rec → Finish → JudgedRun → Type 0
JudgesTo c most trace finish (judge.Judged output tally) = IsJudged c most trace finish output tally
JudgesTo c most trace finish (judge.Refuted refutation) = IsRefuted c most trace finish refutation
JudgesTo c most trace finish (judge.Steps n) = IsFar c most trace finish n
