-- What is kept of a trace so far.
use Rattle.std.proofs.Common.{◌≡◌, ℕ, Bool, true, false, List, IsTrue, ◌↔◌}
use Rattle.unix_calls.specs.declared.description.Description.{Description}
use Rattle.unix_calls.specs.declared.event.Rec.{Rec}
use Rattle.one_kernel.specs.declared.Verdict.TheVariants as verdict
use Rattle.one_kernel.specs.Verdicts.{verdict_of}
use Rattle.one_kernel.proofs.VerdictLaws.{legal_is_legal, not_legal_is_first}
use Rattle.call_journal.specs.Formed.{formed}
use Rattle.call_journal.specs.Journal.{journal_of}
use Rattle.call_journal.specs.Once.{Once}
use Rattle.trace_bursts.specs.Costs.{passes_bound}
use Rattle.trace_audit.specs.Audits.{BreaksLegal, IsFormed, IsWithin}

pub within_bound : (c : Description) (most : ℕ) (trace : List Rec) → verdict_of c most (journal_of trace) ≡ verdict.Legal → passes_bound c most trace ≡ false → IsWithin c most trace
within_bound c most trace is within = record { verdict_is = is; is_legal = legal_is_legal c most (journal_of trace) is; within = within }

pub as_formed : (c : Description) (most : ℕ) (trace : List Rec) → IsWithin c most trace → formed c trace ≡ true → IsFormed c most trace
as_formed c most trace within written = record { is_within = within; formed = written }

-- what is told of calls that are once
pub is_once : (told : Bool) (trace : List Rec) → told ≡ true → (IsTrue told ↔ Once trace) → Once trace
is_once told trace is tells = tells.0 is

pub not_once : (told : Bool) (trace : List Rec) → told ≡ false → (IsTrue told ↔ Once trace) → Once trace → ⊥
not_once true trace is tells once = absurd (cc (is))
not_once false trace is tells once = absurd (cc (tells.1 once))

-- a journal that isn't legal from an entry on
pub breaks_legal : (c : Description) (most n : ℕ) (trace : List Rec) → verdict_of c most (journal_of trace) ≡ verdict.NotLegal n → BreaksLegal c most trace
breaks_legal c most n trace told =
    let first = not_legal_is_first c most n (journal_of trace) told in
    record { place = n; verdict_is = told; before = first.0; not_legal = first.1 }
