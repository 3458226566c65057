-- What a process's progress tells of the records of its calls: which were issued, entered and returned.
use Rattle.std.specs.Prelude.{◌≡◌, ◌≤◌, ℕ, ◌+◌, ◌-◌, Bool, ◌&&◌, List, nat_le, Some}
use Rattle.std.specs.List.{list_any}
use Rattle.process_machine.specs.declared.call.Call.{Call}
use Rattle.unix_calls.specs.declared.Rec.{Rec}
use Rattle.call_journal.specs.Calls.{issued_call}
use Rattle.call_journal.specs.Formed.{last_issue}
use Rattle.call_journal.specs.Matching.{has_event, is_issue, is_entry_at, is_return}
use Rattle.call_journal.specs.Once.{Progress, Between, Issued, Asked, Entered, Over, progress_of}

-- whether a trace has the issue, an entry and the return of a call
abbrev pub is_issued : ℕ → List Rec → ℕ → Bool
is_issued pid trace number = list_any (has_event (is_issue pid number)) trace

abbrev pub is_entered : ℕ → List Rec → ℕ → Bool
is_entered pid trace number = list_any (has_event (is_entry_at pid number)) trace

abbrev pub is_returned : ℕ → List Rec → ℕ → Bool
is_returned pid trace number = list_any (has_event (is_return pid number)) trace

-- these are the numbers from 1 to the last one
abbrev pub AreUpTo : ℕ → (ℕ → Bool) → Type 0
AreUpTo last has = (number : ℕ) → has number ≡ (nat_le 1 number && nat_le number last)

-- a process's calls up to these numbers were issued, entered and returned, and no others
pub record IsToldUpTo (pid : ℕ) (trace : List Rec) (issued entered returned : ℕ) : Type 0 where
  pub last : last_issue pid trace ≡ issued
  pub issues : AreUpTo issued (is_issued pid trace)
  pub entries : AreUpTo entered (is_entered pid trace)
  pub returns : AreUpTo returned (is_returned pid trace)

-- the call of that number is out, and the calls before it have returned
pub record IsOut (pid : ℕ) (trace : List Rec) (number : ℕ) (call : Call) (entered : ℕ) : Type 0 where
  pub counted : 1 ≤ number
  pub call_is : issued_call pid number trace ≡ Some call
  pub told : IsToldUpTo pid trace number entered (number - 1)

-- all issued calls have returned; a death is entered under the number behind them
pub record AllReturned (pid : ℕ) (trace : List Rec) : Type 0 where
  pub issued : ℕ
  pub entered : ℕ
  pub least : issued ≤ entered
  pub most : entered ≤ issued + 1
  pub told : IsToldUpTo pid trace issued entered issued

-- what a trace tells of the calls of a process that is so far
abbrev pub TellsCalls : ℕ → List Rec → Progress → Type 0
TellsCalls pid trace (Between n) = IsToldUpTo pid trace n n n
TellsCalls pid trace (Issued n call) = IsOut pid trace n call (n - 1)
TellsCalls pid trace (Asked n call) = IsOut pid trace n call n
TellsCalls pid trace (Entered n call reply) = IsOut pid trace n call n
TellsCalls pid trace Over = AllReturned pid trace

-- a process's progress alone tells which calls it has issued, entered and returned, and the call that is out
abbrev pub ProgressTellsCalls : Type 0
ProgressTellsCalls = (trace : List Rec) (pid : ℕ) (progress : Progress) → progress_of pid trace ≡ Some progress → TellsCalls pid trace progress
