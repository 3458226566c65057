use Rattle.std.proofs.Common.{◌≡◌, ◌++◌, drop}
use Rattle.call_journal.specs.Journal.{journal_of}
use Rattle.call_journal.proofs.trace.entries.Given as goal

-- the entries so far, and then those of the rest, are those of all records
abbrev pub invariant-loop-record : goal.invariant-loop-record
invariant-loop-record l = l.journal ++ journal_of (drop l.record-index l.records) ≡ journal_of l.records
