use Rattle.std.proofs.Common.{drop}
use Rattle.call_journal.specs.Past.{Past}
use Rattle.kill_worth.specs.Kills.{TellsKills}
use Rattle.kill_worth.specs.Told.{Listing}
use Rattle.kill_worth.proofs.telling.kills_of.Given as goal

-- the kills of the records so far are listed
abbrev pub invariant-loop-rec : goal.invariant-loop-rec
invariant-loop-rec l = Listing l.c (λ (past : Past). TellsKills l.state past) l.kills.items l.trace (drop l.rec-index l.trace)
