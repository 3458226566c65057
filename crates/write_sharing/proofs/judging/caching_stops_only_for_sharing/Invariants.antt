use Rattle.std.proofs.Common.{drop}
use Rattle.write_sharing.specs.Judged.{HereSharing}
use Rattle.write_sharing.proofs.judging.caching_stops_only_for_sharing.Given as goal

-- the records so far are told, and what is due is known
abbrev pub invariant-loop-place : goal.invariant-loop-place
invariant-loop-place l = HereSharing l.c l.sharing l.trace (drop l.place l.trace) (drop l.place l.ties) (drop l.place l.cuts)
