use Rattle.std.proofs.Common.{◌≡◌, drop}
use Rattle.record_worth.specs.Parts.{prefixes_are_served}
use Rattle.record_worth.proofs.prefixes.prefixes_are_served.Given as goal

-- whether those of the rest are served tells it of all
abbrev pub invariant-loop-rec : goal.invariant-loop-rec
invariant-loop-rec l = prefixes_are_served l.c (drop l.rec-index l.trace) ≡ prefixes_are_served l.fn.c l.fn.trace
