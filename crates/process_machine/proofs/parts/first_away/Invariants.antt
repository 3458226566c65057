use Rattle.std.proofs.Common.{◌≡◌, drop}
use Rattle.process_machine.specs.Parts.{first_away}
use Rattle.process_machine.proofs.parts.first_away.Given as goal

abbrev pub invariant-loop-number : goal.invariant-loop-number
invariant-loop-number l = first_away l.number (drop l.number l.pages) l.parts ≡ first_away 0 l.pages l.parts
