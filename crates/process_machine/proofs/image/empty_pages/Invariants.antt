use Rattle.std.proofs.Common.{◌≡◌}
use Rattle.process_machine.specs.Fresh.{zero_pages}
use Rattle.process_machine.proofs.image.empty_pages.Given as goal

abbrev pub invariant-loop : goal.invariant-loop
invariant-loop l = l.pages ≡ zero_pages l.counter
