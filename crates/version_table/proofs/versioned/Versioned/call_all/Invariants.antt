use Rattle.std.proofs.Common.{◌≡◌, drop, fold}
use Rattle.version_table.specs.Files.{called}
use Rattle.version_table.proofs.versioned.Versioned.call_all.Given as goal

abbrev pub invariant-loop-call : goal.invariant-loop-call
invariant-loop-call l = fold called l.self (drop l.call-index l.calls) ≡ fold called l.fn.self l.calls
