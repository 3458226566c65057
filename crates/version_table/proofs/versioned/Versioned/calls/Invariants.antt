use Rattle.std.proofs.Common.{◌≡◌, ◌≤◌, length}
use Rattle.version_table.specs.Files.{calls_to}
use Rattle.version_table.proofs.versioned.Versioned.calls.Given as goal

abbrev pub invariant-loop-place : goal.invariant-loop-place
invariant-loop-place l = record {
  calls : l.calls ≡ calls_to l.uncached l.self l.action l.place;
  few : length l.calls ≤ l.place;
}
