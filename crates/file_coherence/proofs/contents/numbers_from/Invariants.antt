use Rattle.std.proofs.Common.{◌≡◌, ◌+◌}
use Rattle.file_views.specs.Contents.{numbers_from}
use Rattle.file_coherence.proofs.contents.numbers_from.Given as goal

abbrev pub invariant-loop-done : goal.invariant-loop-done
invariant-loop-done l = (l.numbers ≡ numbers_from l.first l._done) × (l.number ≡ l.first + l._done)
