use Rattle.std.proofs.Common.{◌≡◌}
use Rattle.file_views.specs.Views.{new_view}
use Rattle.file_coherence.proofs.one_file.new_view.Given as goal

abbrev pub invariant-loop-done : goal.invariant-loop-done
invariant-loop-done l = l.view ≡ new_view l._done l.fn.bytes
