use Rattle.std.proofs.Common.{◌≡◌}
use Rattle.client_data.specs.Filling.{zero_turns}
use Rattle.client_data.proofs.filling.fill_zeros.Given as goal

abbrev pub invariant-loop-done : goal.invariant-loop-done
invariant-loop-done l = l.files ≡ zero_turns l._done l.file l.extent l.fn.files
