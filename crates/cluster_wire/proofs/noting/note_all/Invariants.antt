use Rattle.std.proofs.Common.{◌≡◌, ◌++◌, length}
use Rattle.cluster_wire.specs.Noted.{noted_all, untold, without_faults}
use Rattle.cluster_wire.proofs.noting.note_all.Given as goal

abbrev pub invariant-events : goal.invariant-events
invariant-events l = (noted_all l.kernel l.events l.left l.told ≡ noted_all l.kernel l.fn.events l.fn.sent l.fn.told) × (untold l.events l.left ≡ untold l.fn.events l.fn.sent) × (without_faults l.told ++ l.events ≡ without_faults l.fn.told ++ l.fn.events)

abbrev pub decreases-events : goal.decreases-events
decreases-events l = length l.events
