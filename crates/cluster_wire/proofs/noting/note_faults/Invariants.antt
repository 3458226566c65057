use Rattle.std.proofs.Common.{◌≡◌, drop}
use Rattle.cluster_wire.specs.Noted.{faulted_all}
use Rattle.cluster_wire.proofs.noting.note_faults.Given as goal

abbrev pub invariant-loop-packet : goal.invariant-loop-packet
invariant-loop-packet l = faulted_all l.kernel (drop l.packet-index l.fates) l.told ≡ faulted_all l.kernel l.fates l.fn.told
