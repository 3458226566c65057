use Rattle.std.proofs.Common.{◌≡◌, take}
use Rattle.std.specs.List.{flat_map}
use Rattle.unix_calls.specs.Output.{escape}
use Rattle.cluster_file.proofs.places.escaped.Given as goal

-- the bytes so far are put as they print
abbrev pub invariant-loop-byte : goal.invariant-loop-byte
invariant-loop-byte l = l.text ≡ flat_map escape (take l.byte-index l.key)
