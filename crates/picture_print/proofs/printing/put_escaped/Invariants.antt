use Rattle.std.proofs.Common.{◌≡◌, ◌++◌, take}
use Rattle.picture_print.specs.Svg.{escaped}
use Rattle.picture_print.proofs.printing.put_escaped.Given as goal

-- the bytes so far were put
abbrev pub invariant-loop-byte : goal.invariant-loop-byte
invariant-loop-byte l = l.out.items ≡ l.fn.out.items ++ escaped (take l.byte-index l.bytes)
