use Rattle.std.proofs.Common.{◌≡◌, ◌++◌, ◌<◌, take}
use Rattle.std.specs.List.{flat_map, AllByRecursion}
use Rattle.history_text.specs.Texts.{quoted_byte}
use Rattle.history_text.proofs.quoted.put_bytes.Given as goal

abbrev pub invariant-loop-byte : goal.invariant-loop-byte
invariant-loop-byte l = record {
  put : l.out.items ≡ l.fn.out.items ++ flat_map quoted_byte (take l.byte-index l.bytes);
  small : AllByRecursion (λ b. b < 256) (take l.byte-index l.bytes);
}
