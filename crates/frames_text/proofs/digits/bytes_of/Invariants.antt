use Rattle.std.proofs.Common.{◌≡◌, ◌≤◌, ◌<◌, ◌++◌, None, option_map, length, drop}
use Rattle.std.specs.Prelude.{IfSome}
use Rattle.frames_text.specs.Digits.{bytes_from}
use Rattle.frames_text.proofs.digits.bytes_of.Given as goal

-- what is spelled behind the bytes so far is the whole
abbrev pub invariant-loop-byte : goal.invariant-loop-byte
invariant-loop-byte l = record {
  all : option_map (λ more. l.bytes.items ++ more) (bytes_from l.high (drop l.byte-index l.line)) ≡ bytes_from None l.line;
  small : IfSome l.high (λ high. high < 16);
  short : length l.bytes.items ≤ l.byte-index;
}
