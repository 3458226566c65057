-- Equal names are hashed alike.
use Rattle.std.specs.Prelude.{◌≡◌, ℕ, true, List}
use Rattle.std.proofs.Common.{ap}
use Rattle.std.specs.Hash as fed
use Rattle.std.specs.Cmp.Lexicographic.{bytes_decides}
use Rattle.program_text.specs.Words.{same}

-- equal bytes are fed alike
pub fed_alike : (x y : List ℕ) → same x y ≡ true → fed.slice fed.u8 x ≡ fed.slice fed.u8 y
fed_alike x y h = ap (fed.slice fed.u8) ((bytes_decides x y).0 h)
