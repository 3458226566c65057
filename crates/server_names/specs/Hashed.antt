-- Equal names are hashed alike.
use Rattle.std.specs.Prelude.{◌≡◌, ℕ, true, List, nat_eq}
use Rattle.std.proofs.Common.{ap}
use Rattle.std.specs.List.{flat_map}
use Rattle.std.specs.Hash as fed
use Rattle.std.specs.Cmp.Lexicographic.{pointwise, pointwise_decides, bytes_decides}

-- equal parts are fed alike
pub fed_alike : (x y : List (List ℕ)) → pointwise (pointwise nat_eq) x y ≡ true → flat_map (fed.slice fed.u8) x ≡ flat_map (fed.slice fed.u8) y
fed_alike x y h = ap (flat_map (fed.slice fed.u8)) ((pointwise_decides bytes_decides x y).0 h)
