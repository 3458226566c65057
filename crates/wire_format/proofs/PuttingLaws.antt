-- Values that are put one behind another.
use Rattle.std.proofs.Common.{◌≡◌, ℕ, List, ◌++◌, Result, Ok, Err, ap, ◌∙◌, append_assoc}
use Rattle.std.specs.Prelude.{OnOk}
use Rattle.wire_format.specs.Codec.{Codec, ◌before◌}

-- one value, and what is put behind it
pub put_then : {A B : Type 0} (c : Codec A) (d : Codec B) (x : A) (y : B) (before_x after_x after : List ℕ) → after_x ≡ before_x ++ c.spelled x → after ≡ after_x ++ d.spelled y → after ≡ before_x ++ (c before d).spelled (x, y)
put_then c d x y before_x after_x after p q = q ∙ ap (λ front. front ++ d.spelled y) p ∙ append_assoc before_x (c.spelled x) (d.spelled y)

-- what follows where the last part is put
pub on_last : {A B : Type 0} (r : Result A B) {P Q : Type 0} → (P → Q) → OnOk r P → OnOk r Q
on_last (Ok x) f h = f h
on_last (Err e) f h = h
