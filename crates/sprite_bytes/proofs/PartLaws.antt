-- How a list falls into what was moved and what is left.
use Rattle.std.proofs.Common.{◌≡◌, ℕ, ◌+◌, List, ◌++◌, length, take, drop, ap, sym, ◌∙◌}
use Rattle.std.proofs.lemmas.List.{take-append-drop, drop-drop}
use Rattle.std.proofs.Math.Seq.{take-append_seam}

-- what is left is what was copied to the front of a buffer, and the rest
pub left_is_given : {X : Type 0} (bytes copied rest : List X) (at n : ℕ) → length copied ≡ n → copied ≡ take n (drop at bytes)
    → drop at bytes ≡ take n (copied ++ rest) ++ drop (at + n) bytes
left_is_given bytes copied rest at n long same =
    sym (take-append-drop n (drop at bytes))
    ∙ ap (λ xs. xs ++ drop n (drop at bytes)) (sym same ∙ sym (take-append_seam copied rest) ∙ ap (λ k. take k (copied ++ rest)) long)
    ∙ ap (λ xs. take n (copied ++ rest) ++ xs) (drop-drop n at bytes)
