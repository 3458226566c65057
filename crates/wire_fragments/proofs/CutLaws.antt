-- A message is cut as the code cuts it.
use Rattle.std.proofs.Common.{◌≡◌, ◌≤◌, ◌<◌, ℕ, suc, ◌+◌, ◌-◌, ◌*◌, List, [], ◌∷◌, ◌++◌, length, take, drop, min, sym, ap, ◌∙◌, arith}
use Rattle.std.proofs.lemmas.List.{append_assoc, length-take, length-drop, drop_min, take_min}
use Rattle.wire_fragments.specs.declared.head.MessageId.{MessageId}
use Rattle.wire_fragments.specs.Frames.{count_of, piece, frame, frames_from}

-- a part that ends with the message
pub part_is : (message : List ℕ) (at full start end : ℕ) → start ≡ min at (length message) → end ≡ min (start + full) (length message) → take (end - start) (drop start message) ≡ take full (drop at message)
part_is message at full start end s e =
    let dropped : drop start message ≡ drop at message = ap (λ n. drop n message) s ∙ drop_min at message in
    let long = length-drop start message in
    let many : end - start ≡ min full (length (drop start message)) = omega (arith, s, e, long) in
    ap (λ n. take n (drop start message)) many ∙ take_min full (drop start message) ∙ ap (take full) dropped

-- a piece is no longer than a frame holds
pub piece_short : (message : List ℕ) (index : ℕ) → length (piece message index) ≤ 1488
piece_short message index = let long = length-take 1488 (drop (1488 * index) message) in omega (arith, long)

less_one : (index count : ℕ) → index < count → count - index ≡ suc (count - (index + 1))
less_one index count less = omega (arith, less)

-- of the frames that are left, the first, and then the others
pub frames_left : (name : MessageId) (message : List ℕ) (index count : ℕ) → index < count → frames_from name message index (count - index) ≡ frame (record { message = name; index = index; count = count_of (length message) }) (piece message index) ∷ frames_from name message (index + 1) (count - (index + 1))
frames_left name message index count less = ap (frames_from name message index) (less_one index count less)

-- one frame more
pub frames_more : (name : MessageId) (message : List ℕ) (done next all : List (List ℕ)) (bytes part : List ℕ) (index count : ℕ) → index < count → count ≡ count_of (length message) → part ≡ piece message index
    → bytes ≡ frame (record { message = name; index = index; count = count }) part → next ≡ done ++ bytes ∷ [] → done ++ frames_from name message index (count - index) ≡ all
    → next ++ frames_from name message (index + 1) (count - (index + 1)) ≡ all
frames_more name message done next all bytes part index count less n p b x e =
    let rest = frames_from name message (index + 1) (count - (index + 1)) in
    let spelled : bytes ≡ frame (record { message = name; index = index; count = count_of (length message) }) (piece message index) =
    b ∙ ap (λ (m : ℕ). frame (record { message = name; index = index; count = m }) part) n ∙ ap (frame (record { message = name; index = index; count = count_of (length message) })) p in
    ap (λ (xs : List (List ℕ)). xs ++ rest) x ∙ append_assoc done (bytes ∷ []) rest ∙ ap (λ (f : List ℕ). done ++ f ∷ rest) spelled ∙ sym (ap (λ (xs : List (List ℕ)). done ++ xs) (frames_left name message index count less)) ∙ e
