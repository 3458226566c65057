-- How a message is cut into frames, and what a frame's bytes spell.
use Rattle.std.specs.Prelude.{ℕ, zero, suc, ◌+◌, ◌-◌, ◌*◌, ◌/◌, ◌==◌, nat_lt, nat_le, Bool, ◌&&◌, ◌||◌, not, if◌then◌else◌, List, [], ◌∷◌, ◌++◌, length, take, drop, slice_index, Option, Some, None}
use Rattle.std.specs.Int.{w16, w32, to_le_bytes, from_le_bytes}
use Rattle.wire_fragments.specs.declared.head.Head.{Head}
use Rattle.wire_fragments.specs.declared.head.MessageId.{MessageId}

-- ---- cutting

-- how many frames a message of so many bytes has: as many as its bytes fill, and one where it has none
abbrev pub count_of : ℕ → ℕ
count_of length = if length == 0 then 1 else (length + 1487) / 1488

-- the piece of a message in the frame of that index
abbrev pub piece : List ℕ → ℕ → List ℕ
piece message index = take 1488 (drop (1488 * index) message)

-- a frame: its head, whose numbers have their lowest byte first, and its piece
abbrev pub frame : Head → List ℕ → List ℕ
frame head bytes =
    (head.message.from ∷ head.message.to ∷ []) ++ to_le_bytes w32 head.message.id ++ to_le_bytes w16 head.index ++ to_le_bytes w16 head.count ++ to_le_bytes w16 (length bytes) ++ bytes

-- the frames of a message from that index on, where so many are left
abbrev pub frames_from : MessageId → List ℕ → ℕ → ℕ → List (List ℕ)
frames_from name message index zero = []
frames_from name message index (suc left) =
    frame (record { message = name; index = index; count = count_of (length message) }) (piece message index) ∷ frames_from name message (index + 1) left

-- the frames of a message
abbrev pub cut : MessageId → List ℕ → List (List ℕ)
cut name message = frames_from name message 0 (count_of (length message))

-- ---- reading

abbrev pub number16_at : List ℕ → ℕ → ℕ
number16_at bytes at = from_le_bytes w16 (slice_index bytes at ∷ slice_index bytes (at + 1) ∷ [])

abbrev pub number32_at : List ℕ → ℕ → ℕ
number32_at bytes at =
    from_le_bytes w32 (slice_index bytes at ∷ slice_index bytes (at + 1) ∷ slice_index bytes (at + 2) ∷ slice_index bytes (at + 3) ∷ [])

-- the piece that stands in a frame
abbrev pub piece_in : List ℕ → List ℕ
piece_in bytes = drop 12 bytes

abbrev pub is_kernel : ℕ → Bool
is_kernel number = nat_le 1 number && nat_le number 16

-- whether a piece of so many bytes may be in that frame of so many: all but the last are full, and the last is empty only
-- where it is the only one
abbrev pub is_sized : ℕ → ℕ → ℕ → Bool
is_sized index count length =
    nat_lt index count && nat_le length 1488 && (not (nat_lt (index + 1) count) || (length == 1488)) && (not (length == 0) || (count == 1))

-- whether the bytes, which are no fewer than a head, spell a frame
abbrev pub is_spelled : List ℕ → Bool
is_spelled bytes =
    is_kernel (slice_index bytes 0) && is_kernel (slice_index bytes 1)
    && (number16_at bytes 10 == length bytes - 12) && is_sized (number16_at bytes 6) (number16_at bytes 8) (number16_at bytes 10)

-- what the head of a frame says, where the bytes spell one
abbrev pub head_of : List ℕ → Option Head
head_of bytes =
    if nat_lt (length bytes) 12 then None
    else if is_spelled bytes then Some (record {
      message = record { from = slice_index bytes 0; to = slice_index bytes 1; id = number32_at bytes 2 };
      index = number16_at bytes 6;
      count = number16_at bytes 8;
    })
    else None
