-- How packets are spelled: a byte for the kind, the two kernels, the number of the remote call, and the body.
use Rattle.std.specs.Prelude.{ℕ, Bool, true, false, ◌==◌, if◌then◌else◌, length, List, [], ◌∷◌, Option, Some, None}
use Rattle.sprite_ids.specs.declared.TxNo.{TxNo}
use Rattle.packet_bodies.specs.declared.Body.{Body}
use Rattle.packet_bodies.specs.declared.Body.TheVariants.{Request, Reply}
use Rattle.wire_format.specs.declared.packet.Packet.{Packet}
use Rattle.field_reader.specs.Reads.{Reads}
use Rattle.wire_format.specs.Codec.{Codec, Shape, form, Row, row, tagged, ◌before◌}
use Rattle.wire_format.specs.Names.{kernel}
use Rattle.wire_format.specs.Objects.{transaction}
use Rattle.wire_format.specs.Requests.{request}
use Rattle.wire_format.specs.Replies.{reply}

-- the sender, the receiver and the number
abbrev pub header : Codec (ℕ × (ℕ × TxNo))
header = kernel before (kernel before transaction)

abbrev pub body_shape : ℕ → ℕ → TxNo → Body → Shape
body_shape sender to tx (Request r) = form 1 (header before request) ((sender, (to, tx)), r)
body_shape sender to tx (Reply r) = form 2 (header before reply) ((sender, (to, tx)), r)

abbrev pub packet_shape : Packet → Shape
packet_shape p = body_shape p.from p.to p.tx p.body

abbrev pub packet_rows : List (Row Packet)
packet_rows =
    row 1 (header before request) (λ p. record { from = p.0.0; to = p.0.1.0; tx = p.0.1.1; body = Request p.1 }) ∷
    row 2 (header before reply) (λ p. record { from = p.0.0; to = p.0.1.0; tx = p.0.1.1; body = Reply p.1 }) ∷
    []

abbrev pub packet : Codec Packet
packet = tagged packet_shape packet_rows

-- what a packet must be to have a spelling: each text and each list has under 2^32 bytes or items, and each number is in
-- the range of its type, which the types keep
abbrev pub IsPacket : Packet → Type 0
IsPacket p = packet.Fits p

-- the bytes that spell a packet
abbrev pub spelling : Packet → List ℕ
spelling p = packet.spelled p

-- the value, where no bytes are left
abbrev pub whole : {A : Type 0} → Reads A → Option A
whole None = None
whole (Some (x, rest)) = if length rest == 0 then Some x else None

-- the packet that bytes spell, all of the bytes
abbrev pub reading : List ℕ → Option Packet
reading bytes = whole (packet.read bytes)

-- whether the body answers a request
abbrev pub is_reply : Body → Bool
is_reply (Request r) = false
is_reply (Reply r) = true
