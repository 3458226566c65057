-- A packet is read as it was spelled, and nothing else reads as it.
use Rattle.std.proofs.Common.{◌≡◌, ℕ, List, [], ◌++◌, length, ◌==◌, Some, None, refl, sym, ap, ◌∙◌}
use Rattle.std.specs.List.{AllByRecursion}
use Rattle.std.proofs.lemmas.List.{append-nil, nil_from_length}
use Rattle.std.proofs.lemmas.Bool.{eqb-true}
use Rattle.sprite_ids.specs.declared.TxNo.{TxNo}
use Rattle.packet_bodies.specs.declared.Body.{Body}
use Rattle.packet_bodies.specs.declared.Body.TheVariants.{Request, Reply}
use Rattle.field_reader.specs.ReadLaws.{passed_is}
use Rattle.wire_format.specs.declared.packet.Packet.{Packet}
use Rattle.field_reader.specs.Reads.{Reads, found, made}
use Rattle.wire_format.specs.Codec.{IsCodec, AreBytes}
use Rattle.wire_format.specs.CodecLaws.{before_is, IsRow, row_is, tagged_is}
use Rattle.wire_format.specs.NameLaws.{kernel_is}
use Rattle.wire_format.specs.ObjectLaws.{transaction_is}
use Rattle.wire_format.specs.RequestLaws.{request_is}
use Rattle.wire_format.specs.ReplyLaws.{reply_is}
use Rattle.wire_format.specs.Packets.{header, body_shape, packet_shape, packet_rows, packet, IsPacket, spelling, whole, reading}

pub header_is : IsCodec header
header_is = before_is kernel_is (before_is kernel_is transaction_is)

body_again : (sender to : ℕ) (tx : TxNo) (body : Body) (rest : List ℕ) → (body_shape sender to tx body).Fits → packet.read ((body_shape sender to tx body).spelled ++ rest) ≡ found {A = Packet} (record { from = sender; to = to; tx = tx; body = body }) rest
body_again sender to tx (Request r) rest fits = ap (made {B = Packet} (λ p. record { from = p.0.0; to = p.0.1.0; tx = p.0.1.1; body = Request p.1 })) ((before_is header_is request_is).again ((sender, (to, tx)), r) rest fits)
body_again sender to tx (Reply r) rest fits = ap (made {B = Packet} (λ p. record { from = p.0.0; to = p.0.1.0; tx = p.0.1.1; body = Reply p.1 })) ((before_is header_is reply_is).again ((sender, (to, tx)), r) rest fits)

packet_rows_are : AllByRecursion (IsRow packet_shape) packet_rows
packet_rows_are = (
  row_is packet_shape 1 (before_is header_is request_is) (λ p. record { from = p.0.0; to = p.0.1.0; tx = p.0.1.1; body = Request p.1 }) (λ x. refl) (λ x h. h),
  (row_is packet_shape 2 (before_is header_is reply_is) (λ p. record { from = p.0.0; to = p.0.1.0; tx = p.0.1.1; body = Reply p.1 }) (λ x. refl) (λ x h. h), tt),
)

pub packet_is : IsCodec packet
packet_is = tagged_is packet_shape packet_rows (λ p rest fits. body_again p.from p.to p.tx p.body rest fits) packet_rows_are

whole_found : {A : Type 0} (reads : Reads A) (x : A) → whole reads ≡ Some x → reads ≡ found x []
whole_found None x e = absurd cc
whole_found (Some (y, rest)) x e =
    let is = passed_is (length rest == 0) y x e in
    ap (λ z. found z rest) is.1 ∙ ap (found x) (nil_from_length rest (eqb-true (length rest) 0 is.0))

-- what was spelled is read again
pub spelled_is_read : (p : Packet) → IsPacket p → reading (spelling p) ≡ Some p
spelled_is_read p is =
    ap reading (sym (append-nil (spelling p))) ∙ ap whole (packet_is.again p [] is)

-- what is read is spelled so
pub read_is_spelled : (bytes : List ℕ) (p : Packet) → AreBytes bytes → reading bytes ≡ Some p → (bytes ≡ spelling p) × IsPacket p
read_is_spelled bytes p are e =
    let took = packet_is.takes bytes p [] are (whole_found (packet.read bytes) p e) in
    (took.parts ∙ append-nil (spelling p), took.fits)
