use Rattle.std.proofs.Common.{◌≡◌, subst, arith}
use Rattle.field_reader.specs.Reads.{found}
use Rattle.wire_format.specs.Packets.{packet}
use Rattle.wire_format.specs.PacketLaws.{packet_is}
use Rattle.wire_format.proofs.packet.PacketMessage.read.Goals as goal

pub returns-in-Ok-clause-known : goal.returns-in-Ok-clause-known
returns-in-Ok-clause-known c =
    let reads = subst (λ bytes. packet.read bytes ≡ found c.in-Ok.packet c.read_from.new.from) c.new-from.ensures c.in-Ok.ensures in
    (packet_is.takes c.args.bytes.now c.in-Ok.packet c.read_from.new.from (λ i. omega (arith, c.type_inv.bytes i)) reads).fits
