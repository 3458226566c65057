-- What crosses threads with a cluster: the wire between its kernels.
use denote.RattleType.{RattleType}
use denote.Struct.Field.{row_field}
use denote.Param.Send.{IsSend, view_send}
use denote.Param.SendFields.{as_row_send, declared_send}
use Rattle.sprite_cluster.proofs.SendRecords.{whole}
use Rattle.sprite_cluster.proofs.SendCalls.{call_table_sends}
use Rattle.kernel_rpc.specs.contracts.wire.Wire as wire
use Rattle.kernel_rpc.specs.contracts.wire.Wire.TheInside as inside
use Rattle.link_plan.specs.declared.link.Link as link
use Rattle.wire_format.specs.contracts.packet.Packet as packet
use Rattle.wire_format.specs.contracts.packet.PacketMessage.TheImpl as message

inside_sends : (L : RattleType) (l : link.Ghosts L.Denot) → IsSend L → IsSend (inside.the_row packet.the_row L message.ghosts l)
inside_sends L l s = declared_send (inside.the_type packet.the_row L message.ghosts l) (as_row_send (row_field L) s, (search (whole, call_table_sends) depth 60 fits 400000, (search whole depth 60 fits 400000, tt)))

pub wire_sends : (L : RattleType) (l : link.Ghosts L.Denot) → IsSend L → IsSend (wire.the_row packet.the_row L message.ghosts l)
wire_sends L l s = view_send (inside.the_row packet.the_row L message.ghosts l) _ _ _ _ (inside_sends L l s)
