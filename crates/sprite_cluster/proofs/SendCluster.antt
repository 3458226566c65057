-- A cluster crosses threads where its link does.
use denote.RattleType.{RattleType}
use denote.Struct.Field.{row_field}
use denote.Param.Send.{IsSend}
use denote.Param.SendFields.{as_row_send, declared_send}
use Rattle.sprite_cluster.proofs.SendRecords.{whole, description_sends}
use Rattle.sprite_cluster.proofs.SendClusters.{state_sends, trace_sends}
use Rattle.sprite_cluster.proofs.SendWires.{wire_sends}
use Rattle.kernel_rpc.specs.contracts.wire.Wire as wire
use Rattle.link_plan.specs.declared.link.Link as link
use Rattle.sprite_cluster.specs.contracts.cluster.Cluster as cluster
use Rattle.wire_format.specs.contracts.packet.Packet as packet
use Rattle.wire_format.specs.contracts.packet.PacketMessage.TheImpl as message

pub cluster_sends : (L : RattleType) (l : link.Ghosts L.Denot) → IsSend L → IsSend (cluster.the_row L l)
cluster_sends L l s = declared_send (cluster.the_type L l) (
  search (whole, description_sends) depth 60 fits 400000,
  (
    search (whole, state_sends) depth 60 fits 400000,
    (
      as_row_send (row_field (wire.the_row packet.the_row L message.ghosts l)) (wire_sends L l s),
      (
        search (whole, trace_sends) depth 60 fits 400000,
        (
          search whole depth 60 fits 400000,
          (search whole depth 60 fits 400000, tt),
        ),
      ),
    ),
  ),
)
