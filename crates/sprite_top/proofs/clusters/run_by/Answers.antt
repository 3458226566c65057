use denote.Exit.{yes}
use denote.Param.{param}
use denote.Param.Send.{arg_send, param_send}
use Rattle.sprite_cluster.proofs.SendCluster.{cluster_sends}
use Rattle.sprite_cluster.specs.contracts.cluster.Cluster as cluster
use Rattle.sprite_top.proofs.clusters.run_by.Goals as goal

pub run_threads-requires-send-V : goal.run_threads-requires-send-V
run_threads-requires-send-V g c = λ κs lives. param_send 1 _ (arg_send _ yes (cluster.the_row (param 1 g.row.L) g.L.Link) (cluster_sends _ g.L.Link c.type_bounds.send-L))
