-- What crosses threads with a cluster: a file server.
use denote.Param.Send.{IsSend}
use denote.Param.SendFields.{declared_send}
use Rattle.sprite_cluster.proofs.SendRecords.{whole, path_sends}
use Rattle.sprite_cluster.proofs.SendTables.{names_sends, shadows_sends, store_sends, swap_sends, versions_sends}
use Rattle.sprite_cluster.proofs.SendPackets.{out_sends, request_sends}
use Rattle.server_kernel.specs.contracts.asked.Asked as asked
use Rattle.server_kernel.specs.contracts.server.Domain as domain
use Rattle.server_kernel.specs.contracts.server.Server as server

pub asked_sends : IsSend asked.the_row
asked_sends = declared_send asked.the_type (search (whole, request_sends) depth 100 fits 400000)

pub domain_sends : IsSend domain.the_row
domain_sends = declared_send domain.the_type (search (whole, path_sends, names_sends) depth 100 fits 400000)

pub server_sends : IsSend server.the_row
server_sends = declared_send server.the_type (search (whole, path_sends, domain_sends, store_sends, versions_sends, shadows_sends, swap_sends, asked_sends, out_sends) depth 100 fits 400000)
