-- What crosses threads with a cluster: remote calls.
use denote.Param.Send.{IsSend}
use denote.Param.SendFields.{declared_send}
use Rattle.sprite_cluster.proofs.SendRecords.{whole, bytes_sends}
use Rattle.kernel_rpc.specs.contracts.call.Call as call
use Rattle.kernel_rpc.specs.contracts.table.CallTable as call_table

pub call_sends : IsSend call.the_row
call_sends = search (whole, bytes_sends) depth 100 fits 400000

pub call_table_sends : IsSend call_table.the_row
call_table_sends = declared_send call_table.the_type (search (whole, call_sends) depth 100 fits 400000)
