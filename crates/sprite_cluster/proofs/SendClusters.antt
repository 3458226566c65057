-- What crosses threads with a cluster.
use denote.Param.Send.{IsSend}
use denote.Param.SendFields.{declared_send, variants_send}
use Rattle.sprite_cluster.proofs.SendRecords.{whole, event_sends, rec_sends}
use Rattle.sprite_cluster.proofs.SendClients.{client_procs_sends}
use Rattle.sprite_cluster.proofs.SendServers.{server_sends}
use Rattle.call_journal.specs.contracts.trace.Trace as trace
use Rattle.cluster_kernels.specs.contracts.kernel_state.KernelState as kernel_state
use Rattle.cluster_kernels.specs.contracts.state.State as state

pub trace_sends : IsSend trace.the_row
trace_sends = search (whole, rec_sends) depth 100 fits 400000

pub kernel_state_sends : IsSend kernel_state.the_row
kernel_state_sends = variants_send kernel_state.enum (search (whole, client_procs_sends, server_sends) depth 100 fits 400000)

pub state_sends : IsSend state.the_row
state_sends = declared_send state.the_type (search (whole, kernel_state_sends, event_sends) depth 100 fits 400000)
