-- One kernel of the cluster.
use Rattle.std.specs.Prelude.{ℕ, Bool, true, is_some}
use Rattle.sprite_ids.specs.declared.TxNo.{TxNo}
use Rattle.process_machine.specs.Machine.{Machine}
use Rattle.packet_bodies.specs.declared.Request.{Request}
use Rattle.packet_bodies.specs.declared.Request.TheVariants as requests
use Rattle.swap_pages.specs.Swap.{bytes_of}
use Rattle.kernel_steps.specs.declared.Input.{Input}
use Rattle.kernel_steps.specs.declared.Input.TheVariants as inputs
use Rattle.kernel_steps.specs.declared.Out.{Out}
use Rattle.client_homes.specs.declared.ClientProcs.{ClientProcs}
use Rattle.client_procs.specs.CanTake as clients
use Rattle.client_procs.specs.Steps.{client_step}
use Rattle.client_procs.specs.Readers.{all_ended, with_image}
use Rattle.server_kernel.specs.declared.Server.{Server}
use Rattle.server_kernel.specs.Steps.{server_step}
use Rattle.cluster_kernels.specs.declared.kernel_state.KernelState.{KernelState}
use Rattle.cluster_kernels.specs.declared.kernel_state.KernelState.TheVariants as kernels

-- a client after a step, and a server after one, with what was said
abbrev pub as_client : ClientProcs × Out → KernelState × Out
as_client made = (kernels.Client made.0, made.1)

abbrev pub as_server : Server × Out → KernelState × Out
as_server made = (kernels.Server made.0, made.1)

-- a kernel after one step of it, and what it said
abbrev pub kernel_step : KernelState → Input → TxNo → ℕ → KernelState × Out
kernel_step (kernels.Client client) input next step = as_client (client_step client input next step)
kernel_step (kernels.Server server) input next step = as_server (server_step server input next)

-- whether a server keeps the page for which it is asked, where it is asked for one
abbrev pub has_page_of : Request → Server → Bool
has_page_of (requests.PageIn pid page) server = is_some (bytes_of server.swap pid page)
has_page_of _ server = true

abbrev pub has_wanted_page : Input → Server → Bool
has_wanted_page (inputs.Request tx source body) server = has_page_of body server
has_wanted_page _ server = true

-- whether a kernel can take what comes
abbrev pub can_take : Input → KernelState → Bool
can_take input (kernels.Client client) = clients.can_take input client
can_take input (kernels.Server server) = has_wanted_page input server

-- a process has that image
abbrev pub image_put : ℕ → Machine → KernelState → KernelState
image_put pid image (kernels.Client client) = kernels.Client (with_image pid image client)
image_put pid image (kernels.Server server) = kernels.Server server

-- whether all processes whose home is the kernel have ended
abbrev pub has_ended : KernelState → Bool
has_ended (kernels.Client client) = all_ended client
has_ended (kernels.Server server) = true
