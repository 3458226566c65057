-- The kernels of a cluster, and what each of them does.
use Rattle.std.specs.Prelude.{ℕ, ◌+◌, ◌-◌, Bool, true, false, List, [], ◌∷◌, ◌++◌, Option, Some, None, slice_get, slice_index, slice_set}
use Rattle.std.specs.Map.{keys_of}
use Rattle.sprite_ids.specs.declared.BlockNo.{BlockNo}
use Rattle.sprite_ids.specs.declared.FileId.{FileId}
use Rattle.sprite_ids.specs.declared.TxNo.{TxNo}
use Rattle.process_machine.specs.Machine.{Machine}
use Rattle.kernel_steps.specs.declared.Input.{Input}
use Rattle.kernel_steps.specs.declared.Out.{Out}
use Rattle.kernel_steps.specs.Outs.{started}
use Rattle.unix_calls.specs.declared.Event.{Event}
use Rattle.write_delay.specs.Delays.{due}
use Rattle.client_homes.specs.declared.ClientProcs.{ClientProcs}
use Rattle.client_moves.specs.Evicting.{is_ready}
use Rattle.client_procs.specs.Readers.{image_in, number_in}
use Rattle.cluster_kernels.specs.declared.kernel_state.KernelState.{KernelState}
use Rattle.cluster_kernels.specs.declared.kernel_state.KernelState.TheVariants as kernels
use Rattle.cluster_kernels.specs.declared.state.State.{State}
use Rattle.cluster_kernels.specs.Kernels.{can_take, image_put, kernel_step}

-- the kernel of that number
abbrev pub kernel_at : ℕ → State → Option KernelState
kernel_at kernel s = slice_get s.kernels (kernel - 1)

-- a kernel that is a client
abbrev pub as_client : KernelState → Option ClientProcs
as_client (kernels.Client client) = Some client
as_client (kernels.Server server) = None

-- and a looked-up one
abbrev pub client_in : Option KernelState → Option ClientProcs
client_in None = None
client_in (Some found) = as_client found

-- the client of that number
abbrev pub client_at : ℕ → State → Option ClientProcs
client_at kernel s = client_in (kernel_at kernel s)

-- a kernel's number in a list of one for each kernel
abbrev pub count_at : List ℕ → ℕ → ℕ
count_at counts kernel = slice_index counts (kernel - 1)

-- one recorded step more of a kernel
abbrev pub counted : ℕ → State → State
counted kernel s = record s { steps = slice_set s.steps (kernel - 1) (count_at s.steps kernel + 1) }

-- a step of the kernel is told, and counted
abbrev pub noted_step : ℕ → Event → State → State
noted_step kernel event s = record (counted kernel s) { told = s.told ++ event ∷ [] }

-- the kernel ran that process last
abbrev pub with_last : ℕ → ℕ → State → State
with_last kernel pid s = record s { last = slice_set s.last (kernel - 1) pid }

-- the kernel of that number is changed so, and that was said
abbrev pub put_step : ℕ → State → KernelState × Out → State × Out
put_step kernel s made = (record s { kernels = slice_set s.kernels (kernel - 1) made.0 }, made.1)

-- one step of a looked-up kernel; where there is none, nothing happens
abbrev pub stepped_by : ℕ → Option KernelState → Input → TxNo → State → State × Out
stepped_by kernel None input next s = (s, started next)
stepped_by kernel (Some found) input next s = put_step kernel s (kernel_step found input next (count_at s.steps kernel))

-- the kernels after one step of one of them, which sees no other kernel, and what it said
abbrev pub stepped : ℕ → Input → TxNo → State → State × Out
stepped kernel input next s = stepped_by kernel (kernel_at kernel s) input next s

-- whether a looked-up kernel can take what comes
abbrev pub can_take_by : Input → Option KernelState → Bool
can_take_by input None = true
can_take_by input (Some found) = can_take input found

-- and the kernel of that number
abbrev pub can_take_at : ℕ → Input → State → Bool
can_take_at kernel input s = can_take_by input (kernel_at kernel s)

-- a process of a looked-up kernel has that image
abbrev pub image_put_at : ℕ → ℕ → Machine → Option KernelState → State → State
image_put_at kernel pid image None s = s
image_put_at kernel pid image (Some found) s = record s { kernels = slice_set s.kernels (kernel - 1) (image_put pid image found) }

-- a process of the kernel has that image
abbrev pub put_image : ℕ → ℕ → Machine → State → State
put_image kernel pid image s = image_put_at kernel pid image (kernel_at kernel s) s

-- the block of a looked-up client that is due in a step
abbrev pub due_in : Option ClientProcs → ℕ → Option (FileId × BlockNo)
due_in None step = None
due_in (Some client) step = due client.files.delay step

-- and of the kernel
abbrev pub due_at : ℕ → State → Option (FileId × BlockNo)
due_at kernel s = due_in (client_at kernel s) (count_at s.steps kernel)

-- the processes of which a looked-up client has something
abbrev pub pids_in : Option ClientProcs → List ℕ
pids_in None = []
pids_in (Some client) = keys_of client.procs

-- and at the kernel
abbrev pub pids_at : ℕ → State → List ℕ
pids_at kernel s = pids_in (client_at kernel s)

-- whether a process can run at a looked-up client
abbrev pub ready_in : ℕ → Option ClientProcs → Bool
ready_in pid None = false
ready_in pid (Some client) = is_ready pid client

-- and at the kernel
abbrev pub is_ready_at : ℕ → ℕ → State → Bool
is_ready_at kernel pid s = ready_in pid (client_at kernel s)

-- the image of a process at a looked-up client
abbrev pub image_by : ℕ → Option ClientProcs → Option Machine
image_by pid None = None
image_by pid (Some client) = image_in pid client

-- and at the kernel
abbrev pub image_at : ℕ → ℕ → State → Option Machine
image_at kernel pid s = image_by pid (client_at kernel s)

-- the number of the last call of a process at a looked-up client
abbrev pub number_by : ℕ → Option ClientProcs → Option ℕ
number_by pid None = None
number_by pid (Some client) = number_in pid client

-- and at the kernel
abbrev pub numbered_at : ℕ → ℕ → State → Option ℕ
numbered_at kernel pid s = number_by pid (client_at kernel s)

-- the burst of the process is out at the kernel
abbrev pub put_out : ℕ → ℕ → State → State
put_out kernel pid s = record s { out = s.out ++ (kernel, pid) ∷ [] }
