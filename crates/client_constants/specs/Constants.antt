-- What a client's kernel is told when the cluster begins, and never changes.
use Rattle.std.specs.Prelude.{◌≡◌, ℕ}
use Rattle.sprite_ids.specs.declared.TxNo.{TxNo}
use Rattle.process_machine.specs.Machine.{Machine}
use Rattle.kernel_steps.specs.declared.Input.{Input}
use Rattle.unix_calls.specs.declared.Description.{Description}
use Rattle.client_homes.specs.declared.client.ClientProcs.{ClientProcs}
use Rattle.client_procs.specs.Boot.{boots, swap_server}
use Rattle.client_procs.specs.Readers.{with_image}
use Rattle.client_procs.specs.Steps.{client_step}

-- the kernel knows its number, the kernels and programs of its cluster, where pages are kept, and that it is the home of its processes
pub record KnowsItsCluster (c : Description) (kernel : ℕ) (s : ClientProcs) : Type 0 where
  pub number : s.kernel ≡ kernel
  pub kernels : s.kernels ≡ c.kernels
  pub programs : s.programs ≡ c.programs
  pub swap : s.swap_server ≡ swap_server c.kernels kernel
  pub home : s.home.home ≡ kernel

-- when the cluster begins
abbrev pub BeginsKnowing : Type 0
BeginsKnowing = (c : Description) (kernel : ℕ) → KnowsItsCluster c kernel (boots c kernel)

-- after each step
abbrev pub StepKeepsKnowing : Type 0
StepKeepsKnowing = (c : Description) (kernel : ℕ) (s : ClientProcs) (input : Input) (next : TxNo) (step : ℕ) → KnowsItsCluster c kernel s → KnowsItsCluster c kernel (client_step s input next step).0

-- and when a process did instructions
abbrev pub ImageKeepsKnowing : Type 0
ImageKeepsKnowing = (c : Description) (kernel pid : ℕ) (image : Machine) (s : ClientProcs) → KnowsItsCluster c kernel s → KnowsItsCluster c kernel (with_image pid image s)
