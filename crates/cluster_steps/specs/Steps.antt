-- What a kernel takes, and what it says.
use Rattle.std.specs.Prelude.{◌≡◌, ℕ, true, [], ◌++◌}
use Rattle.kernel_rpc.specs.Sound.{Wired}
use Rattle.kernel_steps.specs.declared.Input.{Input}
use Rattle.kernel_steps.specs.declared.Out.{Out}
use Rattle.unix_calls.specs.declared.Description.{Description}
use Rattle.cluster_kernels.specs.declared.State.{State}
use Rattle.cluster_kernels.specs.States.{can_take_at, stepped}
use Rattle.cluster_wire.specs.Calling.{Begun}
use Rattle.cluster_wire.specs.Goings.{AllGo, next_of}
use Rattle.cluster_wire.specs.Links.{AskedFor}
use Rattle.cluster_wire.specs.Noted.{faulted_all, noted_all, untold, without_faults}
use Rattle.cluster_wire.specs.Replying.{Answered}
use Rattle.cluster_wire.specs.declared.Said.{Said}
use Rattle.cluster_steps.specs.Receivers.{all_fit}

-- what a step said is told: all that the kernel did, with the faults of its requests, and then the faults of its answers
abbrev pub says : ℕ → Said → State × Out → State
says kernel said made = record made.0 { told = faulted_all kernel said.answered (noted_all kernel made.1.events said.sent made.0.told) }

-- the kernel takes an input: one step of it, and what that said
abbrev pub took : ℕ → Input → Said → State → State
took kernel input said s = says kernel said (stepped kernel input said.next s)

-- what a step of the kernel says goes out: its remote calls begin, and then its answers go back
pub record GoesOut {L : Type 0} (faults asked : L → ℕ → ℕ → ℕ) (c : Description) (kernel : ℕ) (out : Out) (old new : Wired L) (said : Said) : Type 0 where
  pub between : Wired L
  pub requests : Begun faults asked c kernel out.sends old between said.sent
  pub answers : Answered faults asked kernel out.answers between new said.answered

-- the kernel takes an input that it can take, over a wire that goes from here to there: one step of it, with the number of the next remote
-- call. All goes
-- out that the step says, each request to kernels of the cluster that take such, and each answer to the one that waits for it; each packet
-- that went out is told, and of all that is told the faults alone aren't what the step did; the link is asked about these packets alone
pub record TakesSo {L : Type 0} (faults asked : L → ℕ → ℕ → ℕ) (c : Description) (kernel : ℕ) (input : Input) (said : Said) (old new : Wired L) (s t : State) : Type 0 where
  pub taken : can_take_at kernel input s ≡ true
  pub next : said.next ≡ next_of old.machine
  pub state : t ≡ took kernel input said s
  pub goes_out : GoesOut faults asked c kernel (stepped kernel input said.next s).1 old new said
  pub fit : all_fit c (stepped kernel input said.next s).1.sends ≡ true
  pub go : AllGo c kernel (stepped kernel input said.next s).1.sends
  pub whole : untold (stepped kernel input said.next s).1.events said.sent ≡ []
  pub all : without_faults t.told ≡ without_faults s.told ++ (stepped kernel input said.next s).1.events
  pub asks : AskedFor faults asked kernel old.link new.link said
