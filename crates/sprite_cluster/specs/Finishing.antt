-- How a run stands.
use Rattle.std.specs.Prelude.{◌≡◌, ℕ, zero, suc, ◌<◌, ◌≤◌, ◌==◌, List, [], ◌+◌, Bool, false, ◌||◌, not, if◌then◌else◌, nat_le, length}
use Rattle.std.specs.List.{list_all}
use Rattle.sprite_ids.specs.declared.Finish.{Finish}
use Rattle.sprite_ids.specs.declared.Finish.TheVariants as finish
use Rattle.kernel_rpc.specs.Machine.{Machine, offered}
use Rattle.unix_calls.specs.declared.Description.{Description}
use Rattle.unix_calls.specs.declared.Rec.{Rec}
use Rattle.call_journal.specs.Units.{units_of}
use Rattle.cluster_kernels.specs.declared.State.{State}
use Rattle.cluster_kernels.specs.Kernels.{has_ended}
use Rattle.cluster_choices.specs.Choosing.{choices_at}
use Rattle.cluster_bursts.specs.Bursts.{has_job_at}

-- whether something can happen at the kernel: it has a choice, or a process can run
abbrev pub is_busy : Machine → State → ℕ → Bool
is_busy machine s kernel = has_job_at kernel s || not (length (choices_at kernel s machine) == 0)

-- whether something can happen at one of the first kernels
abbrev pub are_busy : ℕ → Machine → State → Bool
are_busy zero machine s = false
are_busy (suc n) machine s = are_busy n machine s || is_busy machine s (n + 1)

-- whether something can happen in a cluster of so many kernels: a burst is out, a kernel has a choice, or a process can run
abbrev pub may_go_on : ℕ → Machine → State → Bool
may_go_on kernels machine s = not (length s.out == 0) || are_busy kernels machine s

-- how a run stands that has memory: the first that holds
abbrev pub finish_of : Description → List Rec → Machine → State → Finish
finish_of c trace machine s =
    if list_all has_ended s.kernels then finish.AllEnded
    else if nat_le c.budget (units_of trace) then finish.Budget
    else if may_go_on (length c.kernels) machine s then finish.Running
    else finish.Stalled

-- and any run
abbrev pub stands_so : Bool → Description → List Rec → Machine → State → Finish
stands_so closed c trace machine s = if closed then finish.OutOfMemory else finish_of c trace machine s

-- where the run stands so, its budget is spent exactly where it says so
abbrev pub IsSpent : Description → List Rec → Finish → Type 0
IsSpent c trace finish.Budget = c.budget ≤ units_of trace
IsSpent c trace finish.Running = units_of trace < c.budget
IsSpent c trace finish.Stalled = units_of trace < c.budget
IsSpent c trace end = Unit {0}

-- nothing can happen at the kernel: no copy of a packet is in flight to it, no timer of it may fire, no block of it is due, and no
-- process of it can run
pub record IsStillAt (machine : Machine) (s : State) (kernel : ℕ) : Type 0 where
  pub no_copies : offered machine kernel ≡ []
  pub no_choices : choices_at kernel s machine ≡ []
  pub no_job : has_job_at kernel s ≡ false

-- nothing can happen in a cluster of so many kernels, and no burst is out
pub record IsStill (kernels : ℕ) (machine : Machine) (s : State) : Type 0 where
  pub none_out : s.out ≡ []
  pub still : (kernel : ℕ) → (1 ≤ kernel) × (kernel ≤ kernels) → IsStillAt machine s kernel
