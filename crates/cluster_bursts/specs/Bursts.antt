-- The instructions that processes do.
use Rattle.std.specs.Prelude.{◌≡◌, ℕ, ◌+◌, ◌==◌, Bool, true, false, ◌&&◌, not, List, Option, Some, None, nat_eq, nat_lt}
use Rattle.std.specs.List.{find, list_any}
use Rattle.std.specs.Option.{option_eq, option_or}
use Rattle.std.specs.Cmp.Lexicographic.{pointwise}
use Rattle.sprite_ids.specs.Lists.{less}
use Rattle.process_machine.specs.declared.Program.{Program}
use Rattle.process_machine.specs.declared.BurstEnd.{BurstEnd}
use Rattle.process_machine.specs.declared.BurstEnd.TheVariants as burst
use Rattle.process_machine.specs.declared.Call.{Call}
use Rattle.process_machine.specs.declared.Call.TheVariants.{BadStep}
use Rattle.process_machine.specs.Machine.{Machine}
use Rattle.process_machine.specs.Runs.{EndsBy, ahead}
use Rattle.process_machine.specs.Calls.{call_at}
use Rattle.kernel_steps.specs.declared.Input.{Input}
use Rattle.kernel_steps.specs.declared.Input.TheVariants as inputs
use Rattle.unix_calls.specs.declared.Description.{Description}
use Rattle.unix_calls.specs.declared.Event.TheVariants as events
use Rattle.unix_calls.specs.Answers.{program_at}
use Rattle.cluster_bursts.specs.declared.job.Burst.{Burst}
use Rattle.cluster_bursts.specs.declared.job.Job.{Job}
use Rattle.cluster_bursts.specs.declared.outcome.BurstOutcome.{BurstOutcome}
use Rattle.cluster_bursts.specs.declared.outcome.BurstOutcome.TheVariants as outcome
use Rattle.cluster_kernels.specs.declared.State.{State}
use Rattle.cluster_kernels.specs.States.{count_at, image_at, is_ready_at, noted_step, numbered_at, pids_at, put_image, put_out, with_last}
use Rattle.cluster_steps.specs.Steps.{TakesSo}
use Rattle.kernel_rpc.specs.Sound.{Wired}

-- a burst ended where it says so
abbrev pub EndsSo : Burst → Type 0
EndsSo b = EndsBy b.program b.to b.count 10000 b.end

-- the burst is of a program of the description, that of its image, and did so many instructions of it, up to where it ended
pub record Did (c : Description) (b : Burst) : Type 0 where
  pub program : program_at c.programs b.from.number ≡ Some b.program
  pub moved : ahead b.program b.from b.count ≡ Some b.to
  pub ends : EndsSo b

-- a burst is what became of a job
pub record IsDone (job : Job) (b : Burst) : Type 0 where
  pub pid : b.pid ≡ job.pid
  pub program : b.program ≡ job.program
  pub from : b.from ≡ job.from
  pub moved : ahead job.program job.to b.count ≡ Some b.to
  pub ends : EndsSo b

-- whether a row of the bursts that are out is that of the process at the kernel
abbrev pub is_out : ℕ → ℕ → ℕ × ℕ → Bool
is_out kernel pid row = (row.0 == kernel) && (row.1 == pid)

-- whether a process can run at the kernel and doesn't run now
abbrev pub is_runnable : ℕ → State → ℕ → Bool
is_runnable kernel s pid = is_ready_at kernel pid s && not (list_any (is_out kernel pid) s.out)

-- whether a process of the kernel can
abbrev pub has_job_at : ℕ → State → Bool
has_job_at kernel s = list_any (is_runnable kernel s) (pids_at kernel s)

-- whether one can that has a greater number
abbrev pub is_next : ℕ → State → ℕ → ℕ → Bool
is_next kernel s last pid = nat_lt last pid && is_runnable kernel s pid

-- the process that is next: the first with a greater number than the one that ran last, or else the first of all
abbrev pub next_at : ℕ → State → Option ℕ
next_at kernel s = option_or (find (is_next kernel s (count_at s.last kernel)) (pids_at kernel s)) (find (is_runnable kernel s) (pids_at kernel s))

-- a job over a looked-up program
abbrev pub job_over : ℕ → Machine → Option Program → Option Job
job_over pid image None = None
job_over pid image (Some program) = Some (record { pid = pid; program = program; from = image; to = image })

-- and a looked-up image
abbrev pub job_with : Description → ℕ → Option Machine → Option Job
job_with c pid None = None
job_with c pid (Some image) = job_over pid image (program_at c.programs image.number)

-- and a looked-up process
abbrev pub job_by : Description → ℕ → Option ℕ → State → Option Job
job_by c kernel None s = None
job_by c kernel (Some pid) s = job_with c pid (image_at kernel pid s)

-- the next job of the kernel: its processes take turns by their numbers
abbrev pub job_at : Description → ℕ → State → Option Job
job_at c kernel s = job_by c kernel (next_at kernel s) s

-- the burst of that job, where there is one, is out
abbrev pub begun_by : ℕ → Option Job → State → State
begun_by kernel None s = s
begun_by kernel (Some job) s = with_last kernel job.pid (put_out kernel job.pid s)

-- the burst of the process is out no more
abbrev pub taken_back : ℕ → ℕ → State → State
taken_back kernel pid s = record s { out = less (is_out kernel pid) s.out }

-- whether two images are the same
abbrev pub same_image : Machine → Machine → Bool
same_image one other = (nat_eq one.number other.number) && ((nat_eq one.counter other.counter) && (pointwise nat_eq one.registers other.registers && pointwise (option_eq (pointwise nat_eq)) one.pages other.pages))

-- whether a looked-up image is that one
abbrev pub is_image : Option Machine → Machine → Bool
is_image None other = false
is_image (Some image) other = same_image image other

-- whether a process can run at the kernel and has that image
abbrev pub is_as_it_was : ℕ → ℕ → Machine → State → Bool
is_as_it_was kernel pid from s = is_image (image_at kernel pid s) from && is_ready_at kernel pid s

-- whether a burst of the kernel counts: it was out, and the process is what it was when the burst began
abbrev pub counts : ℕ → Burst → State → Bool
counts kernel b s = list_any (is_out kernel b.pid) s.out && is_as_it_was kernel b.pid b.from (taken_back kernel b.pid s)

-- the next call of a process whose last one has that looked-up number
abbrev pub issued : ℕ → Call → Option ℕ → Option Input
issued pid call None = None
issued pid call (Some number) = Some (inputs.Issued pid (number + 1) call)

-- what a process came to by the end of its burst
abbrev pub came_to : ℕ → Burst → BurstEnd → State → Option Input
came_to kernel b burst.Call s = issued b.pid (call_at b.program b.to) (numbered_at kernel b.pid s)
came_to kernel b burst.BadStep s = issued b.pid BadStep (numbered_at kernel b.pid s)
came_to kernel b (burst.PageNeeded page) s = Some (inputs.PageNeeded b.pid page)
came_to kernel b burst.Limit s = None

-- the burst of the kernel that counts is out no more, and is recorded
abbrev pub recorded : ℕ → Burst → State → State
recorded kernel b s = noted_step kernel (events.Burst b.pid b.count) (taken_back kernel b.pid s)

-- the kernel goes on with what the process came to, where it came to something, over a wire that goes from here to there
abbrev pub GoesOn : {L : Type 0} → (L → ℕ → ℕ → ℕ) → (L → ℕ → ℕ → ℕ) → Description → ℕ → Option Input → BurstOutcome → Wired L → Wired L → State → State → Type 0
GoesOn faults asked c kernel (Some input) (outcome.Took said) old new s t = TakesSo faults asked c kernel input said old new s t
GoesOn faults asked c kernel None outcome.Done old new s t = (new ≡ old) × (t ≡ s)
GoesOn faults asked c kernel input what old new s t = ⊥

-- what becomes of a burst of the kernel: it is lost exactly where it doesn't count; else it is recorded, the process has the image
-- that it came to, and the kernel takes what the process came to
abbrev pub EndsAs : {L : Type 0} → (L → ℕ → ℕ → ℕ) → (L → ℕ → ℕ → ℕ) → Description → ℕ → Burst → BurstOutcome → Wired L → Wired L → State → State → Type 0
EndsAs faults asked c kernel b outcome.Stale old new s t = (counts kernel b s ≡ false) × (new ≡ old) × (t ≡ taken_back kernel b.pid s)
EndsAs faults asked c kernel b what old new s t =
    (counts kernel b s ≡ true) × GoesOn faults asked c kernel (came_to kernel b b.end (recorded kernel b s)) what old new (put_image kernel b.pid b.to (recorded kernel b s)) t

-- whether a burst that ended so counted
abbrev pub has_counted : BurstOutcome → Bool
has_counted outcome.Stale = false
has_counted what = true
