-- The remote calls of other kernels that a client's kernel keeps, and those that a step of it answers.
use Rattle.std.specs.Prelude.{ℕ, ◌+◌, ◌≤◌, Option, Some, None}
use Rattle.sprite_ids.specs.Lists.{one_if, total}
use Rattle.sprite_ids.specs.declared.TxNo.{TxNo}
use Rattle.kernel_steps.specs.declared.writer.Out.{Out}
use Rattle.packet_bodies.specs.declared.ReplyBody.{ReplyBody}
use Rattle.unix_calls.specs.declared.About.{About}
use Rattle.client_homes.specs.declared.client.ClientProcs.{ClientProcs}
use Rattle.client_homes.specs.declared.client.Parked.{Parked}
use Rattle.client_homes.specs.Procs.{is_call}

-- one where somebody waits for the answer who asked by that remote call; a process of this kernel asks by none
abbrev pub one_for : TxNo → Option TxNo → ℕ
one_for tx (Some asker) = one_if (is_call asker tx)
one_for tx None = 0

-- a `wait` that is parked, and an ask of a pseudo-device that has no answer yet
abbrev pub wait_of : TxNo → ℕ × Parked → ℕ
wait_of tx row = one_for tx row.1.tx

abbrev pub ask_of : TxNo → About × Option TxNo → ℕ
ask_of tx row = one_for tx row.1

-- an answer
abbrev pub answer_of : TxNo → TxNo × ReplyBody → ℕ
answer_of tx row = one_if (is_call row.0 tx)

-- how many `wait`s and asks of that remote call the kernel keeps
abbrev pub waits_kept : TxNo → ClientProcs → ℕ
waits_kept tx s = total (wait_of tx) s.waits

abbrev pub asks_kept : TxNo → ClientProcs → ℕ
asks_kept tx s = total (ask_of tx) s.asked

abbrev pub kept : TxNo → ClientProcs → ℕ
kept tx s = waits_kept tx s + asks_kept tx s

-- and how many answers to it a step gives
abbrev pub answers_in : TxNo → Out → ℕ
answers_in tx out = total (answer_of tx) out.answers

-- the kernel keeps it: a `wait`, an ask, either of them
abbrev pub IsWaitKept : TxNo → ClientProcs → Type 0
IsWaitKept tx s = 1 ≤ waits_kept tx s

abbrev pub IsAskKept : TxNo → ClientProcs → Type 0
IsAskKept tx s = 1 ≤ asks_kept tx s

abbrev pub IsKept : TxNo → ClientProcs → Type 0
IsKept tx s = 1 ≤ kept tx s

-- the step answers it
abbrev pub IsAnswered : TxNo → Out → Type 0
IsAnswered tx out = 1 ≤ answers_in tx out
