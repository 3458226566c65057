-- A burst does as many instructions as its process has before it.
use Rattle.std.specs.Prelude.{ℕ, zero, suc, ◌+◌, ◌==◌, Bool, true, ◌&&◌, ◌||◌, if◌then◌else◌, List, [], ◌∷◌, nat_le, Option, Some, None}
use Rattle.std.specs.Option.{option_map, option_and_then}
use Rattle.process_machine.specs.declared.program.Program.{Program}
use Rattle.process_machine.specs.Machine.{Machine}
use Rattle.process_machine.specs.Steps.{Step, Moved, AtCall, AtBadStep, AtPage, step_of}
use Rattle.process_machine.specs.Runs.{call_bound}
use Rattle.unix_calls.specs.declared.description.Description.{Description}
use Rattle.unix_calls.specs.declared.event.Event.{Event}
use Rattle.unix_calls.specs.declared.event.Event.TheVariants as event
use Rattle.unix_calls.specs.declared.event.Rec.{Rec}
use Rattle.unix_calls.specs.declared.state.Process.{Process}
use Rattle.unix_calls.specs.Answers.{program_at}
use Rattle.call_journal.specs.Past.{Past, process_in, each_record, since_last}
use Rattle.call_journal.specs.Matching.{is_issue_of, is_entry_of, is_freeze_of, is_any_send, has_event}
use Rattle.call_journal.specs.Formed.{next_is}

-- the search for the first call goes on after a step that moves, and counts it
abbrev pub counts_on : (Machine → Option ℕ) → Step → Option ℕ
counts_on next (Moved later) = option_map (λ n. n + 1) (next later)
counts_on next AtCall = Some 0
counts_on next AtBadStep = Some 0
counts_on next (AtPage k) = None

-- how many instructions come before the first system call or bad step, if it comes within that many
abbrev pub distance_within : Program → ℕ → Machine → Option ℕ
distance_within p zero m = counts_on (λ later. None) (step_of p m)
distance_within p (suc n) m = counts_on (distance_within p n) (step_of p m)

abbrev pub distance : Program → Machine → Option ℕ
distance p m = distance_within p call_bound m

-- from a process's image in the one-kernel Unix; none where the process makes no call any more
abbrev pub distance_of : Description → Process → Option ℕ
distance_of c p = option_and_then (λ program. distance program p.image) (program_at c.programs p.image.number)

-- the instructions of a process's bursts
abbrev pub instructions_of : ℕ → Event → ℕ
instructions_of pid (event.Burst p count) = if p == pid then count else 0
instructions_of pid _ = 0

abbrev pub instructions_in : ℕ → List Rec → ℕ
instructions_in pid [] = 0
instructions_in pid (rec ∷ rest) = instructions_of pid rec.event + instructions_in pid rest

-- since the process's last entry, or its birth
abbrev pub done_since_entry : ℕ → List Rec → ℕ
done_since_entry pid records = instructions_in pid (since_last (has_event (is_entry_of pid)) records)

-- a short burst has its reason directly behind it: a call or an entry of its process, its freeze, or a packet of the kernel
abbrev pub is_send_at : ℕ → Rec → Bool
is_send_at kernel rec = rec.kernel == kernel && is_any_send rec.event

abbrev pub is_reason : ℕ → ℕ → Rec → Bool
is_reason kernel pid rec =
    is_issue_of pid rec.event || is_entry_of pid rec.event || is_freeze_of pid rec.event || is_send_at kernel rec

abbrev pub is_whole_burst : ℕ → ℕ → ℕ → List Rec → Bool
is_whole_burst kernel pid count rest = count == 10000 || (nat_le count 10000 && next_is (is_reason kernel pid) rest)

-- no more instructions than there are before the call, and exactly these at its issue; any number where none comes
abbrev pub is_at_most : ℕ → Option ℕ → Bool
is_at_most count None = true
is_at_most count (Some most) = nat_le count most

abbrev pub is_exactly : ℕ → Option ℕ → Bool
is_exactly count None = true
is_exactly count (Some due) = count == due

abbrev pub due_in : Description → Past → ℕ → Option ℕ
due_in c past pid = option_and_then (distance_of c) (process_in past pid)

abbrev pub counts_well : Description → Past → ℕ → Event → List Rec → Bool
counts_well c past kernel (event.Burst pid count) rest =
    is_whole_burst kernel pid count rest && is_at_most (done_since_entry pid past.records + count) (due_in c past pid)
counts_well c past kernel (event.Issue pid number call) rest = is_exactly (done_since_entry pid past.records) (due_in c past pid)
counts_well c past kernel _ rest = true

abbrev pub bursts_are_worth : Description → List Rec → Bool
bursts_are_worth c trace = each_record c (λ past rec rest. counts_well c past rec.kernel rec.event rest) trace
