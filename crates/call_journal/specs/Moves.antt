-- A process runs where it is, and moves for a cause: its own call, or an eviction (Douglis and Ousterhout 1991).
use Rattle.std.specs.Prelude.{ℕ, ◌+◌, ◌==◌, Bool, true, false, ◌&&◌, ◌||◌, not, if◌then◌else◌, List, [], ◌∷◌, nat_lt, count_by, Option, Some, None}
use Rattle.std.specs.List.{list_any}
use Rattle.sprite_ids.specs.Pid.{home_of}
use Rattle.process_machine.specs.declared.call.Call.{Call}
use Rattle.unix_calls.specs.declared.description.Description.{Description}
use Rattle.unix_calls.specs.declared.description.EvictLine.{EvictLine}
use Rattle.unix_calls.specs.declared.description.KernelLine.{KernelLine}
use Rattle.unix_calls.specs.declared.event.Event.{Event}
use Rattle.unix_calls.specs.declared.event.Event.TheVariants as event
use Rattle.unix_calls.specs.declared.event.Rec.{Rec}
use Rattle.unix_calls.specs.Same.{same_text}
use Rattle.unix_calls.specs.State.{Unix, holds_a_master, process_at}
use Rattle.call_journal.specs.Past.{Past, holds, place_of, is_moving, each_record, some_record, since_last, count_records, child_of_entry}
use Rattle.call_journal.specs.Matching.{is_issue_of, is_any_issue, is_return, is_entry_at, is_freeze_of, is_thaw_of, is_at, has_event}
use Rattle.call_journal.specs.Calls.{move_target, is_move, issued_call, or_else}
use Rattle.call_journal.specs.Formed.{last_issue}

-- the number of the kernel of that name, the first kernel having the number given; 0 where none has it
abbrev pub kernel_from : ℕ → List KernelLine → List ℕ → ℕ
kernel_from number [] name = 0
kernel_from number (line ∷ lines) name = if same_text line.name name then number else kernel_from (number + 1) lines name

abbrev pub kernel_named : Description → List ℕ → ℕ
kernel_named c name = kernel_from 1 c.kernels name

-- a process is at that kernel, and not on its way
abbrev pub is_placed : Past → ℕ → ℕ → Bool
is_placed past pid kernel = holds (λ at. at == kernel) (place_of past pid)

-- the call of a process that is issued and was not entered so far
abbrev pub unentered_in : ℕ → ℕ → List Rec → Option Call
unentered_in pid number records =
    if list_any (has_event (is_entry_at pid number)) records then None else issued_call pid number records

abbrev pub unentered_call : ℕ → List Rec → Option Call
unentered_call pid records = unentered_in pid (last_issue pid records) records

-- a move to a kernel enters where the process is there, or is on its way
abbrev pub moves_to : Description → Past → ℕ → Option (List ℕ) → Bool
moves_to c past pid None = true
moves_to c past pid (Some name) = is_placed past pid (kernel_named c name) || is_moving past pid

-- the target of a move of that call that was entered on the way
abbrev pub target_on_way : Past → ℕ → ℕ → Event → Option (List ℕ)
target_on_way past pid number (event.Enter entry) =
    if entry.pid == pid && entry.number == number && is_moving past pid then move_target entry.call entry.reply else None
target_on_way past pid number _ = None

-- a call returns at a kernel, behind the thaw there; the records are those behind its entry
abbrev pub arrives_at : Description → ℕ → ℕ → Option (List ℕ) → List Rec → Bool
arrives_at c pid kernel None rest = true
arrives_at c pid kernel (Some name) rest =
    kernel == kernel_named c name && list_any (is_at kernel (is_thaw_of pid)) rest

-- no record is the entry of a move of that call on the way, whose return is due elsewhere
abbrev pub returns_well : Description → Past → ℕ → ℕ → ℕ → Bool
returns_well c past pid number kernel =
    not (some_record c (λ earlier r rest. not (arrives_at c pid kernel (target_on_way earlier pid number r.event) rest)) past.records)

-- how many calls were issued at a kernel
abbrev pub issues_at : ℕ → List Rec → ℕ
issues_at kernel records = count_by (is_at kernel is_any_issue) records

-- the entry that made a process, if it was a fork's: the number of that call and of its process
pub record Birth : Type 0 where
  pub parent : ℕ
  pub number : ℕ

abbrev pub birth_by : ℕ → Event → Option Birth
birth_by pid (event.Enter entry) =
    if holds (λ child. child == pid) (child_of_entry entry) then Some (record { parent = entry.pid; number = entry.number }) else None
birth_by pid _ = None

abbrev pub birth_of : ℕ → List Rec → Option Birth
birth_of pid [] = None
birth_of pid (rec ∷ rest) = or_else (birth_by pid rec.event) (birth_of pid rest)

-- the fork that made a process has returned; a process of the start has none
abbrev pub is_born : Option Birth → List Rec → Bool
is_born None records = true
is_born (Some birth) records = list_any (has_event (is_return birth.parent birth.number)) records

-- at that issue an eviction is due for a process: the issue is the one that the line counts to, the process is there, and it is foreign
abbrev pub is_due_at : EvictLine → Past → ℕ → Rec → Bool
is_due_at line past pid rec =
    is_at line.host is_any_issue rec && issues_at line.host past.records + 1 == line.after && is_placed past pid line.host
    && not (home_of pid == line.host) && is_born (birth_of pid past.records) past.records

-- how many evictions of a kernel became due for a process
abbrev pub is_line_due : Description → List Rec → ℕ → ℕ → EvictLine → Bool
is_line_due c records pid kernel line =
    line.host == kernel && some_record c (λ earlier r rest. is_due_at line earlier pid r) records

abbrev pub due_evictions : Description → List Rec → ℕ → ℕ → ℕ
due_evictions c records pid kernel = count_by (is_line_due c records pid kernel) c.evicts

-- a process is inside a call of its own that moves it, not entered so far, and wasn't frozen since
abbrev pub is_own_move : Past → ℕ → Bool
is_own_move past pid =
    holds is_move (unentered_call pid past.records)
    && not (list_any (has_event (is_freeze_of pid)) (since_last (has_event (is_issue_of pid)) past.records))

-- a freeze at a kernel by an eviction: no call of the process's own asked for it
abbrev pub is_eviction : Past → ℕ → ℕ → Rec → Bool
is_eviction past pid kernel rec = is_at kernel (is_freeze_of pid) rec && not (is_own_move past pid)

-- how many freezes of a process at a kernel were evictions
abbrev pub used_evictions : Description → List Rec → ℕ → ℕ → ℕ
used_evictions c records pid kernel = count_records c (λ earlier r rest. is_eviction earlier pid kernel r) records

-- a process is frozen in its own move, or by an eviction that is due and wasn't used
abbrev pub is_frozen_well : Description → Past → ℕ → ℕ → Bool
is_frozen_well c past pid kernel =
    is_own_move past pid || nat_lt (used_evictions c past.records pid kernel) (due_evictions c past.records pid kernel)

-- the last freeze of a process was an eviction
abbrev pub is_last_eviction : Past → ℕ → Rec → List Rec → Bool
is_last_eviction earlier pid rec rest =
    has_event (is_freeze_of pid) rec && not (is_own_move earlier pid) && not (list_any (has_event (is_freeze_of pid)) rest)

-- a process that was evicted goes on at its home
abbrev pub is_thawed_well : Description → Past → ℕ → ℕ → Bool
is_thawed_well c past pid kernel =
    kernel == home_of pid || not (some_record c (λ earlier r rest. is_last_eviction earlier pid r rest) past.records)

-- an eviction became due for a process, and since then it was neither frozen nor did it issue a call
abbrev pub is_left : EvictLine → Past → ℕ → Rec → List Rec → Bool
is_left line earlier pid rec rest =
    is_due_at line earlier pid rec && not (list_any (has_event (is_issue_of pid)) rest)
    && not (list_any (has_event (is_freeze_of pid)) rest)

abbrev pub is_overdue : Description → Past → ℕ → ℕ → EvictLine → Bool
is_overdue c past pid kernel line =
    line.host == kernel && some_record c (λ earlier r rest. is_left line earlier pid r rest) past.records

-- a process holds the master stream of a device
abbrev pub is_master : Option Unix → ℕ → Bool
is_master None pid = false
is_master (Some u) pid = holds (holds_a_master u) (process_at u.processes pid)

-- a process that issues a call is there, and an eviction that is due for it was heeded, unless it holds a master stream
abbrev pub is_issued_well : Description → Past → ℕ → ℕ → Bool
is_issued_well c past pid kernel =
    is_placed past pid kernel && (is_master past.unix pid || not (list_any (is_overdue c past pid kernel) c.evicts))

abbrev pub runs_well : Description → Past → ℕ → Event → Bool
runs_well c past kernel (event.Burst pid count) = is_placed past pid kernel
runs_well c past kernel (event.Issue pid number call) = is_issued_well c past pid kernel
runs_well c past kernel (event.Freeze pid) = is_placed past pid kernel && is_frozen_well c past pid kernel
runs_well c past kernel (event.Thaw pid) = is_thawed_well c past pid kernel
runs_well c past kernel (event.Enter entry) = moves_to c past entry.pid (move_target entry.call entry.reply)
runs_well c past kernel (event.Return pid number reply) = returns_well c past pid number kernel
runs_well c past kernel _ = true

-- each record of a process is so
abbrev pub processes_run_where_they_are : Description → List Rec → Bool
processes_run_where_they_are c trace = each_record c (λ past rec rest. runs_well c past rec.kernel rec.event) trace
