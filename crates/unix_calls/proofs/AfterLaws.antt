-- What an entry may change.
use Rattle.std.proofs.Common.{◌≡◌, ℕ, ◌+◌, Bool, true, false, not, cond, [], ◌∷◌, ◌++◌, Option, Some, None, refl, sym, subst, ◌∙◌}
use Rattle.std.specs.Prelude.{◌==◌, ◌&&◌}
use Rattle.std.specs.Option.{option_map, option_and_then, is_some}
use Rattle.sprite_ids.specs.Pid.{home_of}
use Rattle.sprite_ids.specs.declared.errno.Errno.{Errno}
use Rattle.sprite_ids.specs.declared.running.Ending.TheVariants as ending
use Rattle.sprite_ids.proofs.ListLaws.{some_is}
use Rattle.process_machine.specs.declared.call.Call.{Call}
use Rattle.process_machine.specs.declared.call.Call.TheVariants as call
use Rattle.process_machine.specs.declared.call.Reply.{Reply}
use Rattle.process_machine.specs.declared.call.Reply.TheVariants.{Value, Error}
use Rattle.process_machine.specs.declared.program.Program.{Program}
use Rattle.process_machine.specs.Machine.{Machine}
use Rattle.process_machine.specs.Runs.{at_next_call, call_of_next}
use Rattle.unix_calls.specs.declared.description.Description.{Description}
use Rattle.unix_calls.specs.declared.entry.Entry.{Entry}
use Rattle.unix_calls.specs.declared.entry.Part.{Part}
use Rattle.unix_calls.specs.declared.entry.Part.TheVariants as part
use Rattle.unix_calls.specs.State.{Device, Process, Unix, process_at, put_process, with_process, device_at, with_device, lives, no_descriptors}
use Rattle.unix_calls.specs.Answers.{Outcome, Answered, GoesTo, Waits, program_at, replied, refuses}
use Rattle.unix_calls.specs.NameCalls.{stat, mkdir, rmdir, unlink, rename, list, chdir, at_path}
use Rattle.unix_calls.specs.DeviceCalls.{answer_for}
use Rattle.unix_calls.specs.Same.{same_call, same_reply}
use Rattle.unix_calls.specs.After.{outcome, may_fail, is_death, state_in, failed, with_reply, after_whole, asked, after_ask, answer_due, fetched, done_with, done_at, after_death, after_part, next_is, at_call, at_image, at_program, after_living, after_of, counted, after}
use Rattle.unix_calls.specs.Laws.{IsWithin, IsKilled}
use Rattle.unix_calls.proofs.OutcomeLaws.{Others, Nobody, DoesIn, Fine, fine_refuses, fine_own}
use Rattle.unix_calls.proofs.ProcessLaws.{put_there, found_pid}
use Rattle.unix_calls.proofs.ProcessCallLaws.{fine_print, fine_ends, fine_getppid, fine_host, fine_tick, fine_fork, fine_exec, fine_wait, fine_kill, fine_migrate, fine_rexec}
use Rattle.unix_calls.proofs.NameCallLaws.{fine_at_path, fine_stat, fine_mkdir, fine_rmdir, fine_unlink, fine_rename, fine_list, fine_chdir, fine_open, fine_pd_make}
use Rattle.unix_calls.proofs.StreamCallLaws.{fine_close, fine_dup, fine_read, fine_write, fine_seek, fine_size, fine_sync, fine_ioctl, fine_pd_get, fine_pd_put}

-- each call
pub fine_outcome : (c : Description) (u : Unix) (p : Process) (called : Call) → Fine c u p (outcome c u p called)
fine_outcome c u p (call.Print bytes) = fine_print c u p bytes
fine_outcome c u p (call.Exit code) = fine_ends c u p (ending.Exit code)
fine_outcome c u p call.BadStep = fine_ends c u p ending.Bad
fine_outcome c u p call.Getpid = fine_own c u p p p.pid 0 [] refl
fine_outcome c u p call.Getppid = fine_getppid c u p
fine_outcome c u p (call.Host max) = fine_host c u p max
fine_outcome c u p call.Tick = fine_tick c u p
fine_outcome c u p call.Fork = fine_fork c u p
fine_outcome c u p (call.Exec name arg) = fine_exec c u p name arg
fine_outcome c u p call.Wait = fine_wait c u p
fine_outcome c u p (call.Kill pid) = fine_kill c u p pid
fine_outcome c u p (call.OpenFile path flags) = fine_open c u p path flags
fine_outcome c u p (call.Close fd) = fine_close c u p fd
fine_outcome c u p (call.Dup fd) = fine_dup c u p fd
fine_outcome c u p (call.Read fd many) = fine_read c u p fd many
fine_outcome c u p (call.Write fd bytes) = fine_write c u p fd bytes
fine_outcome c u p (call.Seek fd offset) = fine_seek c u p fd offset
fine_outcome c u p (call.Size fd) = fine_size c u p fd
fine_outcome c u p (call.Sync fd) = fine_sync c u p fd
fine_outcome c u p (call.Stat path) = fine_at_path c u p path (stat c u p) (fine_stat c u p)
fine_outcome c u p (call.Mkdir path) = fine_at_path c u p path (mkdir c u p) (fine_mkdir c u p)
fine_outcome c u p (call.Rmdir path) = fine_at_path c u p path (rmdir c u p) (fine_rmdir c u p)
fine_outcome c u p (call.Unlink path) = fine_at_path c u p path (unlink c u p) (fine_unlink c u p)
fine_outcome c u p (call.Rename old new) =
    fine_at_path c u p old (λ from. at_path c u p new (rename c u p from)) (λ from. fine_at_path c u p new (rename c u p from) (fine_rename c u p from))
fine_outcome c u p (call.List path max) = fine_at_path c u p path (λ directory. list c u p directory max) (λ directory. fine_list c u p directory max)
fine_outcome c u p (call.Chdir path) = fine_at_path c u p path (chdir c u p) (fine_chdir c u p)
fine_outcome c u p (call.Migrate name) = fine_migrate c u p name
fine_outcome c u p (call.PdMake path) = fine_pd_make c u p path
fine_outcome c u p (call.PdGet fd max) = fine_pd_get c u p fd max
fine_outcome c u p (call.PdPut fd bytes number) = fine_pd_put c u p fd bytes number
fine_outcome c u p (call.Ioctl fd command bytes) = fine_ioctl c u p fd
fine_outcome c u p (call.Rexec name host) = fine_rexec c u p name host
fine_outcome c u p (call.Refused e) = fine_refuses c u p e

refusal_by : (c : Description) (u v : Unix) (p : Process) (e : Errno) (o : Outcome) → Fine c u p o → o ≡ Answered (Error e) v → v ≡ with_process (replied c p (Error e)) u
refusal_by c u v p e o fine is = (subst (λ (x : Outcome). DoesIn c u p x) is fine.does).refused tt

pub refusal_changes_nothing : (c : Description) (u v : Unix) (p : Process) (called : Call) (e : Errno) → outcome c u p called ≡ Answered (Error e) v → v ≡ with_process (replied c p (Error e)) u
refusal_changes_nothing c u v p called e is = refusal_by c u v p e (outcome c u p called) (fine_outcome c u p called) is

-- ---- entries

-- what the entry of a process does: it may change others, the tree, files, streams and devices, and puts the process into that
pub record Steps (u : Unix) (pid : ℕ) (later : Unix) : Type 0 where
  pub before : Process
  pub there : process_at u.processes pid ≡ Some before
  pub alive : lives before ≡ true
  pub between : Unix
  pub caller : Process
  pub others : Others u.processes (home_of before.pid) between.processes
  pub limit : between.limit ≡ u.limit
  pub within : IsWithin u → IsWithin between
  pub own : caller.pid ≡ before.pid
  pub whole : later ≡ with_process caller between

-- where there is a state later, a fact holds of it
abbrev pub Holds : (Unix → Type 0) → Option Unix → Type 0
Holds P None = Unit {0}
Holds P (Some later) = P later

pub record Yields (P : Unix → Type 0) (o : Option Unix) : Type 0 where
  pub holds : Holds P o

pub none_yields : (P : Unix → Type 0) → Yields P None
none_yields P = record { holds = tt }

pub yields_if : (P : Unix → Type 0) (b : Bool) (x y : Option Unix) → (b ≡ true → Yields P x) → (b ≡ false → Yields P y) → Yields P (cond b x y)
yields_if P true x y yes_so no_so = yes_so refl
yields_if P false x y yes_so no_so = no_so refl

-- p stands for a living process of that number
pub record Stands (u : Unix) (pid : ℕ) (p : Process) : Type 0 where
  pub before : Process
  pub there : process_at u.processes pid ≡ Some before
  pub alive : lives before ≡ true
  pub same : p.pid ≡ before.pid
  pub living : lives p ≡ true

-- where it is put into the state, it stands there
pub moved_stands : (u : Unix) (pid : ℕ) (p : Process) → Stands u pid p → Stands (with_process p u) pid p
moved_stands u pid p s =
    let number : p.pid ≡ pid = s.same ∙ found_pid u.processes pid s.before s.there in
    record {
      before = p;
      there = subst (λ (n : ℕ). process_at (put_process p u.processes) n ≡ Some p) number (put_there p u.processes);
      alive = s.living;
      same = refl;
      living = s.living;
    }

-- a step that changes none but its caller
own_step : (u w : Unix) (pid : ℕ) (p q : Process) → Stands u pid p → w.processes ≡ u.processes → w.limit ≡ u.limit → (IsWithin u → IsWithin w) → q.pid ≡ p.pid → Steps u pid (with_process q w)
own_step u w pid p q s processes limit within own =
    record {
      before = s.before;
      there = s.there;
      alive = s.alive;
      between = w;
      caller = q;
      others = Nobody processes;
      limit = limit;
      within = within;
      own = own ∙ s.same;
      whole = refl;
    }

-- where an outcome is fine for the caller p, its state is a step
fine_state : (c : Description) (u : Unix) (pid : ℕ) (p : Process) (o : Outcome) → Stands u pid p → Fine c u p o → Yields (Steps u pid) (state_in o)
fine_state c u pid p (Answered reply later) s fine =
    record {
      holds = record {
        before = s.before;
        there = s.there;
        alive = s.alive;
        between = fine.does.between;
        caller = fine.does.caller;
        others = subst (λ (n : ℕ). Others u.processes (home_of n) fine.does.between.processes) s.same fine.does.others;
        limit = fine.does.limit;
        within = fine.does.within;
        own = fine.does.own ∙ s.same;
        whole = fine.does.whole;
      };
    }
fine_state c u pid p (GoesTo place) s fine = none_yields (Steps u pid)
fine_state c u pid p Waits s fine = none_yields (Steps u pid)

failed_steps : (c : Description) (u : Unix) (pid : ℕ) (p : Process) (called : Call) (reply : Reply) → Stands u pid p → Yields (Steps u pid) (failed c u p called reply)
failed_steps c u pid p called (Error e) s =
    yields_if (Steps u pid) (may_fail p called e) _ _ (λ on. fine_state c u pid p (refuses c u p e) s (fine_refuses c u p e)) (λ off. none_yields (Steps u pid))
failed_steps c u pid p called (Value first second bytes) s = none_yields (Steps u pid)

reply_steps : (c : Description) (u : Unix) (pid : ℕ) (p : Process) (called : Call) (o : Outcome) (reply : Reply) → Stands u pid p → Fine c u p o → Yields (Steps u pid) (with_reply c u p called o reply)
reply_steps c u pid p called (Answered due later) reply s fine =
    yields_if (Steps u pid) (same_reply due reply) _ _ (λ on. fine_state c u pid p (Answered due later) s fine) (λ off. failed_steps c u pid p called reply s)
reply_steps c u pid p called (GoesTo place) reply s fine = failed_steps c u pid p called reply s
reply_steps c u pid p called Waits reply s fine = failed_steps c u pid p called reply s

whole_steps : (c : Description) (u : Unix) (pid : ℕ) (p : Process) (called : Call) (reply : Reply) → Stands u pid p → Yields (Steps u pid) (after_whole c u p called reply)
whole_steps c u pid p called reply s =
    yields_if (Steps u pid) (is_some p.asking) _ _ (λ on. none_yields (Steps u pid)) (λ off. reply_steps c u pid p called (outcome c u p called) reply s (fine_outcome c u p called))

asked_steps : (u : Unix) (pid : ℕ) (p : Process) (called : Call) (found : Option Device) → Stands u pid p → Yields (Steps u pid) (option_map (asked u p called) found)
asked_steps u pid p called None s = none_yields (Steps u pid)
asked_steps u pid p called (Some device) s =
    record { holds = own_step u (record u { devices = with_device (record device { asks = device.asks ++ record { pid = p.pid; number = p.calls + 1; call = called } ∷ [] }) u.devices }) pid p (record p { asking = Some device.place }) s refl refl (λ h. record { files = h.files; streams = h.streams }) refl }

ask_steps : (u : Unix) (pid : ℕ) (p : Process) (called : Call) (o : Outcome) → Stands u pid p → Yields (Steps u pid) (after_ask u p called o)
ask_steps u pid p called (Answered reply later) s = none_yields (Steps u pid)
ask_steps u pid p called (GoesTo place) s = asked_steps u pid p called (device_at u.devices place) s
ask_steps u pid p called Waits s = none_yields (Steps u pid)

done_with_steps : (c : Description) (u : Unix) (pid : ℕ) (p : Process) (device : Device) (reply : Reply) (due : Option Reply) → Stands u pid p → Yields (Steps u pid) (done_with c u p device reply due)
done_with_steps c u pid p device reply None s = none_yields (Steps u pid)
done_with_steps c u pid p device reply (Some due) s =
    yields_if (Steps u pid) (same_reply due reply) _ _
    (λ on. record { holds = own_step u (fetched u p device) pid p (replied c p reply) s refl refl (λ h. record { files = h.files; streams = h.streams }) refl })
    (λ off. none_yields (Steps u pid))

done_found_steps : (c : Description) (u : Unix) (pid : ℕ) (p : Process) (reply : Reply) (found : Option Device) → Stands u pid p → Yields (Steps u pid) (option_and_then (done_at c u p reply) found)
done_found_steps c u pid p reply None s = none_yields (Steps u pid)
done_found_steps c u pid p reply (Some device) s =
    done_with_steps c u pid p device reply (answer_due u p device (answer_for p.pid device.answers)) s

death_steps : (u : Unix) (pid : ℕ) (p : Process) → Stands u pid p → Yields (Steps u pid) (after_death u p)
death_steps u pid p s =
    yields_if (Steps u pid) (p.killed && not (is_some p.asking)) _ _
    (λ on. record { holds = own_step u u pid p (record p { descriptors = no_descriptors; ending = Some ending.Killed }) s refl refl (λ h. h) refl })
    (λ off. none_yields (Steps u pid))

part_steps : (c : Description) (u : Unix) (pid : ℕ) (p : Process) (kind : Part) (called : Call) (reply : Option Reply) → Stands u pid p → Yields (Steps u pid) (after_part c u p kind called reply)
part_steps c u pid p part.Whole called (Some reply) s = whole_steps c u pid p called reply s
part_steps c u pid p part.Whole called None s = none_yields (Steps u pid)
part_steps c u pid p part.Done called (Some reply) s =
    done_found_steps c u pid p reply (option_and_then (device_at u.devices) p.asking) s
part_steps c u pid p part.Done called None s = none_yields (Steps u pid)
part_steps c u pid p part.Ask called None s =
    yields_if (Steps u pid) (is_some p.asking) _ _ (λ on. none_yields (Steps u pid)) (λ off. ask_steps u pid p called (outcome c u p called) s)
part_steps c u pid p part.Ask called (Some reply) s = none_yields (Steps u pid)
part_steps c u pid p part.Death called reply s = none_yields (Steps u pid)

-- a fact of the state after an entry, from the fact for its part, whoever makes it: he stands at his call, in the state too, and
-- the entry's call is the same as his
abbrev pub PartYields : (Unix → Type 0) → Description → Unix → Entry → Type 0
PartYields P c u e = (q : Process) (claimed called : Call) → e.call ≡ Some claimed → same_call claimed called ≡ true → Stands u e.pid q → Yields P (after_part c (with_process q u) q e.part called e.reply)

next_yields : (P : Unix → Type 0) (c : Description) (u : Unix) (q : Process) (e : Entry) (claimed : Call) (found : Option Call) → PartYields P c u e → e.call ≡ Some claimed → Stands u e.pid q → Yields P (next_is c (with_process q u) q e claimed found)
next_yields P c u q e claimed None by_part is s = none_yields P
next_yields P c u q e claimed (Some called) by_part is s =
    yields_if P (same_call claimed called) _ _ (λ on. by_part q claimed called is on s) (λ off. none_yields P)

image_yields : (P : Unix → Type 0) (c : Description) (u : Unix) (p : Process) (e : Entry) (program : Program) (claimed : Call) (found : Option Machine) → PartYields P c u e → e.call ≡ Some claimed → Stands u e.pid p → Yields P (at_image c u p e program claimed found)
image_yields P c u p e program claimed None by_part is s = none_yields P
image_yields P c u p e program claimed (Some image) by_part is s =
    let s_moved : Stands u e.pid (record p { image = image }) = record { before = s.before; there = s.there; alive = s.alive; same = s.same; living = s.living } in
    next_yields P c u (record p { image = image }) e claimed (call_of_next program (Some image)) by_part is s_moved

program_yields : (P : Unix → Type 0) (c : Description) (u : Unix) (p : Process) (e : Entry) (claimed : Call) (found : Option Program) → PartYields P c u e → e.call ≡ Some claimed → Stands u e.pid p → Yields P (at_program c u p e claimed found)
program_yields P c u p e claimed None by_part is s = none_yields P
program_yields P c u p e claimed (Some program) by_part is s = image_yields P c u p e program claimed (at_next_call program p.image) by_part is s

living_yields : (P : Unix → Type 0) (c : Description) (u : Unix) (p : Process) (e : Entry) (claimed : Option Call) → PartYields P c u e → Yields P (after_death u p) → e.call ≡ claimed → Stands u e.pid p → Yields P (after_living c u p e claimed)
living_yields P c u p e None by_part by_death is s = yields_if P (is_death e) _ _ (λ on. by_death) (λ off. none_yields P)
living_yields P c u p e (Some claimed) by_part by_death is s =
    yields_if P (e.number == p.calls + 1) _ _ (λ on. program_yields P c u p e claimed (program_at c.programs p.image.number) by_part is s) (λ off. none_yields P)

pub found_yields : (P : Unix → Type 0) (c : Description) (u : Unix) (e : Entry) (found : Option Process) → PartYields P c u e → ((q : Process) → Stands u e.pid q → process_at u.processes e.pid ≡ Some q → Yields P (after_death u q)) → process_at u.processes e.pid ≡ found → Yields P (after_of c u e found)
found_yields P c u e None by_part by_death there = none_yields P
found_yields P c u e (Some p) by_part by_death there =
    yields_if P (lives p) _ _
    (λ on. let s : Stands u e.pid p = record { before = p; there = there; alive = on; same = refl; living = on } in living_yields P c u p e e.call by_part (by_death p s there) refl s)
    (λ off. none_yields P)

-- the state at which an entry's step begins: as it was, or with its process at its call
pub data IsMoved (u : Unix) (pid : ℕ) (first : Unix) : Type 0 where
  Still : first ≡ u → IsMoved u pid first
  Moved : (q : Process) → Stands u pid q → first ≡ with_process q u → IsMoved u pid first

pub record Moves (u : Unix) (pid : ℕ) (later : Unix) : Type 0 where
  pub first : Unix
  pub moved : IsMoved u pid first
  pub steps : Steps first pid later

yields_mapped : (P Q : Unix → Type 0) (o : Option Unix) → ((v : Unix) → P v → Q v) → Yields P o → Yields Q o
yields_mapped P Q None f h = none_yields Q
yields_mapped P Q (Some v) f h = record { holds = f v h.holds }

-- an entry is a step
entry_steps : (c : Description) (u : Unix) (e : Entry) → Yields (Moves u e.pid) (after_of c u e (process_at u.processes e.pid))
entry_steps c u e =
    found_yields (Moves u e.pid) c u e (process_at u.processes e.pid)
    (λ q claimed called is same s. yields_mapped (Steps (with_process q u) e.pid) (Moves u e.pid) (after_part c (with_process q u) q e.part called e.reply)
    (λ v steps. record { first = with_process q u; moved = Moved q s refl; steps = steps })
    (part_steps c (with_process q u) e.pid q e.part called e.reply (moved_stands u e.pid q s)))
    (λ q s there. yields_mapped (Steps u e.pid) (Moves u e.pid) (after_death u q) (λ v steps. record { first = u; moved = Still refl; steps = steps }) (death_steps u e.pid q s)) refl

-- an entry's state is that of a step, with one entry more
pub record Entered (u : Unix) (pid : ℕ) (v : Unix) : Type 0 where
  pub later : Unix
  pub first : Unix
  pub moved : IsMoved u pid first
  pub steps : Steps first pid later
  pub whole : v ≡ counted later

entered_by : (u v : Unix) (pid : ℕ) (o : Option Unix) → Yields (Moves u pid) o → option_map counted o ≡ Some v → Entered u pid v
entered_by u v pid None h e = absurd (cc)
entered_by u v pid (Some later) h e =
    record { later = later; first = h.holds.first; moved = h.holds.moved; steps = h.holds.steps; whole = sym (some_is (counted later) v e) }

pub entered : (c : Description) (u v : Unix) (e : Entry) → after c u e ≡ Some v → Entered u e.pid v
entered c u v e is =
    entered_by u v e.pid (after_of c u e (process_at u.processes e.pid)) (entry_steps c u e) is

-- ---- deaths

pending_by : (a b : Bool) → (a && b) ≡ true → a ≡ true
pending_by true b h = refl
pending_by false b h = h

killed_death : (u : Unix) (pid : ℕ) (p : Process) → process_at u.processes pid ≡ Some p → Yields (λ (v : Unix). IsKilled u pid) (after_death u p)
killed_death u pid p there =
    yields_if (λ (v : Unix). IsKilled u pid) (p.killed && not (is_some p.asking)) _ _
    (λ on. record { holds = record { process = p; there = there; pending = pending_by p.killed (not (is_some p.asking)) on } })
    (λ off. none_yields (λ (v : Unix). IsKilled u pid))

dead_part : (P : Unix → Type 0) (c : Description) (u : Unix) (p : Process) (kind : Part) (called : Call) (reply : Option Reply) → kind ≡ part.Death → Yields P (after_part c u p kind called reply)
dead_part P c u p part.Whole called reply e = absurd (cc)
dead_part P c u p part.Ask called reply e = absurd (cc)
dead_part P c u p part.Done called reply e = absurd (cc)
dead_part P c u p part.Death called reply e = none_yields P

yielded_by : (P : Unix → Type 0) (o : Option Unix) (v : Unix) → Yields P o → option_map counted o ≡ Some v → (w : Unix) × P w
yielded_by P None v h e = absurd (cc)
yielded_by P (Some w) v h e = (w, h.holds)

pub death_is_of_killed : (c : Description) (u v : Unix) (e : Entry) → after c u e ≡ Some v → e.part ≡ part.Death → IsKilled u e.pid
death_is_of_killed c u v e is dead =
    (yielded_by (λ (w : Unix). IsKilled u e.pid) (after_of c u e (process_at u.processes e.pid)) v
    (found_yields (λ (w : Unix). IsKilled u e.pid) c u e (process_at u.processes e.pid) (λ q claimed called is same s. dead_part (λ (w : Unix). IsKilled u e.pid) c (with_process q u) q e.part called e.reply dead) (λ q s there. killed_death u e.pid q there) refl) is).1
