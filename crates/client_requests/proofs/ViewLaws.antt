-- What of a client's kernel can change without a change of what it keeps and has answered, for any predicate of that.
use Rattle.std.proofs.Common.{◌≡◌, refl, sym, subst, ℕ, Bool, true, false, cond, List, [], ◌∷◌, ◌++◌, Option, Some, None, option_map}
use Rattle.std.specs.List.{list_any}
use Rattle.sprite_ids.specs.Lists.{changed}
use Rattle.kernel_steps.specs.Rows.{is_under, with_value}
use Rattle.process_machine.specs.declared.Reply.{Reply}
use Rattle.process_machine.specs.Machine.{Machine}
use Rattle.packet_bodies.specs.declared.HomeRequest.{HomeRequest}
use Rattle.packet_bodies.specs.declared.ReplyBody.{ReplyBody}
use Rattle.packet_bodies.specs.declared.ReplyBody.TheVariants as bodies
use Rattle.pseudo_device.specs.Device.{Asks}
use Rattle.unix_calls.specs.declared.About.{About}
use Rattle.unix_calls.specs.declared.Entry.{Entry}
use Rattle.unix_calls.specs.declared.Event.TheVariants.{Enter}
use Rattle.home_table.specs.Home.{Table}
use Rattle.client_file_tables.specs.declared.client_files.ClientFiles.{ClientFiles}
use Rattle.client_file_tables.specs.Rows.{same_pid}
use Rattle.client_homes.specs.declared.client.ClientProcs.{ClientProcs}
use Rattle.client_homes.specs.declared.process.Proc.{Proc}
use Rattle.client_homes.specs.declared.process.ProcState.{ProcState}
use Rattle.client_homes.specs.declared.process.ProcState.TheVariants as states
use Rattle.client_homes.specs.Births as births
use Rattle.client_homes.specs.Ends as ending
use Rattle.client_homes.specs.Killing as killing
use Rattle.client_homes.specs.Procs as procs_of
use Rattle.client_homes.specs.Says as says
use Rattle.client_homes.specs.Waits as waiting
use Rattle.client_devices.specs.Tables as tables
use Rattle.client_moves.specs.Freezing as freezing
use Rattle.client_moves.specs.Paging as paging
use Rattle.client_moves.specs.Returning as returning
use Rattle.client_procs.specs.Launching as launching
use Rattle.client_requests.proofs.CountLaws.{View, view}

module _ (R : View → Type 0) where
  abbrev pub Kept : ClientProcs → Type 0
  Kept s = R (view s)

  pub on_if : (b : Bool) (s t : ClientProcs) → Kept s → Kept t → Kept (cond b s t)
  on_if true s t p q = p
  on_if false s t p q = q

  -- Processes

  pub proc_kept : (o : Option Proc) (pid : ℕ) (s : ClientProcs) → Kept s → Kept (procs_of.with_proc pid o s)
  proc_kept (Some proc) pid s p = p
  proc_kept None pid s p = p

  pub changed_proc : (f : Proc → Proc) (pid : ℕ) (s : ClientProcs) → Kept s → Kept (procs_of.with_proc pid (option_map f (procs_of.proc_at pid s)) s)
  changed_proc f pid s p = proc_kept (option_map f (procs_of.proc_at pid s)) pid s p

  pub state_kept : (pid : ℕ) (state : ProcState) (s : ClientProcs) → Kept s → Kept (procs_of.in_state pid state s)
  state_kept pid state s p = changed_proc (λ proc. record proc { state = state }) pid s p

  pub flagged : (pid : ℕ) (s : ClientProcs) → Kept s → Kept (procs_of.killed_at pid s)
  flagged pid s p = changed_proc (λ proc. record proc { killed = true }) pid s p

  pub replied : (pid : ℕ) (reply : Reply) (s : ClientProcs) → Kept s → Kept (procs_of.replies pid reply s)
  replied pid reply s p = state_kept pid states.Returning s p

  answered_by : (o : Option Entry) (pid : ℕ) (reply : Reply) (s : ClientProcs) → Kept s → Kept (procs_of.answers_by pid reply o s)
  answered_by (Some entry) pid reply s p = replied pid reply (says.notes (Enter entry) s) p
  answered_by None pid reply s p = p

  pub answered_here : (pid : ℕ) (reply : Reply) (s : ClientProcs) → Kept s → Kept (procs_of.answers_here pid reply s)
  answered_here pid reply s p = answered_by (procs_of.entry_at pid reply s) pid reply s p

  entered_by : (o : Option Entry) (s : ClientProcs) → Kept s → Kept (procs_of.enters_if o s)
  entered_by (Some entry) s p = p
  entered_by None s p = p

  pub entered_own : (pid : ℕ) (reply : Reply) (s : ClientProcs) → Kept s → Kept (procs_of.enters_own pid reply s)
  entered_own pid reply s p = entered_by (procs_of.entry_at pid reply s) s p

  pub ended : (pid : ℕ) (about : Option About) (s : ClientProcs) → Kept s → Kept (ending.ends pid about s)
  unfolding ending.closes_all
  ended pid about s p = state_kept pid states.Ending s p

  cwd_set : (b : Bool) (files : ClientFiles) (rows more : List (ℕ × List (List ℕ))) (s : ClientProcs) → files ≡ s.files → Kept s → Kept (says.with_files (cond b (record files { cwds = rows }) (record files { cwds = more })) s)
  cwd_set true files rows more s e p = subst (λ (f : ClientFiles). R (record (view s) { answers = f.out.answers })) (sym e) p
  cwd_set false files rows more s e p = subst (λ (f : ClientFiles). R (record (view s) { answers = f.out.answers })) (sym e) p

  pub cwd_kept : (o : Option (List (List ℕ))) (child : ℕ) (s : ClientProcs) → Kept s → Kept (births.with_cwd child o s)
  cwd_kept (Some cwd) child s p =
      cwd_set (list_any (is_under same_pid child) s.files.cwds) s.files (changed (is_under same_pid child) (with_value cwd) s.files.cwds) (s.files.cwds ++ (child, cwd) ∷ []) s refl p
  cwd_kept None child s p = p

  -- Homes

  -- the table changes, where the process is of this home
  pub table_kept : (native : Bool) (table : Table) (s : ClientProcs) → Kept s → Kept (cond native (record s { home = table }) s)
  table_kept native table s p = on_if native (record s { home = table }) s p p

  pub entered_home : (o : Option Reply) (request : HomeRequest) (s : ClientProcs) → Kept s → Kept (waiting.enters_if request o s)
  entered_home (Some reply) request s p = p
  entered_home None request s p = p

  pub waiting_forgotten : (pid : ℕ) (s : ClientProcs) → Kept s → Kept (killing.forgets_waiting pid s)
  waiting_forgotten pid s p = on_if (killing.is_waiting (killing.kill_at pid s)) (killing.forgets_kill pid s) s p p

  -- Pseudo-devices

  pub device_kept : (o : Option Asks) (device : ℕ) (s : ClientProcs) → Kept s → Kept (tables.with_device device o s)
  device_kept (Some asks) device s p = p
  device_kept None device s p = p

  -- Programs, replies and pages

  pub fresh_kept : (o : Option Machine) (pid : ℕ) (s : ClientProcs) → Kept s → Kept (launching.has_fresh_if pid o s)
  fresh_kept (Some image) pid s p = changed_proc (launching.freshened image) pid s p
  fresh_kept None pid s p = p

  pub noted_return : (o : Option ℕ) (pid : ℕ) (reply : Reply) (s : ClientProcs) → Kept s → Kept (returning.notes_return_as pid reply o s)
  noted_return (Some number) pid reply s p = p
  noted_return None pid reply s p = p

  pub page_kept : (body : ReplyBody) (pid page : ℕ) (s : ClientProcs) → Kept s → Kept (paging.has_page pid page body s)
  page_kept (bodies.Page bytes) pid page s p = changed_proc (paging.with_page_in page bytes) pid s p
  page_kept body pid page s p = p

  pub move_entered : (o : Option About) (pid : ℕ) (s : ClientProcs) → Kept s → Kept (freezing.enters_move pid o s)
  move_entered (Some about) pid s p = entered_own pid (says.value 0 0) s p
  move_entered None pid s p = p
