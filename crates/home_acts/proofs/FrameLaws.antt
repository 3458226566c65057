-- What of a kernel's changes isn't seen, for any predicate of what is.
use Rattle.std.proofs.Common.{◌≡◌, refl, sym, subst, ℕ, Bool, true, false, cond, List, [], ◌∷◌, ◌++◌, Option, Some, None, option_map}
use Rattle.std.specs.List.{list_any}
use Rattle.sprite_ids.specs.Lists.{changed}
use Rattle.kernel_steps.specs.Rows.{is_under, with_value}
use Rattle.process_machine.specs.declared.Reply.{Reply}
use Rattle.unix_calls.specs.declared.About.{About}
use Rattle.client_file_tables.specs.declared.ClientFiles.{ClientFiles}
use Rattle.client_file_tables.specs.Rows.{same_pid}
use Rattle.client_homes.specs.declared.client.ClientProcs.{ClientProcs}
use Rattle.client_homes.specs.declared.process.Proc.{Proc}
use Rattle.client_homes.specs.declared.process.ProcState.{ProcState}
use Rattle.client_homes.specs.declared.process.ProcState.TheVariants as states
use Rattle.client_homes.specs.Births as births
use Rattle.client_homes.specs.Ends as ending
use Rattle.client_homes.specs.Killing as killing
use Rattle.client_homes.specs.Procs as procs_of
use Rattle.client_homes.specs.Says as says
use Rattle.home_acts.specs.Deeds.{Seen, seen}

module _ (P : Seen → Type 0) where
  abbrev pub Kept : ClientProcs → Type 0
  Kept s = P (seen s)

  pub proc_kept : (o : Option Proc) (pid : ℕ) (s : ClientProcs) → Kept s → Kept (procs_of.with_proc pid o s)
  proc_kept (Some proc) pid s d = d
  proc_kept None pid s d = d

  pub state_kept : (pid : ℕ) (state : ProcState) (s : ClientProcs) → Kept s → Kept (procs_of.in_state pid state s)
  state_kept pid state s d = proc_kept (option_map {T = Proc} (λ proc. record proc { state = state }) (procs_of.proc_at pid s)) pid s d

  pub flagged : (pid : ℕ) (s : ClientProcs) → Kept s → Kept (procs_of.killed_at pid s)
  flagged pid s d = proc_kept (option_map {T = Proc} (λ proc. record proc { killed = true }) (procs_of.proc_at pid s)) pid s d

  pub replied : (pid : ℕ) (reply : Reply) (s : ClientProcs) → Kept s → Kept (procs_of.replies pid reply s)
  replied pid reply s d = state_kept pid states.Returning s d

  pub ended : (pid : ℕ) (about : Option About) (s : ClientProcs) → Kept s → Kept (ending.ends pid about s)
  unfolding ending.closes_all
  ended pid about s d = state_kept pid states.Ending s d

  cwd_set : (b : Bool) (files : ClientFiles) (rows more : List (ℕ × List (List ℕ))) (s : ClientProcs) → files ≡ s.files → Kept s → Kept (says.with_files (cond b (record files { cwds = rows }) (record files { cwds = more })) s)
  cwd_set true files rows more s e d = subst (λ (f : ClientFiles). P (record (seen s) { events = f.out.events })) (sym e) d
  cwd_set false files rows more s e d = subst (λ (f : ClientFiles). P (record (seen s) { events = f.out.events })) (sym e) d

  pub cwd_kept : (o : Option (List (List ℕ))) (child : ℕ) (s : ClientProcs) → Kept s → Kept (births.with_cwd child o s)
  cwd_kept (Some cwd) child s d =
      cwd_set (list_any (is_under same_pid child) s.files.cwds) s.files (changed (is_under same_pid child) (with_value cwd) s.files.cwds) (s.files.cwds ++ (child, cwd) ∷ []) s refl d
  cwd_kept None child s d = d

  pub waiting_forgotten : (pid : ℕ) (s : ClientProcs) → Kept s → Kept (killing.forgets_waiting pid s)
  waiting_forgotten pid s d = by (killing.is_waiting (killing.kill_at pid s))
    where
      by : (b : Bool) → Kept (cond b (killing.forgets_kill pid s) s)
      by true = d
      by false = d
