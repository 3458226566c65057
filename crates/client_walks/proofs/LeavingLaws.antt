-- Processes that are frozen and leave, each function of a client's kernel as a whole, for any predicate that its deeds keep.
use Rattle.std.proofs.Common.{◌≡◌, refl, ℕ, ◌+◌, ◌==◌, Bool, true, false, ◌||◌, not, cond, List, [], ◌∷◌, ◌++◌, Option, Some, None}
use Rattle.std.specs.List.{list_any}
use Rattle.sprite_ids.specs.declared.Grant.{Grant}
use Rattle.kernel_steps.specs.Rows.{is_under}
use Rattle.stream_table.specs.declared.Carried.{Carried}
use Rattle.stream_table.specs.declared.Place.{Place}
use Rattle.unix_calls.specs.declared.About.{About}
use Rattle.unix_calls.specs.declared.Event.TheVariants.{Freeze}
use Rattle.migrate_freeze.specs.declared.frozen.MoveStep.{MoveStep}
use Rattle.migrate_freeze.specs.declared.frozen.MoveStep.TheVariants as steps
use Rattle.migrate_freeze.specs.declared.process.Process.{Process}
use Rattle.migrate_freeze.specs.Moves.{frozen_for, step_of}
use Rattle.migrate_freeze.specs.OneMove.{OneMove}
use Rattle.migrate_freeze.specs.Packing.{can_move}
use Rattle.client_homes.specs.declared.client.ClientProcs.{ClientProcs}
use Rattle.client_homes.specs.declared.client.Leaving.{Leaving}
use Rattle.client_homes.specs.declared.client.Unfinished.TheVariants as unfinished
use Rattle.client_homes.specs.declared.process.Proc.{Proc}
use Rattle.client_homes.specs.Procs as procs_of
use Rattle.client_homes.specs.Says as says
use Rattle.client_moves.specs.declared.Route.{Route}
use Rattle.client_moves.specs.Carrying.{all_carried}
use Rattle.client_moves.specs.Freezing as freezing
use Rattle.client_moves.specs.Leaving as leaving_of
use Rattle.client_file_tables.specs.declared.moves.Report.TheVariants as reports
use Rattle.kernel_steps.specs.declared.Input.{Input}
use Rattle.client_walks.specs.Hands.{Nothing, Holding}
use Rattle.client_walks.proofs.Deeds.{Always, Hand, KeepsFiles, KeepsLeaving, KeepsMoves, WalkApart, WalkParts, holds}

module _ (P : ClientProcs → Hand → Type 0) (moves : KeepsMoves Always P) (h : Hand) where
  -- no process is in hand
  abbrev At : ClientProcs → Type 0
  At s = P s (holds Nothing h)

  on_if : (hand : Hand) (b : Bool) (s t : ClientProcs) → (b ≡ true → P s hand) → (b ≡ false → P t hand) → P (cond b s t) hand
  on_if hand true s t f g = f refl
  on_if hand false s t f g = g refl

  move_begun : (pid : ℕ) (one : OneMove) (about : Option About) (s : ClientProcs) → P s (holds (Holding pid) h) → P (leaving_of.begins_if pid one about s) (holds (Holding pid) h)
  move_begun pid one about s p =
      on_if (holds (Holding pid) h) (not (list_any (is_under procs_of.is_pid pid) s.files.pending)) (leaving_of.begins_move pid one about s) s (λ e. moves.begins_move s h pid one about tt p) (λ e. p)

  left_as : (step : MoveStep) (pid : ℕ) (about : Option About) (s : ClientProcs) → P s (holds (Holding pid) h) → At (leaving_of.leaves_as pid step about s)
  left_as (steps.Moving one) pid about s p = moves.keeps_leaving (leaving_of.begins_if pid one about s) h pid (steps.Moving one) about tt (move_begun pid one about s p)
  left_as (steps.Sent sent) pid about s p =
      on_if (holds Nothing h) (list_any (leaving_of.is_page_out pid) s.unfinished) (leaving_of.keeps_leaving pid (steps.Sent sent) about s) (leaving_of.sends_process sent about s)
      (λ e. moves.keeps_leaving s h pid (steps.Sent sent) about tt p) (λ e. moves.sends_process s h pid sent about e tt p)

  left_if : (o : Option Leaving) (pid : ℕ) (s : ClientProcs) → leaving_of.leaving_at pid s ≡ o → At s → At (leaving_of.leaves_if pid o (leaving_of.takes_leaving pid s))
  left_if None pid s e p = moves.leaves_none s h pid e tt p
  left_if (Some found) pid s e p = left_as found.step pid found.about (leaving_of.takes_leaving pid s) (moves.takes_leaving s h pid found e tt p)

  left_on : (pid : ℕ) (s : ClientProcs) → At s → At (leaving_of.leaves_on pid s)
  left_on pid s p = left_if (leaving_of.leaving_at pid s) pid s refl p

  moved_if : (o : Option Leaving) (pid : ℕ) (place : Place) (grant : Option Grant) (many : ℕ) (s : ClientProcs) → leaving_of.leaving_at pid s ≡ o → At s → At (leaving_of.notes_move_if pid o place grant many (leaving_of.takes_leaving pid s))
  moved_if None pid place grant many s e p = moves.leaves_none s h pid e tt p
  moved_if (Some found) pid place grant many s e p =
      moves.keeps_leaving (leaving_of.takes_leaving pid s) h pid (leaving_of.moved_step place grant many found.step) found.about tt (moves.takes_leaving s h pid found e tt p)

  stream_moved : (pid : ℕ) (place : Place) (grant : Option Grant) (many : ℕ) (s : ClientProcs) → At s → At (leaving_of.has_moved pid place grant many s)
  stream_moved pid place grant many s p =
      left_on pid (leaving_of.notes_move_if pid (leaving_of.leaving_at pid s) place grant many (leaving_of.takes_leaving pid s)) (moved_if (leaving_of.leaving_at pid s) pid place grant many s refl p)

  pages_put : (pages : List (ℕ × List ℕ)) (pid : ℕ) (s : ClientProcs) → P s (holds (Holding pid) h) → P (freezing.puts_pages pid pages s) (holds (Holding pid) h)
  pages_put [] pid s p = p
  pages_put (page ∷ pages) pid s p = pages_put pages pid (freezing.puts_page pid page.0 page.1 s) (moves.puts_page s h pid page.0 page.1 tt p)

  sent_off : (pid : ℕ) (proc : Proc) (route : Route) (streams : List Carried) (s : ClientProcs) → P s (holds (Holding pid) h) → At (freezing.sends_off pid proc route streams s)
  sent_off pid proc route streams s p =
      let process : Process = freezing.process_of pid proc route streams s in
      let dropped : ClientProcs = freezing.drops_cwd pid s in
      let step : MoveStep = step_of (frozen_for process route.to route.program) in
      left_on pid (leaving_of.keeps_leaving pid step route.about dropped) (moves.keeps_leaving dropped h pid step route.about tt (moves.drops_cwd s h pid tt p))

  put_out_if : (o : Option Proc) (pid : ℕ) (route : Route) (streams : List Carried) (s : ClientProcs) → procs_of.proc_at pid s ≡ o → At s → At (freezing.puts_out_if pid o route streams (freezing.takes_proc pid s))
  put_out_if None pid route streams s e p = moves.takes_none s h pid e tt p
  put_out_if (Some proc) pid route streams s e p =
      let pages : List (ℕ × List ℕ) = freezing.pages_for route.program proc.image in
      let taken : ClientProcs = freezing.takes_proc pid s in
      sent_off pid (freezing.without_pages route.program proc) route streams (freezing.puts_pages pid pages taken) (pages_put pages pid taken (moves.takes_proc s h pid proc e tt p))

  frozen : (pid : ℕ) (route : Route) (s : ClientProcs) → At s → At (freezing.freezes pid route s)
  frozen pid route s p = by_test (can_move (all_carried pid s)) refl
    where
      by_test : (b : Bool) → can_move (all_carried pid s) ≡ b → At (cond (not b) s (freezing.freezes_with pid route (all_carried pid s) s))
      by_test false e = p
      by_test true e =
          let entered : ClientProcs = freezing.enters_move pid route.about (says.notes (Freeze pid) s) in
          put_out_if (procs_of.proc_at pid entered) pid route (all_carried pid s) entered refl (moves.freezes s h pid route e tt p)

-- each of these functions keeps what its deeds keep
pub leaving_by_deeds : (came : Input) (P : ClientProcs → Hand → Type 0) → KeepsFiles came Always P → KeepsMoves Always P → KeepsLeaving (Unit {0}) P
leaving_by_deeds came P files moves = record {
  leaves_on = λ s h pid put p. left_on P moves h pid s p;
  has_moved = λ s h pid place grant many rest e p. stream_moved P moves h pid place grant many (record s { files = record s.files { results = rest } }) (files.takes_report s h (reports.Moved pid place grant many) rest e tt p);
  freezes = λ s h pid route p. frozen P moves h pid route s p;
  takes_report = λ s h report rest e other p. files.takes_report s h report rest e tt p;
  takes_ended = λ s h pid p. moves.takes_ended s h pid tt p;
}

-- and so the walk may go by its deeds
pub parts_of : (P : ClientProcs → Hand → Type 0) (came : Input) → WalkApart P came → WalkParts (Unit {0}) P came
parts_of P came walk = record {
  files = record { uses_files = walk.files.uses_files; called_back = walk.files.called_back; due_goes = walk.files.due_goes; takes_reply = walk.files.takes_reply };
  calls = walk.calls;
  home = walk.home;
  devices = walk.devices;
  leaving = leaving_by_deeds came P walk.files walk.moves;
  comings = walk.comings;
}
