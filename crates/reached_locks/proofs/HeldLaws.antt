-- A process that leaves has the descriptors of each of its streams until that one moves, as a fact of all that leave.
use Rattle.std.proofs.Common.{◌≡◌, ◌⊎◌, inl, inr, ℕ, ◌==◌, Bool, true, false, ◌||◌, cond, List, [], ◌∷◌, Option, Some, None, option_map, refl, sym, ap, ◌∙◌, find}
use Rattle.std.proofs.lemmas.Bool.{and_from, eq-eqb}
use Rattle.std.specs.List.{AllByRecursion, list_all, list_any}
use Rattle.sprite_ids.specs.Lists.{EachOnce}
use Rattle.sprite_ids.proofs.OnceLaws.{or_false}
use Rattle.kernel_steps.specs.Rows.{first_under, is_under}
use Rattle.stream_table.specs.declared.Carried.{Carried}
use Rattle.stream_table.specs.Owners.{descriptor}
use Rattle.stream_table.proofs.EntryLaws.{number_itself}
use Rattle.stream_table.proofs.OwnerLaws.{eq_turned}
use Rattle.migrate_freeze.specs.declared.frozen.MoveStep.{MoveStep}
use Rattle.migrate_freeze.specs.declared.frozen.MoveStep.TheVariants as steps
use Rattle.migrate_freeze.specs.Landing.{IsOneOf}
use Rattle.migrate_freeze.specs.Moves.{is_moved, is_stream}
use Rattle.migrate_freeze.specs.OneMove.{OneMove}
use Rattle.client_homes.specs.declared.client.ClientProcs.{ClientProcs}
use Rattle.client_homes.specs.declared.client.Leaving.{Leaving}
use Rattle.client_homes.specs.Procs.{is_pid}
use Rattle.client_facts.specs.FileFacts.{same_process}
use Rattle.client_facts.specs.ProcFacts.{UnmovedAreHeld, is_moved_or_held, keeps_descriptors, keeps_its_descriptors, leads}
use Rattle.client_walks.specs.PlacesOnce.{PlacesAreOnce}
use Rattle.move_facts.specs.MoveFacts.{IsLeaving, StreamsMoveInTurn}

abbrev step_of : Option (ℕ × Leaving) → Option Leaving
step_of o = option_map (λ (row : ℕ × Leaving). row.1) o

abbrev IsFirst : List (ℕ × Leaving) → ℕ × Leaving → Type 0
IsFirst rows row = first_under is_pid row.0 rows ≡ Some row.1

-- Where each leaves once, each row is the one that is found under its process

found_behind : (first : ℕ × Leaving) (rows rest : List (ℕ × Leaving)) → list_any (same_process first) rest ≡ false → AllByRecursion (IsFirst rows) rest → AllByRecursion (IsFirst (first ∷ rows)) rest
found_behind first rows [] apart h = tt
found_behind first rows (row ∷ rest) apart h =
    let parts = or_false (row.0 == first.0) (list_any (same_process first) rest) apart in
    (ap (λ (b : Bool). step_of (cond b (Some first) (find (is_under is_pid row.0) rows))) (eq_turned first.0 row.0 ∙ parts.0) ∙ h.0, found_behind first rows rest parts.1 h.1)

each_found : (rows : List (ℕ × Leaving)) → EachOnce same_process rows → AllByRecursion (IsFirst rows) rows
each_found [] once = tt
each_found (row ∷ rest) once =
    (ap (λ (b : Bool). step_of (cond b (Some row) (find (is_under is_pid row.0) rest))) (eq-eqb row.0 row.0 refl), found_behind row rest rest once.0 (each_found rest once.1))

-- Its streams

one_of_three : (moved next held : Bool) → (moved ≡ false → next ≡ false → held ≡ true) → (moved || next || held) ≡ true
one_of_three true next held rest = refl
one_of_three false true held rest = refl
one_of_three false false held rest = rest refl refl

module _ (s : ClientProcs) where
  streams_held : (pid : ℕ) (moving : OneMove) (streams : List Carried) → ((item : Carried) → IsOneOf streams item → IsOneOf moving.freeze.process.streams item) → IsLeaving s.files.streams.owners pid moving → list_all (is_moved_or_held pid moving s) streams ≡ true
  streams_held pid moving [] among leaves = refl
  streams_held pid moving (item ∷ rest) among leaves =
      and_from (is_moved_or_held pid moving s item) (list_all (is_moved_or_held pid moving s) rest)
      (one_of_three (is_moved item.number moving.freeze.moved) (is_stream moving.item.number item.number) (leads item.number (descriptor s.files.streams.owners pid item.fd))
      (λ unmoved other. ap (leads item.number) (leaves.rest item (among item (inl refl)) unmoved other) ∙ number_itself item.number))
      (streams_held pid moving rest (λ one is. among one (inr is)) leaves)

  step_holds : (pid : ℕ) (step : MoveStep) → ((moving : OneMove) → step ≡ steps.Moving moving → IsLeaving s.files.streams.owners pid moving) → keeps_descriptors pid step s ≡ true
  step_holds pid (steps.Moving moving) leads_on = streams_held pid moving moving.freeze.process.streams (λ item is. is) (leads_on moving refl)
  step_holds pid (steps.Sent sent) leads_on = refl

  rows_hold : (rows : List (ℕ × Leaving)) → StreamsMoveInTurn s → AllByRecursion (IsFirst s.leaving) rows → list_all (keeps_its_descriptors s) rows ≡ true
  rows_hold [] moves found = refl
  rows_hold (row ∷ rest) moves found =
      and_from (keeps_its_descriptors s row) (list_all (keeps_its_descriptors s) rest)
      (step_holds row.0 row.1.step (λ moving is. moves.goes row.0 row.1 moving found.0 is)) (rows_hold rest moves found.1)

  pub unmoved_held : PlacesAreOnce s → StreamsMoveInTurn s → UnmovedAreHeld s
  unmoved_held places moves = rows_hold s.leaving moves (each_found s.leaving places.leaving_once)
