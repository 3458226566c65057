-- Whatever is played on a file whose server may stop: the bytes that it should have, and that it has them.
use Rattle.std.specs.Prelude.{◌≡◌, ◌≢◌, ◌≤◌, ◌⊎◌, ℕ, zero, suc, Bool, true, false, ◌&&◌, if◌then◌else◌, List, [], ◌∷◌, length, Option, Some, None, slice_index_or}
use Rattle.std.specs.List.{list_any}
use Rattle.file_views.specs.declared.FileStep.{FileStep}
use Rattle.file_views.specs.declared.FileStep.TheVariants as act
use Rattle.file_views.specs.declared.Entered.{Entered}
use Rattle.file_views.specs.declared.View.{View}
use Rattle.file_views.specs.Setting.{Setting, sprite_setting}
use Rattle.file_views.specs.Views.{new_view, busy}
use Rattle.file_views.specs.Entries.{bytes_entered, is_right}
use Rattle.file_views.specs.Coherent.{coherent}
use Rattle.restart_views.specs.declared.kept.Kept.{Kept}
use Rattle.restart_views.specs.declared.restarted.Restarted.{Restarted}
use Rattle.restart_views.specs.declared.restart_step.RestartStep.{RestartStep}
use Rattle.restart_views.specs.declared.restart_step.RestartStep.TheVariants as does
use Rattle.restart_views.specs.ColdSteps.{is_open_step}
use Rattle.restart_views.specs.Answered.{Answered}
use Rattle.restart_views.specs.Restarts.{keeps_blocks, is_barred, file_entered, least_due, settled_in, most_due, restarted, all_restarted, Restarts}
use Rattle.restart_views.specs.RunBytes.{due, NoneOld, OldAt}

-- whether some client keeps dirty blocks by itself
abbrev pub has_old : List (Option Kept) → Bool
has_old kept = list_any keeps_blocks kept

-- the bytes after all of it took effect: where dirty blocks are kept, an open first makes the bytes the server's
abbrev pub from_open : Bool → Entered → List ℕ → List ℕ → List ℕ
from_open old one server bytes = if old && is_open_step one.step then server else bytes

abbrev pub run_through : Setting → Bool → List ℕ → List ℕ → List Entered → List ℕ
run_through z old bytes server [] = bytes
run_through z old bytes server (one ∷ rest) = run_through z old (bytes_entered z (from_open old one server bytes) one.step) (bytes_entered z server one.step) rest

-- whether each reading has the bytes of its moment, and an append is refused exactly where it would pass the limit
abbrev pub right_through : Setting → Bool → List ℕ → List ℕ → List Entered → Bool
right_through z old bytes server [] = true
right_through z old bytes server (one ∷ rest) = is_right z (from_open old one server bytes) one.step one.reply && right_through z old (bytes_entered z (from_open old one server bytes) one.step) (bytes_entered z server one.step) rest

-- of a step of the file
abbrev pub bytes_file : Setting → Restarted → List ℕ → FileStep → List ℕ
bytes_file z s bytes step = if is_barred s.kept step then bytes else run_through z (has_old s.kept) bytes s.view.bytes (file_entered z s step)

abbrev pub right_file : Setting → Restarted → List ℕ → FileStep → Bool
right_file z s bytes step = if is_barred s.kept step then true else right_through z (has_old s.kept) bytes s.view.bytes (file_entered z s step)

-- whether the view is coherent with the bytes, or, while a client keeps dirty blocks by itself, with the server's
abbrev pub is_coherent : Setting → Restarted → List ℕ → Bool
is_coherent z s bytes = coherent z s.view (if has_old s.kept then s.view.bytes else bytes)

-- of a delivery of a settling, and of so many
abbrev pub bytes_due : Setting → Restarted → Option ℕ → List ℕ → List ℕ
bytes_due z s (Some call) bytes = bytes_file z s bytes (act.Delivering call)
bytes_due z s None bytes = bytes

abbrev pub right_due : Setting → Restarted → Option ℕ → List ℕ → Bool
right_due z s (Some call) bytes = is_coherent z s bytes && right_file z s bytes (act.Delivering call)
right_due z s None bytes = true

unfoldable pub bytes_in : Setting → ℕ → Restarted → List ℕ → List ℕ
bytes_in z zero s bytes = bytes
bytes_in z (suc count) s bytes = bytes_due z (settled_in z count s) (least_due (settled_in z count s).view) (bytes_in z count s bytes)

unfoldable pub right_in : Setting → ℕ → Restarted → List ℕ → Bool
right_in z zero s bytes = true
right_in z (suc count) s bytes = right_in z count s bytes && right_due z (settled_in z count s) (least_due (settled_in z count s).view) (bytes_in z count s bytes)

-- of a step: a stop and a claim leave the bytes
abbrev pub bytes_step : Setting → Restarted → List ℕ → RestartStep → List ℕ
bytes_step z s bytes (does.File step) = bytes_file z s bytes step
bytes_step z s bytes does.Stop = bytes
bytes_step z s bytes (does.Claim kernel) = bytes
bytes_step z s bytes does.Settle = bytes_in z most_due s bytes

abbrev pub right_step : Setting → Restarted → List ℕ → RestartStep → Bool
right_step z s bytes (does.File step) = right_file z s bytes step
right_step z s bytes does.Stop = true
right_step z s bytes (does.Claim kernel) = true
right_step z s bytes does.Settle = right_in z most_due s bytes

-- of steps in a row: the bytes, and whether before and after each the view is coherent and all that took effect right
abbrev pub bytes_run : Setting → Restarted → List ℕ → List RestartStep → List ℕ
bytes_run z s bytes [] = bytes
bytes_run z s bytes (step ∷ rest) = bytes_run z (restarted z s step) (bytes_step z s bytes step) rest

abbrev pub stays_right : Setting → Restarted → List ℕ → List RestartStep → Bool
stays_right z s bytes [] = is_coherent z s bytes
stays_right z s bytes (step ∷ rest) = is_coherent z s bytes && (right_step z s bytes step && stays_right z (restarted z s step) (bytes_step z s bytes step) rest)

-- dirty blocks that a client keeps by itself aren't of a later version than the server's; where they are of the same, nobody has the
-- file open or keeps a stream of it, but that client, and no callback is out
pub record Aged (v : View) (kept : List (Option Kept)) (place : ℕ) (one : Kept) : Type 0 where
  pub below : one.version ≤ v.version
  pub closed : one.version ≡ v.version → v.opens ≡ []
  pub idle : one.version ≡ v.version → busy v ≡ false
  pub others : one.version ≡ v.version → (other : ℕ) → other ≢ place → (more : Kept) → slice_index_or kept other None ≡ Some more → more.streams ≡ []

-- what is so from a new file on, whatever is played
pub record Runs (s : Restarted) : Type 0 where
  pub restarts : Restarts sprite_setting s
  pub answered : Answered s.view
  pub old : NoneOld s.kept ⊎ ((o : OldAt s.kept) × Aged s.view s.kept o.place o.one)

pub record RunsStay : Type 0 where
  pub new : (count : ℕ) (bytes : List ℕ) → 1 ≤ count → count ≤ 15 → length bytes ≤ 262144 → Runs (record { view = new_view count bytes; kept = [] })
  pub first : (count : ℕ) (bytes : List ℕ) → 1 ≤ count → count ≤ 15 → due sprite_setting (record { view = new_view count bytes; kept = [] }) ≡ bytes
  pub steps : (s : Restarted) (steps : List RestartStep) → Runs s → Runs (all_restarted sprite_setting s steps)
  pub bytes : (s : Restarted) (steps : List RestartStep) → Runs s → due sprite_setting (all_restarted sprite_setting s steps) ≡ bytes_run sprite_setting s (due sprite_setting s) steps
  pub right : (s : Restarted) (steps : List RestartStep) → Runs s → stays_right sprite_setting s (due sprite_setting s) steps ≡ true
