-- The bytes that a view stands for change by what enters alone, and what enters is right.
use Rattle.std.specs.Prelude.{◌≡◌, ◌≤◌, ◌<◌, ℕ, Bool, true, ◌&&◌, not, if◌then◌else◌, List, [], ◌∷◌}
use Rattle.std.specs.List.{list_any}
use Rattle.file_views.specs.declared.step.FileStep.{FileStep}
use Rattle.file_views.specs.declared.view.View.{View}
use Rattle.file_views.specs.declared.entered.Entered.{Entered}
use Rattle.file_views.specs.Setting.{Setting}
use Rattle.file_views.specs.Views.{new_view, busy}
use Rattle.file_views.specs.Entries.{entered, bytes_after_all, are_right}
use Rattle.file_views.specs.Moves.{may_move, enters_move}
use Rattle.file_views.specs.Settled.{stands_for}
use Rattle.file_views.specs.Waits.{implies, at_server, defers}
use Rattle.file_views.specs.Coherent.{coherent}
use Rattle.file_views.specs.Plays.{stays_coherent}
use Rattle.file_views.specs.LayerLaw.{Happening, Step, Move, happened, all_happened}

-- what enters when something happens
abbrev pub entered_by : Setting → View → Happening → List Entered
entered_by z v (Step step) = entered z v step
entered_by z v (Move other) = if may_move z v other then enters_move z v other else []

-- the bytes after all of it happened
abbrev pub bytes_happened : Setting → View → List ℕ → List Happening → List ℕ
bytes_happened z v bytes [] = bytes
bytes_happened z v bytes (one ∷ rest) = bytes_happened z (happened z v one) (bytes_after_all z bytes (entered_by z v one)) rest

-- while a callback stays out nothing takes effect at the server; a move of a client ends none
abbrev pub defers_by : Setting → View → Happening → Bool
defers_by z v (Step step) = defers z v step
defers_by z v (Move other) = implies (busy v) (not (list_any at_server (entered_by z v (Move other))))

-- whether the view is coherent before and after each, with the bytes as what enters changes them, all that enters is right, and nothing
-- takes effect at the server while a callback stays out
abbrev pub always_coherent : Setting → View → List ℕ → List Happening → Bool
always_coherent z v bytes [] = coherent z v bytes
always_coherent z v bytes (one ∷ rest) = coherent z v bytes && (are_right z bytes (entered_by z v one) && (defers_by z v one && always_coherent z (happened z v one) (bytes_after_all z bytes (entered_by z v one)) rest))

pub record BytesStay : Type 0 where
  -- the bytes are those of the new file as all that entered changed them
  pub stands : (z : Setting) (count : ℕ) (bytes : List ℕ) (happenings : List Happening) → 1 ≤ count → count ≤ 15 → 0 < z.block → stands_for z (all_happened z (new_view count bytes) happenings) ≡ bytes_happened z (new_view count bytes) bytes happenings
  -- one step or move more
  pub changes : (z : Setting) (count : ℕ) (bytes : List ℕ) (happenings : List Happening) (one : Happening) → 1 ≤ count → count ≤ 15 → 0 < z.block → stands_for z (happened z (all_happened z (new_view count bytes) happenings) one) ≡ bytes_after_all z (stands_for z (all_happened z (new_view count bytes) happenings)) (entered_by z (all_happened z (new_view count bytes) happenings) one)
  -- what enters in it is right
  pub right : (z : Setting) (count : ℕ) (bytes : List ℕ) (happenings : List Happening) (one : Happening) → 1 ≤ count → count ≤ 15 → 0 < z.block → are_right z (stands_for z (all_happened z (new_view count bytes) happenings)) (entered_by z (all_happened z (new_view count bytes) happenings) one) ≡ true
  -- and all of it together, with moves of clients and without
  pub always : (z : Setting) (count : ℕ) (bytes : List ℕ) (happenings : List Happening) → 1 ≤ count → count ≤ 15 → 0 < z.block → always_coherent z (new_view count bytes) bytes happenings ≡ true
  pub steps : (z : Setting) (count : ℕ) (bytes : List ℕ) (steps : List FileStep) → 1 ≤ count → count ≤ 15 → 0 < z.block → stays_coherent z (new_view count bytes) bytes steps ≡ true
