-- What many steps make of a view.
use Rattle.std.specs.Prelude.{ℕ, Bool, true, ◌&&◌, List, [], ◌∷◌}
use Rattle.file_views.specs.declared.step.FileStep.{FileStep}
use Rattle.file_views.specs.declared.view.View.{View}
use Rattle.file_views.specs.Setting.{Setting}
use Rattle.file_views.specs.Possible.{possible, stepped}
use Rattle.file_views.specs.Entries.{entered, bytes_after_all, are_right}
use Rattle.file_views.specs.Waits.{defers}
use Rattle.file_views.specs.Coherent.{coherent}

-- the bytes, changed by what enters in the steps
abbrev pub bytes_played : Setting → View → List ℕ → List FileStep → List ℕ
bytes_played z v bytes [] = bytes
bytes_played z v bytes (step ∷ rest) = bytes_played z (stepped z v step) (bytes_after_all z bytes (entered z v step)) rest

-- whether the view is coherent before and after each step, with the bytes as what enters changes them, all that enters is right, and
-- nothing takes effect at the server while a callback stays out
abbrev pub stays_coherent : Setting → View → List ℕ → List FileStep → Bool
stays_coherent z v bytes [] = coherent z v bytes
stays_coherent z v bytes (step ∷ rest) = coherent z v bytes && (are_right z bytes (entered z v step) && (defers z v step && stays_coherent z (stepped z v step) (bytes_after_all z bytes (entered z v step)) rest))

-- whether each step is possible
abbrev pub are_possible : Setting → View → List FileStep → Bool
are_possible z v [] = true
are_possible z v (step ∷ rest) = possible z v step && are_possible z (stepped z v step) rest
