-- What enters in many steps.
use Rattle.std.specs.Prelude.{◌≡◌, ◌≤◌, ℕ, length, take, if◌then◌else◌, Option, Some, None, List, [], ◌∷◌, ◌++◌}
use Rattle.file_views.specs.declared.Entered.{Entered}
use Rattle.file_views.specs.declared.FileStep.{FileStep}
use Rattle.file_views.specs.declared.View.{View}
use Rattle.file_views.specs.Setting.{Setting}
use Rattle.file_views.specs.Possible.{possible, stepped, played}
use Rattle.file_views.specs.Steps.{after}
use Rattle.file_views.specs.Entries.{entered}

-- what enters in steps in a row, in order
abbrev pub all_entered : Setting → View → List FileStep → List Entered
all_entered z v [] = []
all_entered z v (step ∷ rest) = entered z v step ++ all_entered z (stepped z v step) rest

-- the view after a step that is possible
abbrev pub next_view : Setting → View → FileStep → Option View
next_view z v step = if possible z v step then Some (after z v step) else None

-- the last view is the first one after some of the steps, from their beginning on
pub record DoneInPart (z : Setting) (first last : View) (steps : List FileStep) : Type 0 where
  pub count : ℕ
  pub within : count ≤ length steps
  pub done : last ≡ played z first (take count steps)
