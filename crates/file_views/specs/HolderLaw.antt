-- The sixth layer of soundness holds of each new file, and each step and each move of a client keeps it, with those before it.
use Rattle.std.specs.Prelude.{◌≡◌, ℕ, true, List}
use Rattle.file_views.specs.declared.step.FileStep.{FileStep}
use Rattle.file_views.specs.declared.moves.ClientMove.{ClientMove}
use Rattle.file_views.specs.declared.view.View.{View}
use Rattle.file_views.specs.Setting.{Setting}
use Rattle.file_views.specs.Views.{new_view}
use Rattle.file_views.specs.Possible.{stepped}
use Rattle.file_views.specs.Moves.{may_move, after_move}
use Rattle.file_views.specs.SoundShapes.{Shapes}
use Rattle.file_views.specs.SoundStreams.{Streams}
use Rattle.file_views.specs.SoundStamps.{Stamps}
use Rattle.file_views.specs.SoundDecisions.{Decisions}
use Rattle.file_views.specs.SoundModes.{Modes}
use Rattle.file_views.specs.SoundHolders.{Holders}

pub record HoldersStay : Type 0 where
  pub new : (count : ℕ) (bytes : List ℕ) → Holders (new_view count bytes)
  pub steps : (z : Setting) (v : View) (step : FileStep) → Shapes v → Streams v → Stamps v → Decisions z v → Modes v → Holders v → Holders (stepped z v step)
  pub moves : (z : Setting) (v : View) (other : ClientMove) → may_move z v other ≡ true → Shapes v → Streams v → Stamps v → Decisions z v → Modes v → Holders v → Holders (after_move z v other)
