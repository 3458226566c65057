-- The first part of the seventh layer of soundness, on fetches and operations, holds of each new file, and each step and each move of
-- a client keeps it, with the first and the third layer.
use Rattle.std.specs.Prelude.{◌≡◌, ℕ, true, List, length}
use Rattle.file_views.specs.declared.step.FileStep.{FileStep}
use Rattle.file_views.specs.declared.moves.ClientMove.{ClientMove}
use Rattle.file_views.specs.declared.view.View.{View}
use Rattle.file_views.specs.Setting.{Setting}
use Rattle.file_views.specs.Views.{new_view, client}
use Rattle.file_views.specs.Possible.{stepped}
use Rattle.file_views.specs.Moves.{may_move, after_move}
use Rattle.file_views.specs.Here.{IsClient, at_kernel}
use Rattle.file_views.specs.SoundShapes.{Shapes}
use Rattle.file_views.specs.SoundStamps.{Stamps}
use Rattle.file_views.specs.SoundRequests.{Asking}

abbrev pub EachAsks : Setting → View → Type 0
EachAsks z v = (kernel : ℕ) → IsClient (length v.clients) kernel → Asking z kernel (client v kernel) (at_kernel v kernel).calls

pub record AskingStay : Type 0 where
  pub new : (z : Setting) (count : ℕ) (bytes : List ℕ) → EachAsks z (new_view count bytes)
  pub steps : (z : Setting) (v : View) (step : FileStep) → Shapes v → Stamps v → EachAsks z v → EachAsks z (stepped z v step)
  pub moves : (z : Setting) (v : View) (other : ClientMove) → may_move z v other ≡ true → Shapes v → EachAsks z v → EachAsks z (after_move z v other)
