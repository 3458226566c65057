-- The third layer of soundness holds of each new file, and each step and each move of a client keeps it, with the first.
use Rattle.std.specs.Prelude.{◌≡◌, ℕ, true, false, List}
use Rattle.file_views.specs.declared.step.FileStep.{FileStep}
use Rattle.file_views.specs.declared.moves.ClientMove.{ClientMove}
use Rattle.file_views.specs.declared.moves.ClientMove.TheVariants as move
use Rattle.file_views.specs.declared.view.View.{View}
use Rattle.file_views.specs.Setting.{Setting}
use Rattle.file_views.specs.Views.{new_view, busy}
use Rattle.file_views.specs.Possible.{stepped}
use Rattle.file_views.specs.Moves.{may_move, after_move}
use Rattle.file_views.specs.SoundShapes.{Shapes}
use Rattle.file_views.specs.SoundStamps.{Stamps}

-- that no callback is out where a file that nobody has open is uncached follows from the later layers: a recall's kernel was given On
pub record StampsStay : Type 0 where
  pub new : (count : ℕ) (bytes : List ℕ) → Stamps (new_view count bytes)
  pub steps : (z : Setting) (v : View) (step : FileStep) → Shapes v → Stamps v → Stamps (stepped z v step)
  pub moves : (z : Setting) (v : View) (other : ClientMove) → may_move z v other ≡ true → (other ≡ move.Uncache → busy v ≡ false) → Shapes v → Stamps v → Stamps (after_move z v other)
