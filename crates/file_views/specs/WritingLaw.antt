-- What the seventh layer of soundness says of write-backs holds of each new file, and each step and each move of a client keeps it, with
-- the layers before it.
use Rattle.std.specs.Prelude.{◌≡◌, ℕ, true, List, length}
use Rattle.file_views.specs.declared.step.FileStep.{FileStep}
use Rattle.file_views.specs.declared.moves.ClientMove.{ClientMove}
use Rattle.file_views.specs.declared.view.View.{View}
use Rattle.file_views.specs.Setting.{Setting}
use Rattle.file_views.specs.Views.{new_view, client, current_stamp}
use Rattle.file_views.specs.Possible.{stepped}
use Rattle.file_views.specs.Moves.{may_move, after_move}
use Rattle.file_views.specs.Here.{IsClient, at_kernel}
use Rattle.file_views.specs.SoundShapes.{Shapes}
use Rattle.file_views.specs.SoundStamps.{Stamps}
use Rattle.file_views.specs.SoundModes.{Modes}
use Rattle.file_views.specs.SoundHolders.{Holders}
use Rattle.file_views.specs.SoundRequests.{WritingBacks}

abbrev pub EachWritesBack : Setting → View → Type 0
EachWritesBack z v = (kernel : ℕ) → IsClient (length v.clients) kernel → WritingBacks z kernel (current_stamp v kernel) (client v kernel) (at_kernel v kernel).calls

pub record WritingBacksStay : Type 0 where
  pub new : (z : Setting) (count : ℕ) (bytes : List ℕ) → EachWritesBack z (new_view count bytes)
  pub steps : (z : Setting) (v : View) (step : FileStep) → Shapes v → Stamps v → Modes v → Holders v → EachWritesBack z v → EachWritesBack z (stepped z v step)
  pub moves : (z : Setting) (v : View) (other : ClientMove) → may_move z v other ≡ true → Shapes v → Stamps v → Modes v → Holders v → EachWritesBack z v → EachWritesBack z (after_move z v other)
