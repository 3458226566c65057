-- In each new file, and after each step and each move of a client, there are bytes that the view stands for, with the layers before this
-- one: the eighth layer of soundness, where a block has at least one byte.
use Rattle.std.specs.Prelude.{◌≡◌, ◌<◌, ℕ, true, List}
use Rattle.file_views.specs.declared.step.FileStep.{FileStep}
use Rattle.file_views.specs.declared.moves.ClientMove.{ClientMove}
use Rattle.file_views.specs.declared.view.View.{View}
use Rattle.file_views.specs.Setting.{Setting}
use Rattle.file_views.specs.Views.{new_view}
use Rattle.file_views.specs.Possible.{stepped}
use Rattle.file_views.specs.Moves.{may_move, after_move}
use Rattle.file_views.specs.SoundShapes.{Shapes}
use Rattle.file_views.specs.SoundStreams.{Streams}
use Rattle.file_views.specs.SoundStamps.{Stamps}
use Rattle.file_views.specs.SoundDecisions.{Decisions}
use Rattle.file_views.specs.SoundModes.{Modes}
use Rattle.file_views.specs.SoundHolders.{Holders}
use Rattle.file_views.specs.SoundContents.{StandsFor}
use Rattle.file_views.specs.AskingLaw.{EachAsks}
use Rattle.file_views.specs.WritingLaw.{EachWritesBack}
use Rattle.file_views.specs.SizeLaw.{EachSize}

pub record ContentsStay : Type 0 where
  pub new : (z : Setting) (count : ℕ) (bytes : List ℕ) → StandsFor z (new_view count bytes)
  pub steps : (z : Setting) (v : View) (step : FileStep) → 0 < z.block → Shapes v → Streams v → Stamps v → Decisions z v → Modes v → Holders v → EachAsks z v → EachWritesBack z v → EachSize z v → StandsFor z v → StandsFor z (stepped z v step)
  pub moves : (z : Setting) (v : View) (other : ClientMove) → may_move z v other ≡ true → 0 < z.block → Shapes v → Streams v → Stamps v → Decisions z v → Modes v → Holders v → EachAsks z v → EachWritesBack z v → EachSize z v → StandsFor z v → StandsFor z (after_move z v other)
