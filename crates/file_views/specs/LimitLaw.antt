-- No size, block or end of a write passes the most that a file may have, in each new file whose bytes don't, and each step and each
-- move of a client keeps it, with the layers before it.
use Rattle.std.specs.Prelude.{◌≡◌, ◌≤◌, ℕ, true, List, length}
use Rattle.file_views.specs.declared.step.FileStep.{FileStep}
use Rattle.file_views.specs.declared.moves.ClientMove.{ClientMove}
use Rattle.file_views.specs.declared.view.View.{View}
use Rattle.file_views.specs.Setting.{Setting}
use Rattle.file_views.specs.Views.{new_view, client}
use Rattle.file_views.specs.Possible.{stepped}
use Rattle.file_views.specs.Moves.{may_move, after_move}
use Rattle.file_views.specs.Here.{IsClient, at_kernel}
use Rattle.file_views.specs.SoundShapes.{Shapes}
use Rattle.file_views.specs.SoundStreams.{Streams}
use Rattle.file_views.specs.SoundStamps.{Stamps}
use Rattle.file_views.specs.SoundDecisions.{Decisions}
use Rattle.file_views.specs.SoundModes.{Modes}
use Rattle.file_views.specs.SoundHolders.{Holders}
use Rattle.file_views.specs.SoundRequests.{Limited}
use Rattle.file_views.specs.AskingLaw.{EachAsks}
use Rattle.file_views.specs.WritingLaw.{EachWritesBack}

pub record EachLimited (z : Setting) (v : View) : Type 0 where
  pub bytes : length v.bytes ≤ z.most
  pub each : (kernel : ℕ) → IsClient (length v.clients) kernel → Limited z kernel (client v kernel) (at_kernel v kernel).calls

pub record LimitsStay : Type 0 where
  pub new : (z : Setting) (count : ℕ) (bytes : List ℕ) → length bytes ≤ z.most → EachLimited z (new_view count bytes)
  pub steps : (z : Setting) (v : View) (step : FileStep) → Shapes v → Streams v → Stamps v → Decisions z v → Modes v → Holders v → EachAsks z v → EachWritesBack z v → EachLimited z v → EachLimited z (stepped z v step)
  pub moves : (z : Setting) (v : View) (other : ClientMove) → may_move z v other ≡ true → Shapes v → Streams v → Stamps v → Decisions z v → Modes v → Holders v → EachAsks z v → EachWritesBack z v → EachLimited z v → EachLimited z (after_move z v other)
