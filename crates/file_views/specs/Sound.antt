-- When a view is sound: what each step keeps, and from which it follows that the view is coherent.
use Rattle.file_views.specs.declared.view.View.{View}
use Rattle.file_views.specs.Setting.{Setting}
use Rattle.file_views.specs.SoundShapes.{Shapes}
use Rattle.file_views.specs.SoundStreams.{Streams}
use Rattle.file_views.specs.SoundStamps.{Stamps}
use Rattle.file_views.specs.SoundDecisions.{Decisions}
use Rattle.file_views.specs.SoundModes.{Modes}
use Rattle.file_views.specs.SoundHolders.{Holders}
use Rattle.file_views.specs.SoundRequests.{Requests}
use Rattle.file_views.specs.SoundContents.{StandsFor}

-- eight layers, each of which leans on those before it
pub record Sound (z : Setting) (v : View) : Type 0 where
  pub shapes : Shapes v
  pub streams : Streams v
  pub stamps : Stamps v
  pub decisions : Decisions z v
  pub modes : Modes v
  pub holders : Holders v
  pub requests : Requests z v
  pub contents : StandsFor z v
