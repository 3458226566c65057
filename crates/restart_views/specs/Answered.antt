-- A client that answered a callback with blocks knows the file at the server's version.
use Rattle.std.specs.Prelude.{◌≡◌, ℕ, true, List, Some}
use Rattle.sprite_ids.specs.declared.BlockNo.{BlockNo}
use Rattle.file_views.specs.declared.FileBody.TheVariants as form
use Rattle.file_views.specs.declared.FileCall.{FileCall}
use Rattle.file_views.specs.declared.FileStep.{FileStep}
use Rattle.file_views.specs.declared.View.{View}
use Rattle.file_views.specs.Setting.{Setting}
use Rattle.file_views.specs.Streams.{is_any}
use Rattle.file_views.specs.Views.{new_view, client, things}
use Rattle.file_views.specs.Possible.{stepped}
use Rattle.file_views.specs.Here.{In}
use Rattle.file_views.specs.Sound.{Sound}

abbrev pub Answered : View → Type 0
Answered v = (one : FileCall) → In one (things v) → (size : ℕ) (blocks : List (BlockNo × List ℕ)) → one.reply ≡ Some (form.Flushed size blocks) → is_any blocks ≡ true → (client v one.to).version ≡ v.version

-- it is so of a new file, and each step from a sound view keeps it
pub record AnsweredStay : Type 0 where
  pub new : (count : ℕ) (bytes : List ℕ) → Answered (new_view count bytes)
  pub steps : (z : Setting) (v : View) (step : FileStep) → Sound z v → Answered v → Answered (stepped z v step)
