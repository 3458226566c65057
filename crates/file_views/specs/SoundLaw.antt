-- From any sound view each step and each move leads to a sound one, whose bytes are the old ones changed by what enters.
use Rattle.std.specs.Prelude.{◌≡◌, ◌≤◌, ◌<◌, ℕ, true, List, length}
use Rattle.file_views.specs.declared.step.FileStep.{FileStep}
use Rattle.file_views.specs.declared.view.View.{View}
use Rattle.file_views.specs.Setting.{Setting}
use Rattle.file_views.specs.Views.{new_view}
use Rattle.file_views.specs.Entries.{bytes_after_all, are_right}
use Rattle.file_views.specs.Settled.{stands_for}
use Rattle.file_views.specs.Coherent.{coherent}
use Rattle.file_views.specs.Possible.{played}
use Rattle.file_views.specs.Plays.{bytes_played, stays_coherent}
use Rattle.file_views.specs.Sound.{Sound}
use Rattle.file_views.specs.LayerLaw.{Happening, happened}
use Rattle.file_views.specs.BytesLaw.{entered_by, defers_by}

pub record SoundStays : Type 0 where
  -- a new file is sound, and stands for its bytes
  pub new : (z : Setting) (count : ℕ) (bytes : List ℕ) → 1 ≤ count → count ≤ 15 → length bytes ≤ z.most → Sound z (new_view count bytes)
  pub first : (z : Setting) (count : ℕ) (bytes : List ℕ) → 1 ≤ count → count ≤ 15 → 0 < z.block → stands_for z (new_view count bytes) ≡ bytes
  -- a sound view is coherent with the bytes that it stands for
  pub coherent : (z : Setting) (v : View) → 0 < z.block → Sound z v → coherent z v (stands_for z v) ≡ true
  -- and so is the one after a step or a move, with the bytes as what enters changes them; and all that enters is right
  pub stays : (z : Setting) (v : View) (one : Happening) → 0 < z.block → Sound z v → Sound z (happened z v one)
  pub changes : (z : Setting) (v : View) (one : Happening) → 0 < z.block → Sound z v → stands_for z (happened z v one) ≡ bytes_after_all z (stands_for z v) (entered_by z v one)
  pub right : (z : Setting) (v : View) (one : Happening) → 0 < z.block → Sound z v → are_right z (stands_for z v) (entered_by z v one) ≡ true
  -- while a callback stays out, no operation enters at the server and no open is granted
  pub defers : (z : Setting) (v : View) (one : Happening) → Sound z v → defers_by z v one ≡ true
  -- steps in a row: coherent before and after each, all that enters is right, and nothing takes effect at the server while a callback stays out
  pub played_sound : (z : Setting) (v : View) (steps : List FileStep) → 0 < z.block → Sound z v → Sound z (played z v steps)
  pub played_bytes : (z : Setting) (v : View) (steps : List FileStep) → 0 < z.block → Sound z v → stands_for z (played z v steps) ≡ bytes_played z v (stands_for z v) steps
  pub played_whole : (z : Setting) (v : View) (steps : List FileStep) → 0 < z.block → Sound z v → stays_coherent z v (stands_for z v) steps ≡ true
