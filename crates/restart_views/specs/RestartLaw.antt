-- What holds of a file whose server may stop, whatever steps are played.
use Rattle.std.specs.Prelude.{◌≡◌, ◌≤◌, ℕ, true, []}
use Rattle.file_views.specs.declared.FileStep.{FileStep}
use Rattle.file_views.specs.declared.View.{View}
use Rattle.file_views.specs.Setting.{Setting, sprite_setting}
use Rattle.file_views.specs.Settled.{stands_for}
use Rattle.file_views.specs.Entries.{bytes_after_all, are_right}
use Rattle.file_views.specs.Coherent.{coherent}
use Rattle.file_views.specs.Sound.{Sound}
use Rattle.restart_views.specs.declared.restarted.Restarted.{Restarted}
use Rattle.restart_views.specs.Restarts.{kept_at, is_unclaimed, after_stop, after_claim, file_stepped, file_entered, after_file, settled_in, Restarts}

pub record RestartsStay : Type 0 where
  -- a file of a sound view of which nobody keeps anything by itself
  pub new : (z : Setting) (v : View) → Sound z v → Restarts z (record { view = v; kept = [] })
  -- each step keeps it
  pub stop : (s : Restarted) → Restarts sprite_setting s → Restarts sprite_setting (after_stop sprite_setting s)
  pub claim : (s : Restarted) (kernel : ℕ) → 1 ≤ kernel → Restarts sprite_setting s → Restarts sprite_setting (after_claim sprite_setting s kernel (kept_at s.kept kernel))
  pub file : (s : Restarted) (step : FileStep) → Restarts sprite_setting s → Restarts sprite_setting (after_file sprite_setting s step)
  pub settle : (count : ℕ) (s : Restarted) → Restarts sprite_setting s → Restarts sprite_setting (settled_in sprite_setting count s)
  -- the view is coherent with the bytes that it stands for, which are the server's while some kernel keeps something by itself
  pub coherent : (s : Restarted) → Restarts sprite_setting s → coherent sprite_setting s.view (stands_for sprite_setting s.view) ≡ true
  pub stood : (s : Restarted) → Restarts sprite_setting s → is_unclaimed s.kept ≡ true → stands_for sprite_setting s.view ≡ s.view.bytes
  -- a step of the file changes them by what takes effect, and that is right
  pub bytes : (s : Restarted) (step : FileStep) → Restarts sprite_setting s → stands_for sprite_setting (file_stepped sprite_setting s step) ≡ bytes_after_all sprite_setting (stands_for sprite_setting s.view) (file_entered sprite_setting s step)
  pub right : (s : Restarted) (step : FileStep) → Restarts sprite_setting s → are_right sprite_setting (stands_for sprite_setting s.view) (file_entered sprite_setting s step) ≡ true
