-- The bytes that a file stands for whose server may have stopped.
use Rattle.std.proofs.Common.{◌≡◌, ◌<◌, Bool, true, false, cond, length, refl, sym, ap, ◌∙◌, arith}
use Rattle.file_views.specs.declared.step.FileStep.{FileStep}
use Rattle.file_views.specs.Setting.{sprite_setting}
use Rattle.file_views.specs.Possible.{stepped}
use Rattle.file_views.specs.Settled.{stands_for}
use Rattle.file_views.specs.Entries.{entered, bytes_after_all, are_right}
use Rattle.file_views.specs.Coherent.{coherent}
use Rattle.file_views.specs.LayerLaw.{Step}
use Rattle.file_views.proofs.SoundLaws.{sound_coherent, sound_changes, sound_right}
use Rattle.restart_views.specs.declared.restarted.Restarted.{Restarted}
use Rattle.restart_views.specs.ColdSteps.{uncached_setting, cold_step}
use Rattle.restart_views.specs.Restarts.{is_unclaimed, file_stepped, file_entered, Restarts}
use Rattle.restart_views.proofs.CoolLaws.{cold_stood, step_cold, step_sound, step_bytes, step_right}

some_bytes : 0 < sprite_setting.block
some_bytes = omega arith

pub restarts_coherent : (s : Restarted) → Restarts sprite_setting s → coherent sprite_setting s.view (stands_for sprite_setting s.view) ≡ true
restarts_coherent s r = sound_coherent sprite_setting s.view some_bytes r.sound

pub restarts_stood : (s : Restarted) → Restarts sprite_setting s → is_unclaimed s.kept ≡ true → stands_for sprite_setting s.view ≡ s.view.bytes
restarts_stood s r u = cold_stood sprite_setting (length s.kept) s.view some_bytes (r.uncached u) (r.cold u) r.sound

bytes_by : (s : Restarted) (step : FileStep) (b : Bool) → is_unclaimed s.kept ≡ b → Restarts sprite_setting s → stands_for sprite_setting (cond b (cold_step sprite_setting s.view step) (stepped sprite_setting s.view step)) ≡ bytes_after_all sprite_setting (stands_for sprite_setting s.view) (cond b (entered (uncached_setting sprite_setting) s.view step) (entered sprite_setting s.view step))
bytes_by s step true e r =
    cold_stood sprite_setting (length s.kept) (cold_step sprite_setting s.view step) some_bytes refl (step_cold (length s.kept) s.view step (r.uncached e) (r.cold e) r.sound) (step_sound (length s.kept) s.view step (r.uncached e) (r.cold e) r.sound)
    ∙ (step_bytes (length s.kept) s.view step (r.uncached e) (r.cold e) r.sound ∙ ap (λ bs. bytes_after_all sprite_setting bs (entered (uncached_setting sprite_setting) s.view step)) (sym (restarts_stood s r e)))
bytes_by s step false e r = sound_changes sprite_setting s.view (Step step) some_bytes r.sound

pub restarts_bytes : (s : Restarted) (step : FileStep) → Restarts sprite_setting s → stands_for sprite_setting (file_stepped sprite_setting s step) ≡ bytes_after_all sprite_setting (stands_for sprite_setting s.view) (file_entered sprite_setting s step)
restarts_bytes s step r = bytes_by s step (is_unclaimed s.kept) refl r

right_by : (s : Restarted) (step : FileStep) (b : Bool) → is_unclaimed s.kept ≡ b → Restarts sprite_setting s → are_right sprite_setting (stands_for sprite_setting s.view) (cond b (entered (uncached_setting sprite_setting) s.view step) (entered sprite_setting s.view step)) ≡ true
right_by s step true e r = ap (λ bs. are_right sprite_setting bs (entered (uncached_setting sprite_setting) s.view step)) (restarts_stood s r e) ∙ step_right (length s.kept) s.view step (r.uncached e) (r.cold e) r.sound
right_by s step false e r = sound_right sprite_setting s.view (Step step) some_bytes r.sound

pub restarts_right : (s : Restarted) (step : FileStep) → Restarts sprite_setting s → are_right sprite_setting (stands_for sprite_setting s.view) (file_entered sprite_setting s step) ≡ true
restarts_right s step r = right_by s step (is_unclaimed s.kept) refl r
