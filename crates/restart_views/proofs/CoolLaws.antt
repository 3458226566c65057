-- A step of a file while no client may cache it: it stays so, and its server's bytes change by what takes effect.
use Rattle.std.proofs.Common.{◌≡◌, ◌<◌, ℕ, zero, suc, ◌+◌, Bool, true, false, cond, ◌&&◌, List, [], ◌∷◌, replicate, refl, sym, ap, ap₂, ◌∙◌, subst, arith, slice_index_or}
use Rattle.sprite_ids.specs.declared.CacheMode.TheVariants as cache
use Rattle.file_views.specs.declared.body.FileBody.{FileBody}
use Rattle.file_views.specs.declared.client.Client.{Client}
use Rattle.file_views.specs.declared.moves.ClientMove.TheVariants as move
use Rattle.file_views.specs.declared.step.FileStep.{FileStep}
use Rattle.file_views.specs.declared.step.FileStep.TheVariants as act
use Rattle.file_views.specs.declared.view.View.{View}
use Rattle.file_views.specs.declared.entered.Entered.{Entered}
use Rattle.file_views.specs.Setting.{Setting, sprite_setting}
use Rattle.file_views.specs.Clients.{is_on}
use Rattle.file_views.specs.Possible.{stepped}
use Rattle.file_views.specs.Entries.{entered, bytes_entered, bytes_after_all, is_right, are_right}
use Rattle.file_views.specs.Settled.{stands_for}
use Rattle.file_views.specs.LayerLaw.{Step, Move}
use Rattle.file_views.specs.Here.{IsClient}
use Rattle.file_views.specs.Sound.{Sound}
use Rattle.file_views.proofs.ShapeMoveLaws.{client_new, count_new}
use Rattle.file_views.proofs.SoundLaws.{sound_stays, sound_changes, sound_right}
use Rattle.restart_views.specs.ServerMoves.{bare}
use Rattle.restart_views.specs.ColdSteps.{uncached_setting, read_opens, cold_step, Cold}
use Rattle.restart_views.proofs.CalmLaws.{Calm, calm_changed, calm_bytes}
use Rattle.restart_views.proofs.SettingLaws.{none_cache, some_cache}
use Rattle.restart_views.proofs.ColdLaws.{cold_stepped, cold_uncached, cold_may}
use Rattle.file_views.specs.Moves.{may_move}

none_on_place : (count place : ℕ) → is_on (slice_index_or (replicate count cache.None) place cache.None) ≡ false
none_on_place zero place = refl
none_on_place (suc count) zero = refl
none_on_place (suc count) (suc place) = none_on_place count place

pub cold_bare : (count : ℕ) (bytes : List ℕ) (version next : ℕ) → Cold count (bare count bytes version next)
cold_bare count bytes version next = record {
  count = count_new count bytes;
  unheld = refl;
  given = λ place. none_on_place count place;
  off = λ kernel i. ap (λ (c : Client). is_on c.mode) (client_new count bytes kernel (subst (λ n. IsClient n kernel) (count_new count bytes) i));
  later = λ one m. absurd m;
}

pub calm_cold : (count : ℕ) (v : View) → v.uncached ≡ true → Cold count v → Calm v
calm_cold count v u c = record { uncached = u; unheld = c.unheld; off = c.off; later = c.later }

pub cold_stood : (z : Setting) (count : ℕ) (v : View) → 0 < z.block → v.uncached ≡ true → Cold count v → Sound z v → stands_for z v ≡ v.bytes
cold_stood z count v p u c s = calm_bytes z v v.bytes v.version p (calm_cold count v u c) (omega arith) s.requests.limit s

-- the setting of caches changes no bytes
same_entered : (z : Setting) (bytes : List ℕ) (step : FileStep) → bytes_entered (uncached_setting z) bytes step ≡ bytes_entered z bytes step
same_entered z bytes (act.Opening pid number kernel stream mode truncate) = refl
same_entered z bytes (act.Writing pid number kernel stream from new) = refl
same_entered z bytes (act.Append pid number kernel stream new) = refl
same_entered z bytes step = refl

same_right : (z : Setting) (bytes : List ℕ) (step : FileStep) (reply : FileBody) → is_right (uncached_setting z) bytes step reply ≡ is_right z bytes step reply
same_right z bytes (act.Reading pid number kernel stream from many) reply = refl
same_right z bytes (act.Append pid number kernel stream new) reply = refl
same_right z bytes step reply = refl

same_after : (z : Setting) (bytes : List ℕ) (es : List Entered) → bytes_after_all (uncached_setting z) bytes es ≡ bytes_after_all z bytes es
same_after z bytes [] = refl
same_after z bytes (one ∷ rest) = ap (λ bs. bytes_after_all (uncached_setting z) bs rest) (same_entered z bytes one.step) ∙ same_after z (bytes_entered z bytes one.step) rest

same_rights : (z : Setting) (bytes : List ℕ) (es : List Entered) → are_right (uncached_setting z) bytes es ≡ are_right z bytes es
same_rights z bytes [] = refl
same_rights z bytes (one ∷ rest) = ap₂ (λ a b. a && b) (same_right z bytes one.step one.reply) (ap (λ bs. are_right (uncached_setting z) bs rest) (same_entered z bytes one.step) ∙ same_rights z (bytes_entered z bytes one.step) rest)

some_bytes : 0 < sprite_setting.block
some_bytes = omega arith

abbrev pub cool : Setting
cool = uncached_setting sprite_setting

after_cold : (count : ℕ) (v : View) (step : FileStep) → v.uncached ≡ true → Cold count v → Sound sprite_setting v → Cold count (stepped cool v step)
after_cold count v step u c s = cold_stepped sprite_setting count v step (none_cache sprite_setting v u s) c

after_sound : (v : View) (step : FileStep) → v.uncached ≡ true → Sound sprite_setting v → Sound cool (stepped cool v step)
after_sound v step u s = sound_stays cool v (Step step) some_bytes (none_cache sprite_setting v u s)

pub step_cold : (count : ℕ) (v : View) (step : FileStep) → v.uncached ≡ true → Cold count v → Sound sprite_setting v → Cold count (cold_step sprite_setting v step)
step_cold count v step u c s = let d = after_cold count v step u c s in record { count = d.count; unheld = d.unheld; given = d.given; off = d.off; later = d.later }

off_sound : (count : ℕ) (v : View) (step : FileStep) → v.uncached ≡ true → Cold count v → Sound sprite_setting v → Sound cool (record (stepped cool v step) { uncached = true })
off_sound count v step u c s = cold_uncached cool count (stepped cool v step) some_bytes (after_cold count v step u c s) (after_sound v step u s)

off_calm : (count : ℕ) (v : View) (step : FileStep) → v.uncached ≡ true → Cold count v → Sound sprite_setting v → Calm (record (stepped cool v step) { uncached = true })
off_calm count v step u c s = let d = after_cold count v step u c s in record { uncached = refl; unheld = d.unheld; off = d.off; later = d.later }

pub step_sound : (count : ℕ) (v : View) (step : FileStep) → v.uncached ≡ true → Cold count v → Sound sprite_setting v → Sound sprite_setting (cold_step sprite_setting v step)
step_sound count v step u c s =
    let w : View = record (stepped cool v step) { uncached = true } in
    let t : Sound cool w = off_sound count v step u c s in
    some_cache (cold_step sprite_setting v step) (calm_changed cool w w.bytes (w.version + read_opens (entered cool v step)) (off_calm count v step u c s) (omega arith) t.requests.limit t)

pub step_bytes : (count : ℕ) (v : View) (step : FileStep) → v.uncached ≡ true → Cold count v → Sound sprite_setting v → (cold_step sprite_setting v step).bytes ≡ bytes_after_all sprite_setting v.bytes (entered cool v step)
step_bytes count v step u c s =
    let w : View = stepped cool v step in
    let a : stands_for cool w ≡ bytes_after_all cool (stands_for cool v) (entered cool v step) = sound_changes cool v (Step step) some_bytes (none_cache sprite_setting v u s) in
    let b : stands_for cool v ≡ v.bytes = cold_stood cool count v some_bytes u c (none_cache sprite_setting v u s) in
    let d : stands_for cool w ≡ w.bytes = by_test w.uncached refl in
    sym d ∙ (a ∙ (ap (λ bs. bytes_after_all cool bs (entered cool v step)) b ∙ same_after sprite_setting v.bytes (entered cool v step)))
  where
    by_test : (b : Bool) → (stepped cool v step).uncached ≡ b → stands_for cool (stepped cool v step) ≡ (stepped cool v step).bytes
    by_test true e = cold_stood cool count (stepped cool v step) some_bytes e (after_cold count v step u c s) (after_sound v step u s)
    by_test false e =
        let w : View = stepped cool v step in
        let m : stands_for cool (cond (may_move cool w move.Uncache) (record w { uncached = true }) w) ≡ bytes_after_all cool (stands_for cool w) (cond (may_move cool w move.Uncache) [] []) = sound_changes cool w (Move move.Uncache) some_bytes (after_sound v step u s) in
        let x : may_move cool w move.Uncache ≡ true = cold_may cool count w e (after_cold count v step u c s) (after_sound v step u s) in
        let n : stands_for cool (record w { uncached = true }) ≡ stands_for cool w = subst (λ b. stands_for cool (cond b (record w { uncached = true }) w) ≡ bytes_after_all cool (stands_for cool w) (cond b [] [])) x m in
        sym n ∙ calm_bytes cool (record w { uncached = true }) w.bytes w.version some_bytes (off_calm count v step u c s) (omega arith) (off_sound count v step u c s).requests.limit (off_sound count v step u c s)

pub step_right : (count : ℕ) (v : View) (step : FileStep) → v.uncached ≡ true → Cold count v → Sound sprite_setting v → are_right sprite_setting v.bytes (entered cool v step) ≡ true
step_right count v step u c s =
    let a : are_right cool (stands_for cool v) (entered cool v step) ≡ true = sound_right cool v (Step step) some_bytes (none_cache sprite_setting v u s) in
    let b : stands_for cool v ≡ v.bytes = cold_stood cool count v some_bytes u c (none_cache sprite_setting v u s) in
    sym (same_rights sprite_setting v.bytes (entered cool v step)) ∙ (sym (ap (λ bs. are_right cool bs (entered cool v step)) b) ∙ a)
