-- A step of a file while its server doesn't yet know again who has it open: no client may cache it.
use Rattle.std.specs.Prelude.{◌≡◌, ℕ, ◌+◌, Bool, true, false, not, if◌then◌else◌, List, [], ◌∷◌, length, Some, None, slice_index_or}
use Rattle.sprite_ids.specs.declared.CacheMode.TheVariants as cache
use Rattle.file_views.specs.declared.grant.FileGrant.{FileGrant}
use Rattle.file_views.specs.declared.call.FileCall.{FileCall}
use Rattle.file_views.specs.declared.step.FileStep.{FileStep}
use Rattle.file_views.specs.declared.step.FileStep.TheVariants as act
use Rattle.file_views.specs.declared.view.View.{View}
use Rattle.file_views.specs.declared.entered.Entered.{Entered}
use Rattle.file_views.specs.Setting.{Setting, sprite_setting}
use Rattle.file_views.specs.Clients.{is_on}
use Rattle.file_views.specs.Views.{client, things}
use Rattle.file_views.specs.Settled.{arrival}
use Rattle.file_views.specs.Here.{In, IsClient}
use Rattle.file_views.specs.Sound.{Sound}
use Rattle.restart_views.specs.ServerMoves.{bare}
use Rattle.file_views.specs.Streams.{writes}
use Rattle.file_views.specs.Possible.{stepped}
use Rattle.file_views.specs.Entries.{entered, bytes_after_all, are_right}

-- what is fixed for a file that no client may cache
abbrev pub uncached_setting : Setting → Setting
uncached_setting z = record z { cached = false }

-- whether it is an open that is granted, and whether of a stream that doesn't write
abbrev pub is_open_step : FileStep → Bool
is_open_step (act.Opening pid number kernel stream mode truncate) = true
is_open_step step = false

abbrev pub is_read_open : FileStep → Bool
is_read_open (act.Opening pid number kernel stream mode truncate) = not (writes mode)
is_read_open step = false

-- how many such opens are among what took effect
abbrev pub read_opens : List Entered → ℕ
read_opens [] = 0
read_opens (one ∷ rest) = if is_read_open one.step then read_opens rest + 1 else read_opens rest

-- the view after the step: each open that was granted raised the version, the others by themselves
abbrev pub cold_step : Setting → View → FileStep → View
cold_step z v step = record (stepped (uncached_setting z) v step) { uncached = true; version = (stepped (uncached_setting z) v step).version + read_opens (entered (uncached_setting z) v step) }

-- it has so many clients and no holder, and nobody uses its cache, was told to, or is by a grant on its way
pub record Cold (clients : ℕ) (v : View) : Type 0 where
  pub count : length v.clients ≡ clients
  pub unheld : v.holder ≡ None
  pub given : (place : ℕ) → is_on (slice_index_or v.modes place cache.None) ≡ false
  pub off : (kernel : ℕ) → IsClient (length v.clients) kernel → is_on (client v kernel).mode ≡ false
  pub later : (one : FileCall) → In one (things v) → (grant : FileGrant) → arrival one.reply ≡ Some grant → grant.on ≡ false

pub record ColdStepsStay : Type 0 where
  -- what a stop leaves is cold
  pub bare : (count : ℕ) (bytes : List ℕ) (version next : ℕ) → Cold count (bare count bytes version next)
  -- from a cold uncached view, reached or not, each step leads to one
  pub cold : (count : ℕ) (v : View) (step : FileStep) → v.uncached ≡ true → Cold count v → Sound sprite_setting v → Cold count (cold_step sprite_setting v step)
  pub sound : (count : ℕ) (v : View) (step : FileStep) → v.uncached ≡ true → Cold count v → Sound sprite_setting v → Sound sprite_setting (cold_step sprite_setting v step)
  -- whose bytes are the old ones as what takes effect changes them; and that is right
  pub bytes : (count : ℕ) (v : View) (step : FileStep) → v.uncached ≡ true → Cold count v → Sound sprite_setting v → (cold_step sprite_setting v step).bytes ≡ bytes_after_all sprite_setting v.bytes (entered (uncached_setting sprite_setting) v step)
  pub right : (count : ℕ) (v : View) (step : FileStep) → v.uncached ≡ true → Cold count v → Sound sprite_setting v → are_right sprite_setting v.bytes (entered (uncached_setting sprite_setting) v step) ≡ true
