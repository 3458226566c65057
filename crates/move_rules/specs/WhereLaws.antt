-- Where processes are that aren't on their way, as the records tell it.
use Rattle.std.proofs.Common.{◌≡◌, ℕ, ◌==◌, Bool, true, false, cond, ◌&&◌, not, Option, Some, None, refl}
use Rattle.std.specs.Option.{option_map, option_and_then}
use Rattle.call_journal.specs.Past.{Whereabouts, holds, settled_at}
use Rattle.trace_places.specs.Places.{place_by, is_on_its_way}
use Rattle.move_rules.specs.Whereabouts.{is_placed_at}

placed_by : (w : Whereabouts) (kernel : ℕ) (b : Bool) → w.moving ≡ b → (not b && w.kernel == kernel) ≡ holds (λ at. at == kernel) (cond b None (Some w.kernel))
placed_by w kernel true is = refl
placed_by w kernel false is = refl

pub placed_told : (o : Option Whereabouts) (kernel : ℕ) → is_placed_at (option_map place_by o) kernel ≡ holds (λ at. at == kernel) (option_and_then settled_at o)
placed_told None kernel = refl
placed_told (Some w) kernel = placed_by w kernel w.moving refl

pub moving_told : (o : Option Whereabouts) → is_on_its_way (option_map place_by o) ≡ holds (λ (w : Whereabouts). w.moving) o
moving_told None = refl
moving_told (Some w) = refl
