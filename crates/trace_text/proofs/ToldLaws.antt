-- What is printed of entries whose parts don't belong together.
use Rattle.std.proofs.Common.{◌≡◌, false, [], Option, Some, None, refl}
use Rattle.process_machine.specs.declared.call.Call.{Call}
use Rattle.process_machine.specs.declared.call.Reply.{Reply}
use Rattle.unix_calls.specs.declared.entry.Part.{Part}
use Rattle.unix_calls.specs.declared.entry.Part.TheVariants as part
use Rattle.history_text.specs.Entries.{belong, told_shape}

-- such parts print as nothing
pub tells_nothing : (kind : Part) (call : Option Call) (reply : Option Reply) → belong kind call reply ≡ false → (told_shape kind call reply).printed ≡ []
tells_nothing part.Whole (Some call) (Some reply) apart = absurd (cc (apart))
tells_nothing part.Whole (Some call) None apart = refl
tells_nothing part.Whole None reply apart = refl
tells_nothing part.Ask (Some call) (Some reply) apart = refl
tells_nothing part.Ask (Some call) None apart = absurd (cc (apart))
tells_nothing part.Ask None reply apart = refl
tells_nothing part.Done (Some call) (Some reply) apart = absurd (cc (apart))
tells_nothing part.Done (Some call) None apart = refl
tells_nothing part.Done None reply apart = refl
tells_nothing part.Death (Some call) reply apart = refl
tells_nothing part.Death None (Some reply) apart = refl
tells_nothing part.Death None None apart = absurd (cc (apart))
