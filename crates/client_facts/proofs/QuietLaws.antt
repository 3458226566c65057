-- Rounds in which nothing is left change nothing.
use Rattle.std.proofs.Common.{◌≡◌, ℕ, zero, suc, Bool, true, false, cond, refl, ap, ◌∙◌}
use Rattle.client_homes.specs.declared.client.ClientProcs.{ClientProcs}
use Rattle.client_procs.specs.Turning.{is_quiet, turned, turns}

quiet_by : (b : Bool) (s t : ClientProcs) → b ≡ true → cond b s t ≡ s
quiet_by true s t h = refl
quiet_by false s t h = absurd (cc)

pub quiet_stays : (s : ClientProcs) (count : ℕ) → is_quiet s ≡ true → turns count s ≡ s
quiet_stays s zero h = refl
quiet_stays s (suc count) h = ap turned (quiet_stays s count h) ∙ quiet_by (is_quiet s) s _ h
