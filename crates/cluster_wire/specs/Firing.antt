-- The timer of a remote call fires.
use Rattle.std.specs.Prelude.{◌≡◌, ℕ, ◌==◌, Bool, true, false, ◌&&◌, Option, Some, None}
use Rattle.sprite_ids.specs.declared.TxNo.{TxNo}
use Rattle.link_plan.specs.Counts.{Asks}
use Rattle.kernel_rpc.specs.declared.call.Call.{Call}
use Rattle.kernel_rpc.specs.declared.Expired.{Expired}
use Rattle.kernel_rpc.specs.declared.Expired.TheVariants.{Resent, GivenUp}
use Rattle.kernel_rpc.specs.Machine.{Machine, call_of, is_last, may_expire}
use Rattle.kernel_rpc.specs.Runs.{Expire}
use Rattle.kernel_rpc.specs.Sound.{Wired}
use Rattle.kernel_rpc.specs.Steps.{IsStep, sent_in}

-- whether a looked-up call is that kernel's
abbrev pub is_from : ℕ → Option Call → Bool
is_from kernel None = false
is_from kernel (Some call) = call.from == kernel

-- whether the timer of the call may fire, and the call is the kernel's
abbrev pub may_fire : ℕ → Machine → TxNo → Bool
may_fire kernel machine tx = is_from kernel (call_of machine tx) && may_expire machine tx

-- whether the next lost try of a looked-up call is its last one
abbrev pub is_last_in : Option Call → Bool
is_last_in None = false
is_last_in (Some call) = is_last call

-- whether a call whose timer fired was given up
abbrev pub gives_up : Expired → Bool
gives_up (Resent sent) = false
gives_up (GivenUp before now) = true

-- the timer of a call of the kernel fires: the call is given up exactly where this was its last try, and else its request goes out
-- again; the link is asked about these packets alone
pub record Fires {L : Type 0} (faults asked : L → ℕ → ℕ → ℕ) (kernel : ℕ) (tx : TxNo) (expired : Expired) (old new : Wired L) : Type 0 where
  pub last : gives_up expired ≡ is_last_in (call_of old.machine tx)
  pub step : IsStep faults asked old (Expire tx (sent_in expired)) new
  pub asks : Asks faults asked kernel old.link new.link (sent_in expired)
