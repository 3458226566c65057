-- Parts of the definitions that a function of this crate does by itself.
use Rattle.std.specs.Prelude.{◌≡◌, ◌≤◌, ◌⊎◌, ℕ, ◌+◌, List, [], ◌∷◌, length, take, Option, Some, slice_get}
use Rattle.sprite_ids.specs.declared.BlockNo.{BlockNo}
use Rattle.file_views.specs.declared.Client.{Client}
use Rattle.file_views.specs.declared.View.{View}
use Rattle.file_views.specs.Setting.{Setting}
use Rattle.file_views.specs.Clients.{pieces}
use Rattle.restart_views.specs.declared.Restarted.{Restarted}
use Rattle.restart_views.specs.declared.RestartStep.{RestartStep}
use Rattle.restart_views.specs.declared.RestartStep.TheVariants as does
use Rattle.restart_views.specs.Restarts.{answer_of, answered_size, answered_blocks, settled_in, all_restarted}

-- the size and the blocks that a client keeps
abbrev pub kept_data : Setting → View → ℕ → Client → ℕ × List (BlockNo × List ℕ)
kept_data z v place c = (answered_size c.size (answer_of (place + 1) v.calls), answered_blocks (pieces z c.size c.blocks) (answer_of (place + 1) v.calls))

-- the last state is the first one after a step in part: as before, or after some deliveries of a settling
pub record StepInPart (z : Setting) (first last : Restarted) (step : RestartStep) : Type 0 where
  pub deliveries : ℕ
  pub settles : (deliveries ≡ 0) ⊎ (step ≡ does.Settle)
  pub done : last ≡ settled_in z deliveries first

-- the last state is the first one after some of the steps, from their beginning on, and, where the next is a settling, after some of
-- its deliveries
pub record RestartedInPart (z : Setting) (first last : Restarted) (steps : List RestartStep) : Type 0 where
  pub count : ℕ
  pub within : count ≤ length steps
  pub deliveries : ℕ
  pub settles : (deliveries ≡ 0) ⊎ (slice_get steps count ≡ Some does.Settle)
  pub done : last ≡ settled_in z deliveries (all_restarted z first (take count steps))
