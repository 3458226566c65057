-- The bytes that a file stands for whose server may have stopped.
use Rattle.std.specs.Prelude.{◌≡◌, ◌≢◌, ◌≤◌, ◌⊎◌, ℕ, ◌==◌, true, false, if◌then◌else◌, List, [], ◌∷◌, Option, Some, None, slice_index_or}
use Rattle.file_views.specs.declared.View.{View}
use Rattle.file_views.specs.Setting.{Setting, sprite_setting}
use Rattle.file_views.specs.Streams.{is_any}
use Rattle.file_views.specs.Serving.{store_blocks}
use Rattle.file_views.specs.Settled.{stands_for}
use Rattle.restart_views.specs.declared.kept.Kept.{Kept}
use Rattle.restart_views.specs.declared.restarted.Restarted.{Restarted}
use Rattle.restart_views.specs.Answered.{Answered}
use Rattle.restart_views.specs.Restarts.{kept_at, keeps_blocks, after_stop, after_claim, Restarts}

-- with dirty blocks that a client keeps by itself: those over the server's bytes, where they are of the server's version; else the
-- server's bytes
abbrev pub due_kept : Setting → View → Kept → List ℕ
due_kept z v one = if one.version == v.version then store_blocks z v.bytes one.size one.blocks else v.bytes

abbrev pub due_of : Setting → View → Option Kept → List ℕ
due_of z v (Some one) = due_kept z v one
due_of z v None = stands_for z v

-- by the first client that keeps dirty blocks by itself; without one, what the view stands for
abbrev pub due_in : Setting → View → List (Option Kept) → List ℕ
due_in z v [] = stands_for z v
due_in z v (one ∷ rest) = if keeps_blocks one then due_of z v one else due_in z v rest

abbrev pub due : Setting → Restarted → List ℕ
due z s = due_in z s.view s.kept

-- at most one client keeps dirty blocks by itself
abbrev pub NoneOld : List (Option Kept) → Type 0
NoneOld kept = (place : ℕ) → keeps_blocks (slice_index_or kept place None) ≡ false

pub record OldAt (kept : List (Option Kept)) : Type 0 where
  pub place : ℕ
  pub one : Kept
  pub is : slice_index_or kept place None ≡ Some one
  pub some : is_any one.blocks ≡ true
  pub others : (other : ℕ) → other ≢ place → keeps_blocks (slice_index_or kept other None) ≡ false

abbrev pub OneOld : List (Option Kept) → Type 0
OneOld kept = NoneOld kept ⊎ OldAt kept

pub record DueStays : Type 0 where
  -- a stop leaves the bytes, also those of blocks that were dirty, or in an answer that hadn't come; then one client keeps such blocks at most
  pub stop : (s : Restarted) → Restarts sprite_setting s → Answered s.view → OneOld s.kept → due sprite_setting (after_stop sprite_setting s) ≡ due sprite_setting s
  pub stop_one : (s : Restarted) → Restarts sprite_setting s → Answered s.view → OneOld s.kept → OneOld (after_stop sprite_setting s).kept
  -- so does a claim, granted or refused
  pub claim : (s : Restarted) (kernel : ℕ) → 1 ≤ kernel → Restarts sprite_setting s → OneOld s.kept → due sprite_setting (after_claim sprite_setting s kernel (kept_at s.kept kernel)) ≡ due sprite_setting s
  pub claim_one : (s : Restarted) (kernel : ℕ) → OneOld s.kept → OneOld (after_claim sprite_setting s kernel (kept_at s.kept kernel)).kept
