-- That a settling of a file ends: how often what is under way may still come somewhere.
use Rattle.std.specs.Prelude.{◌≡◌, ◌≤◌, ℕ, ◌*◌, ◌==◌, if◌then◌else◌, List, None}
use Rattle.sprite_ids.specs.Lists.{total}
use Rattle.file_views.specs.declared.FileCall.{FileCall}
use Rattle.file_views.specs.declared.View.{View}
use Rattle.file_views.specs.Setting.{sprite_setting}
use Rattle.file_views.specs.Views.{new_view, things}
use Rattle.restart_views.specs.declared.Restarted.{Restarted}
use Rattle.restart_views.specs.declared.RestartStep.{RestartStep}
use Rattle.restart_views.specs.Restarts.{least_due, settled_in, most_due, all_restarted}
use Rattle.restart_views.specs.RunLaw.{Runs}

-- how often a call may still come somewhere: its request, its reply, and a move's stream; one that is carried, from no kernel, comes once
abbrev pub owed : FileCall → ℕ
owed one = if one.from == 0 then 1 else (if one.taken then 2 else 3)

-- no more is under way than what the calls that were begun may bring
abbrev pub Owing : View → Type 0
Owing v = total owed (things v) ≤ 3 * v.next

pub record SettlingsEnd : Type 0 where
  pub new : (count : ℕ) (bytes : List ℕ) → Owing (new_view count bytes)
  pub steps : (s : Restarted) (steps : List RestartStep) → Runs s → Owing s.view → Owing (all_restarted sprite_setting s steps).view
  -- after a settling nothing can come
  pub ends : (s : Restarted) → Runs s → Owing s.view → least_due (settled_in sprite_setting most_due s).view ≡ None
