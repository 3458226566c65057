use Rattle.std.proofs.Common.{ap, sym, subst, ◌∙◌}
use Rattle.file_views.specs.Setting.{sprite_setting}
use Rattle.restart_views.specs.declared.Restarted.{Restarted}
use Rattle.restart_views.specs.RunBytes.{due}
use Rattle.restart_views.specs.RunLaw.{Runs}
use Rattle.restart_views.proofs.RunLaws.{new_runs, new_due}
use Rattle.settling_laws.specs.Settling.{Owing}
use Rattle.settling_laws.proofs.SettleLaws.{new_owing}
use Rattle.server_restart.proofs.PlayLaws.{same_new}
use Rattle.server_restart.proofs.restartable.Restartable.new.Goals as goal

pub invariant_of-result : goal.invariant_of-result
invariant_of-result c = let same = same_new c.in_ok-view.view c.new-kept.result c.from.result c.args.kernels c.args.bytes c.in_ok-view.ensures c.from.ensures c.new-kept.ensures in (
  subst Runs (sym same) (new_runs c.args.kernels c.args.bytes c.requires.clients.0 c.requires.clients.1 c.requires.size),
  subst (λ (s : Restarted). Owing s.view) (sym same) (new_owing c.args.kernels c.args.bytes),
)

pub returns-clause-bytes : goal.returns-clause-bytes
returns-clause-bytes c = ap (due sprite_setting) (same_new c.in_ok-view.view c.new-kept.result c.from.result c.args.kernels c.args.bytes c.in_ok-view.ensures c.from.ensures c.new-kept.ensures) ∙ new_due c.args.kernels c.args.bytes c.requires.clients.0 c.requires.clients.1
