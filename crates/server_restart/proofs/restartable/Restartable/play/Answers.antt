use Rattle.std.proofs.Common.{◌≡◌, true, OnOk, subst}
use Rattle.file_views.specs.Setting.{sprite_setting}
use Rattle.restart_views.specs.declared.Restarted.{Restarted}
use Rattle.restart_views.specs.RunBytes.{due}
use Rattle.restart_views.specs.RunLaw.{bytes_run, stays_right}
use Rattle.restart_views.proofs.RunLaws.{runs_coherent}
use Rattle.server_restart.proofs.PlayLaws.{part_runs, part_owing, due_run, right_run, settled_run}
use Rattle.server_restart.proofs.restartable.Restartable.play.Goals as goal

pub invariant_of-self : goal.invariant_of-self
invariant_of-self c = (
  part_runs _ _ c.args.steps.now c.self.invariant.0 c.play_all.ensures.part,
  part_owing _ _ c.args.steps.now c.self.invariant.0 c.self.invariant.1 c.play_all.ensures.part,
)

pub returns-clause-bytes : goal.returns-clause-bytes
returns-clause-bytes c = subst (λ (s : Restarted). OnOk c.play_all.result (due sprite_setting c.play_all.new.state ≡ bytes_run sprite_setting s (due sprite_setting s) c.args.steps.now)) c.self.view_is
    (due_run _ c.play_all.new.state c.args.steps.now c.play_all.result c.self.invariant.0 c.play_all.ensures.state)

pub returns-clause-coherent : goal.returns-clause-coherent
returns-clause-coherent c = runs_coherent c.play_all.new.state (part_runs _ _ c.args.steps.now c.self.invariant.0 c.play_all.ensures.part)

pub returns-clause-whole : goal.returns-clause-whole
returns-clause-whole c = subst (λ (s : Restarted). OnOk c.play_all.result (stays_right sprite_setting s (due sprite_setting s) c.args.steps.now ≡ true)) c.self.view_is (right_run _ c.args.steps.now c.play_all.result c.self.invariant.0)

pub returns-clause-settled : goal.returns-clause-settled
returns-clause-settled c = λ first e. settled_run _ c.play_all.new.state c.args.steps.now first c.play_all.result c.self.invariant.0 c.self.invariant.1 e c.play_all.ensures.state
