use Rattle.std.proofs.Common.{refl}
use Rattle.file_views.specs.Setting.{sprite_setting}
use Rattle.server_restart.proofs.PlayLaws.{next_state, next_told, all_done, part_done}
use Rattle.server_restart.proofs.restartable.play_all.Goals as goal

pub loop-step-preserved : goal.loop-step-preserved
loop-step-preserved c = (
  next_state sprite_setting c.args.state.now c.loop-step.state c.play_one.new.state c.args.steps.now c.loop-step.step-index _ c.loop-step.invariant.0 c.in_ok-play_one.ensures.ok c.loop-step-test.true c.step-item.is,
  next_told sprite_setting c.args.state.now c.loop-step.state c.loop-step.outcomes c.play_one.new.outcomes c.args.steps.now c.loop-step.step-index _ c.loop-step.invariant.0 c.loop-step.invariant.1 c.in_ok-play_one.ensures.told c.loop-step-test.true c.step-item.is,
)
