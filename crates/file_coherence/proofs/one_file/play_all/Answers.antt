use Rattle.file_views.specs.Setting.{sprite_setting}
use Rattle.file_coherence.proofs.RunLaws.{played_next, noted_next}
use Rattle.file_coherence.proofs.one_file.play_all.Goals as goal

pub loop-step-preserved : goal.loop-step-preserved
loop-step-preserved c = (
  played_next sprite_setting c.sprite-limits.result c.args.view.now c.loop-step.view c.play_one.new.view c.args.steps.now c.loop-step.step-index _ c.sprite-limits.ensures c.loop-step.invariant.0 c.in_ok-play_one.ensures.ok c.loop-step-test.true c.step-item.is,
  noted_next sprite_setting c.sprite-limits.result c.args.view.now c.loop-step.view c.loop-step.noted c.play_one.new.noted c.args.steps.now c.loop-step.step-index _ c.sprite-limits.ensures c.loop-step.invariant.0 c.loop-step.invariant.1 c.in_ok-play_one.ensures.entered c.loop-step-test.true c.step-item.is,
)
