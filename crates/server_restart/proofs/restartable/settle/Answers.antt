use Rattle.std.proofs.Common.{rules, sym, ◌∙◌}
use Rattle.file_views.specs.Setting.{sprite_setting}
use Rattle.server_restart.proofs.PlayLaws.{next_settled, next_noted, none_settled, none_told, ends_noted}
use Rattle.server_restart.proofs.restartable.settle.Goals as goal

pub loop-done-init : goal.loop-done-init
loop-done-init c = (none_settled sprite_setting c.args.state.now, none_told sprite_setting c.args.state.now c.args.outcomes.now)

pub loop-done-preserved : goal.loop-done-preserved
loop-done-preserved c = (
  next_settled sprite_setting c.args.state.now c.loop-done.state c.do_file.new.state c.loop-done._done c.in-Some.call c.loop-done.invariant.0 (sym c.least_due.ensures ∙ c.in-Some.is) c.in_ok-do_file.ensures.ok,
  next_noted sprite_setting c.args.state.now c.loop-done.state c.args.outcomes.now c.loop-done.outcomes c.do_file.new.outcomes c.loop-done._done c.in-Some.call c.loop-done.invariant.0 c.loop-done.invariant.1 (sym c.least_due.ensures ∙ c.in-Some.is) c.in_ok-do_file.ensures.told,
)

pub returns-in_default-clause-told : goal.returns-in_default-clause-told
returns-in_default-clause-told c = ends_noted sprite_setting c.args.state.now c.loop-done.state c.args.outcomes.now c.loop-done.outcomes c.loop-done._done (search rules) c.loop-done.invariant.0 c.loop-done.invariant.1 (search rules)
