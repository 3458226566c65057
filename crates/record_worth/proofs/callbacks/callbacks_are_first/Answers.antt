use Rattle.record_worth.specs.CallbackLaws.{no_calls_told}
use Rattle.record_worth.proofs.callbacks.callbacks_are_first.Goals as goal

pub each_keeps-requires : goal.each_keeps-requires
each_keeps-requires c = no_calls_told c.no_calls-judge.result c.no_calls-judge.ensures.opens c.no_calls-judge.ensures.called
