use Rattle.sprite_words.specs.Words.{spelled}
use Rattle.frames_text.specs.Texts.{AreTold}
use Rattle.sprite_top.proofs.CauseLaws.{answer_for_cause, answer_prefixes, answer_reached, answer_rose}
use Rattle.sprite_top.proofs.CompleteLaws.{answer_completes}
use Rattle.sprite_top.proofs.top.sprite.Goals as goal

pub returns-in-Ok-write_all-clause-rose : goal.returns-in-Ok-write_all-clause-rose
returns-in-Ok-write_all-clause-rose g c = answer_rose g.L.Link.faults g.L.Link.asked c.args.link c.answer_to-answer.result.1 c.answer_to-answer.result.0 c.in-Ok.answer c.in-Ok.is c.answer_to-answer.ensures.over

pub returns-in-Ok-write_all-clause-reached : goal.returns-in-Ok-write_all-clause-reached
returns-in-Ok-write_all-clause-reached g c = answer_reached g.L.Link.faults g.L.Link.asked c.args.link c.answer_to-answer.result.1 c.answer_to-answer.result.0 c.in-Ok.answer c.in-Ok.is c.answer_to-answer.ensures.over

pub returns-in-Ok-write_all-clause-complete : goal.returns-in-Ok-write_all-clause-complete
returns-in-Ok-write_all-clause-complete g c =
    answer_completes (AreTold g.L.Link.faults g.L.Link.asked c.args.link c.answer_to-answer.result.1) (g.K.Sink.faults c.args.sink.now) (g.K.Sink.faults c.write_all.new.sink) (spelled c.args.words.now) (g.S.Source.left c.args.source.now) (g.S.Source.left c.answer_to-answer.new.source) (g.S.Source.faults c.args.source.now) (g.S.Source.faults c.answer_to-answer.new.source) c.answer_to-answer.result.0 c.in-Ok.answer c.in-Ok.is c.answer_to-answer.ensures.causes

pub returns-clause-rose : goal.returns-clause-rose
returns-clause-rose g c = answer_rose g.L.Link.faults g.L.Link.asked c.args.link c.answer_to-answer.result.1 c.answer_to-answer.result.0 c.in-Ok.answer c.in-Ok.is c.answer_to-answer.ensures.over

pub returns-clause-reached : goal.returns-clause-reached
returns-clause-reached g c = answer_reached g.L.Link.faults g.L.Link.asked c.args.link c.answer_to-answer.result.1 c.answer_to-answer.result.0 c.in-Ok.answer c.in-Ok.is c.answer_to-answer.ensures.over

pub returns-in-Ok-write_all-clause-prefixes : goal.returns-in-Ok-write_all-clause-prefixes
returns-in-Ok-write_all-clause-prefixes g c = answer_prefixes g.L.Link.faults g.L.Link.asked c.args.link c.answer_to-answer.result.1 c.answer_to-answer.result.0 c.in-Ok.answer c.in-Ok.is c.answer_to-answer.ensures.over

pub returns-clause-prefixes : goal.returns-clause-prefixes
returns-clause-prefixes g c = answer_prefixes g.L.Link.faults g.L.Link.asked c.args.link c.answer_to-answer.result.1 c.answer_to-answer.result.0 c.in-Ok.answer c.in-Ok.is c.answer_to-answer.ensures.over

pub returns-in-Ok-write_all-clause-for_cause : goal.returns-in-Ok-write_all-clause-for_cause
returns-in-Ok-write_all-clause-for_cause g c = answer_for_cause g.L.Link.faults g.L.Link.asked c.args.link c.answer_to-answer.result.1 c.answer_to-answer.result.0 c.in-Ok.answer c.in-Ok.is c.answer_to-answer.ensures.over

pub returns-clause-for_cause : goal.returns-clause-for_cause
returns-clause-for_cause g c = answer_for_cause g.L.Link.faults g.L.Link.asked c.args.link c.answer_to-answer.result.1 c.answer_to-answer.result.0 c.in-Ok.answer c.in-Ok.is c.answer_to-answer.ensures.over
