use Rattle.std.proofs.Common.{sym, ◌∙◌}
use Rattle.sprite_ids.proofs.OnceLaws.{less_here}
use Rattle.kernel_steps.specs.Rows.{is_under}
use Rattle.kernel_steps.proofs.QueueLaws.{first_here, none_first, none_less}
use Rattle.kernel_steps.proofs.queue.Queue.take.Goals as goal

pub returns-in-None-clause-value : goal.returns-in-None-clause-value
returns-in-None-clause-value g c =
    none_first g.K.PartialEq.eq c.args.key.now c.args.self.now (sym c.place.ensures ∙ c.in-None.is)

pub returns-in-None-clause-rows : goal.returns-in-None-clause-rows
returns-in-None-clause-rows g c =
    none_less (is_under g.K.PartialEq.eq c.args.key.now) c.args.self.now (sym c.place.ensures ∙ c.in-None.is)

pub returns-in-Some-clause-value : goal.returns-in-Some-clause-value
returns-in-Some-clause-value g c =
    first_here g.K.PartialEq.eq c.args.key.now c.args.self.now c.in-Some.place c.take_at-key.result (sym c.place.ensures ∙ c.in-Some.is) c.take_at-key.ensures.value

pub returns-in-Some-clause-rows : goal.returns-in-Some-clause-rows
returns-in-Some-clause-rows g c =
    c.take_at-key.ensures.rows
    ∙ less_here (is_under g.K.PartialEq.eq c.args.key.now) c.args.self.now c.in-Some.place c.take_at-key.result (sym c.place.ensures ∙ c.in-Some.is)
