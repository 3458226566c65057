use Rattle.std.proofs.Common.{sym, ◌∙◌}
use Rattle.sprite_ids.proofs.OnceLaws.{less_here, none_found}
use Rattle.kernel_steps.specs.Rows.{is_row}
use Rattle.kernel_steps.proofs.QueueLaws.{any_there, none_less}
use Rattle.kernel_steps.proofs.queue.Queue.take_row.Goals as goal

pub returns-in-None-clause-found : goal.returns-in-None-clause-found
returns-in-None-clause-found g c =
    sym (none_found (is_row g.K.PartialEq.eq g.V.PartialEq.eq c.args.key.now c.args.value.now) c.args.self.now (sym c.row_place.ensures ∙ c.in-None.is))

pub returns-in-None-clause-rows : goal.returns-in-None-clause-rows
returns-in-None-clause-rows g c =
    none_less (is_row g.K.PartialEq.eq g.V.PartialEq.eq c.args.key.now c.args.value.now) c.args.self.now (sym c.row_place.ensures ∙ c.in-None.is)

pub returns-in-Some-clause-found : goal.returns-in-Some-clause-found
returns-in-Some-clause-found g c =
    any_there (is_row g.K.PartialEq.eq g.V.PartialEq.eq c.args.key.now c.args.value.now) c.args.self.now c.in-Some.place (sym c.row_place.ensures ∙ c.in-Some.is)

pub returns-in-Some-clause-rows : goal.returns-in-Some-clause-rows
returns-in-Some-clause-rows g c =
    c.take_at-row.ensures.rows
    ∙ less_here (is_row g.K.PartialEq.eq g.V.PartialEq.eq c.args.key.now c.args.value.now) c.args.self.now c.in-Some.place c.take_at-row.result (sym c.row_place.ensures ∙ c.in-Some.is)
