use Rattle.std.proofs.Common.{sym, ap, ◌∙◌}
use Rattle.std.specs.List.{position}
use Rattle.sprite_ids.proofs.OnceLaws.{changed_here, none_found, unchanged}
use Rattle.kernel_steps.specs.Rows.{is_under, with_value}
use Rattle.kernel_steps.proofs.queue.set_first.Goals as goal

pub returns-in-None : goal.returns-in-None
returns-in-None g c =
    sym (unchanged (is_under g.K.PartialEq.eq c.args.key.now) (with_value c.args.value) c.args.rows.now.items (none_found (is_under g.K.PartialEq.eq c.args.key.now) c.args.rows.now.items (ap (position (is_under g.K.PartialEq.eq c.args.key.now)) (sym c.as_slice.ensures.value) ∙ sym c.place_in.ensures ∙ c.in-None.is)))

pub returns-in-Some : goal.returns-in-Some
returns-in-Some g c =
    changed_here (is_under g.K.PartialEq.eq c.args.key.now) (with_value c.args.value) c.args.rows.now.items c.in-Some.place c.index_mut.result.now (ap (position (is_under g.K.PartialEq.eq c.args.key.now)) (sym c.as_slice.ensures.value) ∙ sym c.place_in.ensures ∙ c.in-Some.is) c.index_mut.ensures.value
