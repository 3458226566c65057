use Rattle.std.proofs.Common.{true, length, sym, ◌∙◌, arith}
use Rattle.std.proofs.lemmas.Bool.{eqb-false, eqb-true}
use Rattle.unix_world.specs.Places.{IsOlder}
use Rattle.unix_world.proofs.PlaceLaws.{stream_last, last_of_none, older_trans, push_ordered_if}
use Rattle.unix_world.proofs.streams.ascend_with.Goals as goal

pub returns-then-is_empty : goal.returns-then-is_empty
returns-then-is_empty c =
    let none = eqb-true (length c.args.streams.now) 0 (sym c.is_empty.ensures ∙ c.if-is_empty.true) in
    λ t e h. push_ordered_if c.args.ascend true IsOlder c.args.streams.now t older_trans c.if-not-ascend.false h (last_of_none IsOlder c.args.streams.now t none)

pub returns : goal.returns
returns c =
    let end = eqb-false (length c.args.streams.now) 0 (sym c.is_empty.ensures ∙ c.if-is_empty.false) in
    λ t e h. push_ordered_if c.args.ascend _ IsOlder c.args.streams.now t older_trans c.if-not-ascend.false h (stream_last c.args.streams.now _ _ c.args.place t (omega (arith, end)) e)
