use Rattle.std.proofs.Common.{Bool, true, length, sym, subst, ◌∙◌, arith}
use Rattle.std.proofs.lemmas.Bool.{eqb-false, eqb-true}
use Rattle.unix_world.specs.Places.{IsLast, Precedes}
use Rattle.unix_world.proofs.PlaceLaws.{file_last, last_of_none, precedes_trans, push_ordered_if}
use Rattle.unix_world.proofs.files.ascend_with.Goals as goal

pub returns-then-is_empty : goal.returns-then-is_empty
returns-then-is_empty c =
    let none = eqb-true (length c.args.files.now) 0 (sym c.is_empty.ensures ∙ c.if-is_empty.true) in
    λ t e h. push_ordered_if c.args.ascend true Precedes c.args.files.now t precedes_trans c.if-not-ascend.false h (last_of_none Precedes c.args.files.now t none)

pub returns : goal.returns
returns c =
    let end = eqb-false (length c.args.files.now) 0 (sym c.is_empty.ensures ∙ c.if-is_empty.false) in
    λ t e h. push_ordered_if c.args.ascend _ Precedes c.args.files.now t precedes_trans c.if-not-ascend.false h (subst (λ (b : Bool). IsLast b Precedes c.args.files.now t) (sym c.is_before.ensures) (file_last c.args.files.now _ _ c.args.name t (omega (arith, end)) e))
