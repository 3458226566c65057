use Rattle.std.proofs.Common.{sym, ap, subst, ◌∙◌}
use Rattle.std.specs.List.{position}
use Rattle.kernel_rpc.specs.Machine.{is_copy}
use Rattle.kernel_rpc.specs.Table.{Rise}
use Rattle.sprite_ids.proofs.OnceLaws.{none_found, less_here, not_less}
use Rattle.kernel_rpc.proofs.copies.land.Goals as goal

pub place_of-requires : goal.place_of-requires
place_of-requires c = subst Rise (sym c.as_slice.ensures.value) c.requires

pub returns-in-Some-clause-items : goal.returns-in-Some-clause-items
returns-in-Some-clause-items c =
    let p = is_copy c.args.number in
    let xs = c.args.copies.now.items in
    let place = ap (position p) (sym c.as_slice.ensures.value) ∙ sym c.place_of.ensures ∙ c.in-Some.is in
    c.remove.ensures.items ∙ less_here p xs c.in-Some.at c.remove.result place

pub returns-in_default-clause-items : goal.returns-in_default-clause-items
returns-in_default-clause-items c =
    let p = is_copy c.args.number in
    let xs = c.args.copies.now.items in
    let place = ap (position p) (sym c.as_slice.ensures.value) ∙ sym c.place_of.ensures ∙ c.in_default.is in
    sym (not_less p xs (none_found p xs place))
