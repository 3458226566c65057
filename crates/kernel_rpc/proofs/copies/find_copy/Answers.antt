use Rattle.std.proofs.Common.{sym, ap, ◌∙◌, Some}
use Rattle.kernel_rpc.specs.Machine.{is_copy}
use Rattle.sprite_ids.proofs.OnceLaws.{none_found, found_there, nothing_found}
use Rattle.kernel_rpc.proofs.copies.find_copy.Goals as goal

pub returns-in-Some : goal.returns-in-Some
returns-in-Some c =
    let p = is_copy c.args.number in
    let xs = c.args.copies.now in
    let place = sym c.place_of.ensures ∙ c.in-Some.is in
    sym (found_there p xs c.in-Some.at c.index-copies-at.result place ∙ ap Some (sym c.index-copies-at.is))

pub returns-in-None : goal.returns-in-None
returns-in-None c =
    let p = is_copy c.args.number in
    let xs = c.args.copies.now in
    let place = sym c.place_of.ensures ∙ c.in-None.is in
    sym (nothing_found p xs (none_found p xs place))
