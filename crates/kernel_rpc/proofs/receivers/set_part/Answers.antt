use Rattle.std.proofs.Common.{sym, ap, ◌∙◌}
use Rattle.std.specs.List.{position}
use Rattle.kernel_rpc.specs.declared.call.Receiver.{Receiver}
use Rattle.kernel_rpc.specs.Machine.{is_at}
use Rattle.sprite_ids.proofs.OnceLaws.{get_is, none_found, changed_here, unchanged}
use Rattle.kernel_rpc.proofs.receivers.set_part.Goals as goal

pub returns-in-Some : goal.returns-in-Some
returns-in-Some c =
    let p = is_at c.args.kernel in
    let xs = c.args.receivers.now in
    let place = ap (position p) (sym c.as_slice.ensures) ∙ sym c.place_of.ensures ∙ c.in-Some.is in
    c.replace.ensures.list ∙ changed_here p (λ (r : Receiver). record r { part = c.args.part }) xs c.in-Some.at c.at-receiver.result.now place (get_is xs c.in-Some.at c.at-receiver.result.now c.at-receiver.ensures)

pub returns-in_default : goal.returns-in_default
returns-in_default c =
    let p = is_at c.args.kernel in
    let xs = c.args.receivers.now in
    let place = ap (position p) (sym c.as_slice.ensures) ∙ sym c.place_of.ensures ∙ c.in_default.is in
    sym (unchanged p (λ (r : Receiver). record r { part = c.args.part }) xs (none_found p xs place))
