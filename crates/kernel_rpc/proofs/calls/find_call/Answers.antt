use Rattle.std.proofs.Common.{Some, sym, ap, ◌∙◌}
use Rattle.kernel_rpc.specs.Machine.{is_call}
use Rattle.sprite_ids.proofs.OnceLaws.{found_there, none_found, nothing_found}
use Rattle.kernel_rpc.proofs.calls.find_call.Goals as goal

pub returns-in-Some : goal.returns-in-Some
returns-in-Some c =
    let place = sym c.place_of.ensures ∙ c.in-Some.is in
    sym (found_there (is_call c.args.tx) c.args.calls.now c.in-Some.at c.index-calls-at.result place ∙ ap Some (sym c.index-calls-at.is))

pub returns-in-None : goal.returns-in-None
returns-in-None c =
    let place = sym c.place_of.ensures ∙ c.in-None.is in
    sym (nothing_found (is_call c.args.tx) c.args.calls.now (none_found (is_call c.args.tx) c.args.calls.now place))
