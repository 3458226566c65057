use Rattle.std.proofs.Common.{◌≡◌, None, Some, sym, ap, ◌∙◌}
use Rattle.std.specs.List.{position}
use Rattle.sprite_ids.proofs.OnceLaws.{found_there, none_found, nothing_found}
use Rattle.kernel_rpc.specs.Machine.{call_of, is_call, may_fire}
use Rattle.kernel_rpc.specs.Table.{machine_of}
use Rattle.kernel_rpc.proofs.wire.Wire.may_expire.Goals as goal

pub returns-in-Some : goal.returns-in-Some
returns-in-Some g c =
    let machine = machine_of c.self.inside.table in
    let p = is_call c.args.tx in
    let call = c.index.result.now in
    let place : position p machine.unfinished ≡ Some c.in-Some.at = ap (λ wired. position p wired.machine.unfinished) c.self.view_is ∙ sym c.place.ensures ∙ c.in-Some.is in
    let found : call_of machine c.args.tx ≡ Some call = found_there p machine.unfinished c.in-Some.at call place ∙ ap Some (sym c.index.ensures) in
    rw (← c.self.view_is) (c.is_due.ensures ∙ sym (ap (may_fire machine.copies) found))

pub returns-in-None : goal.returns-in-None
returns-in-None g c =
    let machine = machine_of c.self.inside.table in
    let p = is_call c.args.tx in
    let place : position p machine.unfinished ≡ None = ap (λ wired. position p wired.machine.unfinished) c.self.view_is ∙ sym c.place.ensures ∙ c.in-None.is in
    rw (← c.self.view_is) (sym (ap (may_fire machine.copies) (nothing_found p machine.unfinished (none_found p machine.unfinished place))))
