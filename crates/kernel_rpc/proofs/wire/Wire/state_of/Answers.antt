use Rattle.std.proofs.Common.{◌≡◌, None, sym, ap, ◌∙◌}
use Rattle.kernel_rpc.specs.Machine.{call_of}
use Rattle.kernel_rpc.specs.States.{state_by}
use Rattle.kernel_rpc.specs.Table.{machine_of}
use Rattle.kernel_rpc.proofs.wire.Wire.state_of.Goals as goal

pub returns-in-None : goal.returns-in-None
returns-in-None g c =
    let machine = machine_of c.self.inside.table in
    let none : call_of machine c.args.tx ≡ None = ap (λ wired. call_of wired.machine c.args.tx) c.self.view_is ∙ sym c.in-None.ensures in
    rw (← c.self.view_is) (c.state_past.ensures ∙ ap (state_by machine c.args.tx) (sym none))
