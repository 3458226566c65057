use Rattle.std.proofs.Common.{◌≡◌, not, true, refl, subst, sym}
use Rattle.std.specs.List.{list_any}
use Rattle.kernel_rpc.proofs.PortLaws.{one_is_free}
use Rattle.kernel_rpc.proofs.ports.least_port.Goals as goal

pub first_free-requires-clause-some : goal.first_free-requires-clause-some
first_free-requires-clause-some c =
    let used = c.in_ok-used.used.items in
    subst (λ marks. list_any not marks ≡ true) (sym c.as_slice.ensures.value) (one_is_free used c.args.kernel c.args.calls.now c.in_ok-used.ensures.len c.in_ok-used.ensures.marked (list_any not used) refl)
