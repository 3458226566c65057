use Rattle.std.proofs.Common.{◌≡◌, OnOk, subst}
use Rattle.client_data.specs.Filling.{fills_next}
use Rattle.client_data.proofs.filling.fill_own.Goals as goal

pub returns : goal.returns
returns c =
    subst (λ s. OnOk c.fill_next.result (c.fill_next.new.files ≡ fills_next c.args.pid c.args.call c.args.extent.now s)) c.in_ok-fill_zeros.ensures c.fill_next.ensures
