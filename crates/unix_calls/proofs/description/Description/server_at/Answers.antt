use Rattle.std.proofs.Common.{◌≤◌, length, ◌∙◌, arith}
use Rattle.unix_calls.proofs.DomainLaws.{server_is}
use Rattle.unix_calls.proofs.description.Description.server_at.Goals as goal

pub returns-clause-server : goal.returns-clause-server
returns-clause-server c =
    let within = rw c.as_slice.ensures at c.line_of.ensures.within in
    let number = rw c.as_slice.ensures at c.line_of.ensures.number in
    λ (few : length c.args.self.now.kernels ≤ 16). server_is _ _ _ c.requires.there (c.kernel_at.ensures (omega (arith, within, few)) ∙ number)
