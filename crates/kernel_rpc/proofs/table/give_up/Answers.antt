use Rattle.std.proofs.Common.{ap, ◌∙◌}
use Rattle.sprite_ids.specs.Lists.{less}
use Rattle.sprite_ids.proofs.OnceLaws.{less_here}
use Rattle.kernel_rpc.specs.Machine.{is_call}
use Rattle.kernel_rpc.specs.Table.{machine_of}
use Rattle.kernel_rpc.proofs.CountLaws.{some_call}
use Rattle.kernel_rpc.proofs.table.give_up.Goals as goal

pub returns-clause-ok : goal.returns-clause-ok
returns-clause-ok c =
    let machine = machine_of c.args.table.now in
    c.finish.ensures.machine ∙ ap (λ calls. record machine { unfinished = calls; given_up = c.extend_from_slice.new.self.items }) (less_here (is_call c.args.tx) machine.unfinished c.place-at.result some_call c.place-at.ensures) ∙ ap (λ given. record machine { unfinished = less (is_call c.args.tx) machine.unfinished; given_up = given }) c.in_ok-extend_from_slice.ensures.items
