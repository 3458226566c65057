use Rattle.std.proofs.Common.{ap, ◌∙◌}
use Rattle.std.specs.List.{remove}
use Rattle.sprite_ids.proofs.OnceLaws.{less_here}
use Rattle.kernel_rpc.specs.Machine.{Machine, is_call, landed}
use Rattle.kernel_rpc.specs.Table.{machine_of}
use Rattle.kernel_rpc.proofs.CountLaws.{some_call}
use Rattle.kernel_rpc.proofs.table.take_reply.Goals as goal

pub returns-clause-machine : goal.returns-clause-machine
returns-clause-machine c =
    let machine = machine_of c.args.table.now in
    let copy = c.args.copy.now in
    c.finish.ensures.machine ∙ ap (λ (m : Machine). record m { unfinished = remove m.unfinished c.args.at }) c.arrive.ensures.machine ∙ ap (λ calls. record (landed copy machine) { unfinished = calls }) (less_here (is_call copy.tx) machine.unfinished c.args.at some_call c.requires.place)
