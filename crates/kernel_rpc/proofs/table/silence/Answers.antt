use Rattle.std.proofs.Common.{List, refl, sym, ap, ◌∙◌}
use Rattle.sprite_ids.proofs.OnceLaws.{changed_here}
use Rattle.kernel_rpc.specs.declared.call.Part.TheVariants.{Silent}
use Rattle.kernel_rpc.specs.declared.call.Call.{Call}
use Rattle.kernel_rpc.specs.Machine.{further, is_call}
use Rattle.kernel_rpc.specs.Table.{machine_of}
use Rattle.kernel_rpc.proofs.CountLaws.{counted_set}
use Rattle.kernel_rpc.proofs.table.silence.Goals as goal

pub returns-clause-machine : goal.returns-clause-machine
returns-clause-machine c =
    let machine = machine_of c.args.table.now in
    let there = changed_here (is_call c.args.tx) (further c.args.kernel Silent) machine.unfinished c.place-at.result c.index_mut-call.result.now c.place-at.ensures c.index_mut-call.ensures.value in
    rw c.set_part.ensures (ap (λ (calls : List Call). record machine { unfinished = calls }) there)

pub returns-clause-counted : goal.returns-clause-counted
returns-clause-counted c =
    let machine = machine_of c.args.table.now in
    c.requires.stands.counted ∙ sym (counted_set machine.copies machine.unfinished c.place-at.result c.index_mut-call.result.now _ c.index_mut-call.ensures.value refl)
