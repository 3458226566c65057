use Rattle.std.proofs.Common.{◌≡◌, List, Some, refl, sym, ap, ◌∙◌}
use Rattle.std.specs.List.{position}
use Rattle.sprite_ids.specs.Lists.{changed}
use Rattle.sprite_ids.proofs.OnceLaws.{changed_here}
use Rattle.kernel_rpc.specs.declared.call.Part.TheVariants.{Holding}
use Rattle.kernel_rpc.specs.declared.call.Call.{Call}
use Rattle.kernel_rpc.specs.Machine.{Machine, further, is_call}
use Rattle.kernel_rpc.specs.Table.{machine_of}
use Rattle.kernel_rpc.proofs.CountLaws.{counted_set}
use Rattle.kernel_rpc.proofs.table.take_request.Goals as goal

pub returns-clause-machine : goal.returns-clause-machine
returns-clause-machine c =
    let copy = c.args.copy.now in
    let p = is_call copy.tx in
    let f = further copy.to Holding in
    let mid = machine_of c.arrive.new.table in
    let place : position p mid.unfinished ≡ Some c.args.at = ap (λ (m : Machine). position p m.unfinished) c.arrive.ensures.machine ∙ c.requires.place in
    let there = changed_here p f mid.unfinished c.args.at c.index_mut-call.result.now place c.index_mut-call.ensures.value in
    rw c.set_part.ensures (ap (λ (calls : List Call). record mid { unfinished = calls }) there ∙ ap (λ (m : Machine). record m { unfinished = changed p f m.unfinished }) c.arrive.ensures.machine)

pub returns-clause-counted : goal.returns-clause-counted
returns-clause-counted c =
    let mid = machine_of c.arrive.new.table in
    c.arrive.ensures.stands.counted ∙ sym (counted_set mid.copies mid.unfinished c.args.at c.index_mut-call.result.now _ c.index_mut-call.ensures.value refl)
