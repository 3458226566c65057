use Rattle.std.proofs.Common.{IsSome, sym, ap, subst, ◌∙◌}
use Rattle.std.specs.List.{position}
use Rattle.sprite_ids.proofs.OnceLaws.{none_found, nothing_found}
use Rattle.kernel_rpc.specs.Machine.{is_call}
use Rattle.kernel_rpc.specs.Table.{Ascend}
use Rattle.kernel_rpc.proofs.CountLaws.{ascend}
use Rattle.kernel_rpc.proofs.table.place.Goals as goal

pub place_of-requires : goal.place_of-requires
place_of-requires c = subst Ascend (sym c.as_slice.ensures.value) (ascend 0 c.args.table.now.begun c.args.table.now.unfinished.items c.requires.stands.numbered)

pub unreachable-requires : goal.unreachable-requires
unreachable-requires c =
    let calls = c.args.table.now.unfinished.items in
    let p = is_call c.args.tx in
    let none = nothing_found p calls (none_found p calls (ap (position p) (sym c.as_slice.ensures.value) ∙ sym c.place_of.ensures ∙ c.in-None.is)) in
    let there = subst (λ o. IsSome o) none c.requires.there in
    cc
