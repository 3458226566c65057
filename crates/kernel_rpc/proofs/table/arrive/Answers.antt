use Rattle.std.proofs.Common.{◌≡◌, ◌-◌, get_or, slice_set, sym, ap, subst, ◌∙◌}
use Rattle.std.specs.List.{AllByRecursion}
use Rattle.kernel_rpc.specs.Histories.{AreNumbersRising}
use Rattle.kernel_rpc.specs.Machine.{is_copy}
use Rattle.kernel_rpc.specs.Sound.{HasBegun}
use Rattle.kernel_rpc.specs.Table.{counts_of}
use Rattle.kernel_rpc.proofs.CopyLaws.{each_without}
use Rattle.kernel_rpc.proofs.CountLaws.{counted_landed}
use Rattle.kernel_rpc.proofs.OrderLaws.{rising_less}
use Rattle.kernel_rpc.proofs.RiseLaws.{rise}
use Rattle.kernel_rpc.proofs.table.arrive.Goals as goal

pub land-requires : goal.land-requires
land-requires c = rise 1 c.args.table.now.next_copy c.args.table.now.copies.items c.requires.stands.rising

pub returns-clause-stands : goal.returns-clause-stands
returns-clause-stands c =
    let table = c.args.table.now in
    let copy = c.args.copy.now in
    let stands = c.requires.stands in
    let n = c.index-flying.result.now in
    let is : n ≡ get_or (counts_of table.copies.items table.unfinished.items) c.args.at n = subst (λ ns. n ≡ get_or ns c.args.at n) stands.counted c.index-flying.ensures in
    record {
      numbered = stands.numbered;
      begun = subst (AllByRecursion (HasBegun table.begun)) (sym c.land.ensures.items) (each_without (HasBegun table.begun) (is_copy copy.number) table.copies.items stands.begun);
      counted = ap (slice_set table.flying.items c.args.at) c.saturating_sub.ensures ∙ ap (λ ns. slice_set ns c.args.at (n - 1)) stands.counted ∙ sym (counted_landed table.begun table.unfinished.items table.copies.items copy c.args.at n stands.numbered c.requires.place c.requires.flying is) ∙ ap (λ copies. counts_of copies table.unfinished.items) (sym c.land.ensures.items);
      rising = subst (λ copies. AreNumbersRising 1 copies table.next_copy) (sym c.land.ensures.items) (rising_less (is_copy copy.number) 1 table.next_copy table.copies.items stands.rising);
    }
