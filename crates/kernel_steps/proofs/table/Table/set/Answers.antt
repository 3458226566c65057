use Rattle.std.proofs.Common.{sym, ◌∙◌}
use Rattle.std.specs.BTreeMap.{is_at}
use Rattle.kernel_steps.proofs.TableLaws.{absent_same}
use Rattle.kernel_steps.proofs.table.Table.set.Goals as goal

pub returns-in-None : goal.returns-in-None
returns-in-None g c =
    c.get_mut.follows.holds-at-none ∙ sym (absent_same (is_at (g.K.Ord.cmp c.args.key.now)) c.args.self.now c.args.value (sym c.in-None.ensures.value))
