use Rattle.std.proofs.Common.{◌≡◌, ◌++◌, sym, subst, ap, ap₂, ◌∙◌}
use Rattle.call_journal.specs.Journal.{records_by}
use Rattle.call_journal.specs.Counts.{AreTold, tally_after}
use Rattle.call_journal.proofs.TraceLaws.{told_all}
use Rattle.call_journal.proofs.trace.Trace.append.Goals as goal

pub invariant_of-self-2 : goal.invariant_of-self-2
invariant_of-self-2 c =
    let events : c.into_vec-told.result.items ≡ c.args.told = c.into_vec-told.ensures in
    let records : c.put_all.new.records.items ≡ c.self.inside.records.items ++ records_by c.args.kernel c.args.told = c.put_all.ensures ∙ ap₂ (λ xs ys. xs ++ records_by c.args.kernel ys) c.in_ok-reserve.ensures.items events in
    subst (λ trace. AreTold trace c.in-Some.tally) (sym records)
    (told_all c.self.inside.records.items c.args.kernel c.args.told c.self.inside.tally c.in-Some.tally c.self.invariant (c.in-Some.ensures ∙ ap (tally_after c.self.inside.tally) c.as_slice.ensures))
