use Rattle.std.proofs.Common.{arith, ◌≡◌, ◌≤◌, ◌<◌, ◌-◌, ◌^◌, true, length, slice_index, ap, sym, subst, ◌∙◌}
use Rattle.link_plan.specs.Counts.{is_fault}
use Rattle.link_plan.specs.PlanCounts.{pair, raised_at, next_fate}
use Rattle.link_plan.proofs.CountLaws.{faulted, fault_has_room}
use Rattle.link_plan.proofs.plan_link.PlanLinkLink.fate.Goals as goal

pub returns-then-is_fault-clause-asked : goal.returns-then-is_fault-clause-asked
returns-then-is_fault-clause-asked c =
    let low_from : 1 ≤ c.args.from = omega arith in
    let high_from : c.args.from ≤ 16 = omega arith in
    let low_to : 1 ≤ c.args.to = omega arith in
    let high_to : c.args.to ≤ 16 = omega arith in
    let at : pair c.args.from c.args.to < 256 = subst (λ n. n < 256) c.pair.ensures.value c.pair.ensures.range in
    let fault : is_fault (next_fate c.args.self.now c.args.from c.args.to) ≡ true = ap is_fault (sym c.next_fate-fate.ensures) ∙ sym c.is_fault.ensures ∙ c.if-is_fault.true in
    let room : slice_index c.self.inside.faults (pair c.args.from c.args.to) < 2 ^ 64 - 1 = rw (← c.self.view_is) at (fault_has_room c.args.self.now c.args.from c.args.to fault) in
    let faults_new : c.raise-then-is_fault.new.counts ≡ raised_at c.self.inside.faults (pair c.args.from c.args.to) = c.raise-then-is_fault.ensures ∙ ap (raised_at c.self.inside.faults) c.pair-then-is_fault.ensures.value in
    let asked_new : c.raise-2.new.counts ≡ raised_at c.self.inside.asked (pair c.args.from c.args.to) = c.raise-2.ensures ∙ ap (raised_at c.self.inside.asked) c.pair.ensures.value in
    let lf : pair c.args.from c.args.to < length c.self.inside.faults = omega arith in
    let la : pair c.args.from c.args.to < length c.self.inside.asked = omega arith in
    rw (← c.self.view_is, faults_new, asked_new) (faulted c.self.inside.faults c.self.inside.asked c.args.from c.args.to c.next_fate-fate.result (low_from, high_from) (low_to, high_to) lf la room)
