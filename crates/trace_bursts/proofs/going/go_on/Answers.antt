use Rattle.std.proofs.Common.{◌≡◌, ◌≤◌, ℕ, ◌+◌, ◌-◌, Some, sym, subst, arith}
use Rattle.process_machine.specs.Runs.{ahead, EndsBy}
use Rattle.process_machine.proofs.MachineLaws.{ahead_sum}
use Rattle.call_journal.specs.WorthBursts.{distance_within}
use Rattle.trace_bursts.specs.GoingLaws.{comes_past, comes_to_call, comes_to_page, ends_there}
use Rattle.trace_bursts.proofs.going.go_on.Goals as goal

pub returns-then-rest-eq0 : goal.returns-then-rest-eq0
returns-then-rest-eq0 c =
    let p = c.args.program.now in
    let new = c.burst-done.new.image in
    let gone = c.args.count - c.loop-due.due in
    let limit = c.limit_of-limit.result in
    let why = subst (EndsBy p new c.burst-done.result.0 limit) c.in-Limit.is c.burst-done.ensures.why in
    let none : c.loop-due.rest ≡ 0 = c.if-rest-eq0.true in
    let one : c.burst-done.result.0 ≡ 1 = omega (arith, why, none, c.limit_of-limit.ensures.some, c.limit_of-limit.ensures.left) in
    comes_past p c.args.image.now c.loop-due.image new c.args.left gone c.loop-due.invariant.0 (omega (arith, none, c.loop-due.invariant.2)) (subst (λ (n : ℕ). ahead p c.loop-due.image n ≡ Some new) one c.burst-done.ensures.moved)

pub loop-due-preserved : goal.loop-due-preserved
loop-due-preserved c =
    let p = c.args.program.now in
    let new = c.burst-done.new.image in
    let gone = c.args.count - c.loop-due.due in
    let limit = c.limit_of-limit.result in
    let why = subst (EndsBy p new c.burst-done.result.0 limit) c.in-Limit.is c.burst-done.ensures.why in
    let some : 1 ≤ c.loop-due.rest = omega (arith, c.if-rest-eq0.false) in
    let few : limit ≤ c.loop-due.rest = c.limit_of-limit.ensures.within some in
    let asked : limit ≤ c.loop-due.due = c.limit_of-limit.ensures.asked in
    let within : c.loop-due.due ≤ c.args.count = c.loop-due.invariant.1 in
    let run = ahead_sum p c.args.image.now c.loop-due.image new gone c.burst-done.result.0 c.loop-due.invariant.0 c.burst-done.ensures.moved in
    let there : gone + c.burst-done.result.0 ≡ c.args.count - (c.loop-due.due - c.from-due.result) = omega (arith, why, asked, within, c.from-due.ensures) in
    (subst (λ (n : ℕ). ahead p c.args.image.now n ≡ Some new) there run, omega (arith, within), omega (arith, few, asked, within, c.from-due.ensures, c.from-rest.ensures, c.loop-due.invariant.2))

pub returns-in-Call : goal.returns-in-Call
returns-in-Call c =
    let p = c.args.program.now in
    let new = c.burst-done.new.image in
    let gone = c.args.count - c.loop-due.due in
    let limit = c.limit_of-limit.result in
    let done = c.burst-done.result.0 in
    let why = ends_there p new done limit c.burst-done.result.1 c.in-Call.is c.burst-done.ensures.why in
    let few : done ≤ c.loop-due.rest = omega (arith, why.1, c.limit_of-limit.ensures.left) in
    let came = comes_to_call p c.args.image.now c.loop-due.image new c.args.left c.loop-due.rest gone done c.loop-due.invariant.0 c.loop-due.invariant.2 c.burst-done.ensures.moved few why.0 in
    let run = ahead_sum p c.args.image.now c.loop-due.image new gone done c.loop-due.invariant.0 c.burst-done.ensures.moved in (
      subst (λ (n : ℕ). distance_within p c.args.left c.args.image.now ≡ Some (gone + n)) (sym c.from.ensures) came,
      omega (arith, why.1, c.from.ensures, c.limit_of-limit.ensures.asked, c.loop-due.invariant.1),
      subst (λ (n : ℕ). ahead p c.args.image.now (gone + n) ≡ Some new) (sym c.from.ensures) run,
    )

pub returns-in-PageNeeded : goal.returns-in-PageNeeded
returns-in-PageNeeded c =
    let p = c.args.program.now in
    let new = c.burst-done.new.image in
    let gone = c.args.count - c.loop-due.due in
    let limit = c.limit_of-limit.result in
    let done = c.burst-done.result.0 in
    let why = subst (EndsBy p new done limit) c.in-PageNeeded.is c.burst-done.ensures.why in
    let few : done ≤ c.loop-due.rest = omega (arith, why.1, c.limit_of-limit.ensures.left) in
    comes_to_page p c.args.image.now c.loop-due.image new c.args.left c.loop-due.rest gone done c.in-PageNeeded.field-0 c.loop-due.invariant.0 c.loop-due.invariant.2 c.burst-done.ensures.moved few why.0
