use Rattle.std.proofs.Common.{rules, arith, ◌≤◌, ◌+◌}
use Rattle.kernel_threads.proofs.RunLaws.{ran_on, ran_acts}
use Rattle.kernel_threads.proofs.rounds.round.Goals as goal

pub loop-before-preserved : goal.loop-before-preserved
loop-before-preserved g c =
    let low : 1 ≤ c.loop-before.before + 1 = omega arith in
    let high : c.loop-before.before + 1 ≤ c.args.kernels = search rules in
    ran_on g.V.Book.origin g.V.Book.log g.V.Book.holds c.args.kernels c.args.value.now c.loop-before.value c.turn.new.value c.loop-before.invariant
    (ran_acts g.V.Book.origin g.V.Book.log g.V.Book.holds c.args.kernels (c.loop-before.before + 1) c.loop-before.value c.turn.new.value low high c.turn.ensures)
