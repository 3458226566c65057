use Rattle.std.proofs.Common.{arith, ◌≡◌, IfOk, OnOk, subst}
use Rattle.sprite_cluster.specs.Steps.{EndedSo}
use Rattle.sprite_cluster.proofs.StepLaws.{stale_keeps, stale_out, taken_adds, taken_out}
use Rattle.sprite_cluster.proofs.stepped.ClusterStepped.end_burst.Goals as goal

pub returns-clause-taken : goal.returns-clause-taken
returns-clause-taken g c = λ is.
    (let took = subst (λ r. IfOk r (λ end. EndedSo g.L.Link.faults g.L.Link.asked c.args.self.now.description c.args.kernel c.args.burst end c.args.self.now.wire c.end_burst.new.self.wire c.args.self.now.state c.end_burst.new.self.state c.args.self.now.trace c.end_burst.new.self.trace)) is c.end_burst.ensures.ok in
    let unclosed = subst (λ r. OnOk r (c.end_burst.new.self.closed ≡ c.args.self.now.closed)) is c.end_burst.ensures.open in (
      taken_adds g.L.Link.faults g.L.Link.asked c.args.kernel c.args.burst c.args.self.now c.end_burst.new.self (omega arith, omega arith) took unclosed c.end_burst.ensures.description c.end_burst.ensures.begun c.requires.holds,
      taken_out g.L.Link.faults g.L.Link.asked c.args.self.now.description c.args.kernel c.args.burst c.args.self.now.wire c.end_burst.new.self.wire c.args.self.now.state c.end_burst.new.self.state c.args.self.now.trace c.end_burst.new.self.trace took,
    ))

pub returns-clause-stale : goal.returns-clause-stale
returns-clause-stale g c = λ is.
    (let lost = subst (λ r. IfOk r (λ end. EndedSo g.L.Link.faults g.L.Link.asked c.args.self.now.description c.args.kernel c.args.burst end c.args.self.now.wire c.end_burst.new.self.wire c.args.self.now.state c.end_burst.new.self.state c.args.self.now.trace c.end_burst.new.self.trace)) is c.end_burst.ensures.ok in
    let unclosed = subst (λ r. OnOk r (c.end_burst.new.self.closed ≡ c.args.self.now.closed)) is c.end_burst.ensures.open in
    let less = stale_out g.L.Link.faults g.L.Link.asked c.args.self.now.description c.args.kernel c.args.burst c.args.self.now.wire c.end_burst.new.self.wire c.args.self.now.state c.end_burst.new.self.state lost.ends in (
      stale_keeps g.L.Link.faults g.L.Link.asked c.args.kernel c.args.burst c.args.self.now c.end_burst.new.self (omega arith, omega arith) lost unclosed c.end_burst.ensures.description c.end_burst.ensures.begun c.requires.holds,
      less.0,
      less.1,
    ))
