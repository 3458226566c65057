use Rattle.std.proofs.Common.{◌∷◌, [], ap, refl, sym, ◌∙◌}
use Rattle.cluster_wire.specs.Goings.{call_to, other_than}
use Rattle.cluster_wire.proofs.CallLaws.{call_begins, on_ok}
use Rattle.cluster_wire.proofs.calls.call.Goals as goal

pub returns-clause-begun : goal.returns-clause-begun
returns-clause-begun g c =
    on_ok c.push.result (λ grown. call_begins g.L.Link.faults g.L.Link.asked c.args.kernel c.args.port c.in-Some.to c.args.tx c.in_ok-tx.tx
    (record { servers = c.in-Some.to ∷ []; to = c.in-Some.to; owner = c.in-Some.to; tries = c.args.sending.tries; body = c.args.sending.body })
    (call_to (other_than c.args.kernel c.args.sending.to) c.args.sending) c.about-about.result c.in_ok-tx.fate c.args.wire.now c.begin.new.self c.args.sent.now c.push.new.self
    (ap (λ to. call_to to c.args.sending) (ap (other_than c.args.kernel) (sym c.as_slice.ensures) ∙ sym c.in-Some.ensures.is)) refl refl c.about-about.ensures
    c.requires.number c.in-Some.ensures.apart c.requires.free c.requires.least c.in_ok-tx.ensures.link c.in_ok-tx.ensures.machine c.in_ok-tx.ensures.known c.in_ok-tx.ensures.tx grown) c.push.ensures.ok
