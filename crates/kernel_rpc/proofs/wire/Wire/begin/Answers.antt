use Rattle.std.proofs.Common.{◌≡◌, ℕ, ◌+◌, false, List, [], ◌∷◌, map, ◌||◌, None, refl, sym, ap, subst, ◌∙◌}
use Rattle.link_plan.specs.declared.Fate.{Fate}
use Rattle.link_plan.specs.Counts.{Asks}
use Rattle.kernel_rpc.specs.declared.call.Call.{Call}
use Rattle.kernel_rpc.specs.declared.call.Receiver.{Receiver}
use Rattle.kernel_rpc.specs.Machine.{begun, fresh, new_call}
use Rattle.kernel_rpc.specs.Bodies.{Reads}
use Rattle.kernel_rpc.specs.Sound.{Sound}
use Rattle.kernel_rpc.specs.Table.{machine_of}
use Rattle.kernel_rpc.proofs.BeginLaws.{only_packet, asked_once}
use Rattle.kernel_rpc.proofs.PartLaws.{eq_same}
use Rattle.kernel_rpc.proofs.SoundLaws.{begin_sound}
use Rattle.kernel_rpc.proofs.OrderLaws.{Rises, rises_begun}
use Rattle.kernel_rpc.proofs.wire.Wire.begin.Goals as goal

pub invariant_of-self-2 : goal.invariant_of-self-2
invariant_of-self-2 g c =
    let machine = machine_of c.self.inside.table in
    let sent = c.in_ok-sent.sent.items in
    let kernel : Receiver → ℕ = λ receiver. receiver.kernel in
    let servers : List ℕ = c.args.to ∷ [] in
    let made : List Receiver → List ℕ → ℕ → Call = λ receivers body count. record { tx = record { 0 = machine.begun + 1 }; from = c.args.from; port = c.args.port; owner = c.args.to; tries = c.args.tries; lost = 0; before = count; about = c.args.about; receivers = receivers; body = body; reply = None } in
    let call = new_call machine c.args.from c.args.port servers c.args.to (g.M.Message.spelling c.args.body) c.args.tries c.args.about (g.L.Link.faults c.self.inside.link c.args.from c.args.to) in
    let same : made c.in_ok-receivers.receivers c.in_ok-body.body c.faults-before.result ≡ call = ap (λ receivers. made receivers c.in_ok-body.body c.faults-before.result) c.in_ok-receivers.ensures ∙ ap (λ body. made (map fresh servers) body c.faults-before.result) c.in_ok-body.ensures.bytes ∙ ap (made (map fresh servers) (g.M.Message.spelling c.args.body)) c.faults-before.ensures in
    let there : machine_of c.begin.new.table ≡ begun call sent machine = c.in_ok-sent.ensures.ok ∙ ap (λ call. begun call sent machine) same in
    let kernels : map (λ (packet : ℕ × Fate). packet.0) sent ≡ map kernel (map fresh servers) = c.in_ok-sent.ensures.receivers ∙ ap (map kernel) c.in_ok-receivers.ensures in
    let readable : Reads g.M.Message.reading (g.M.Message.spelling c.args.body) = (c.args.body, g.met.M.Message.again c.args.body c.in_ok-body.ensures.known) in
    record { sound = subst (Sound (Reads g.M.Message.reading) (g.L.Link.faults c.begin.new.link)) (sym there) (begin_sound (Reads g.M.Message.reading) g.L.Link.faults g.L.Link.asked c.self.inside.link c.begin.new.link machine c.args.from c.args.port servers c.args.to (g.M.Message.spelling c.args.body) c.args.tries c.args.about (g.L.Link.faults c.self.inside.link c.args.from c.args.to) sent readable refl (ap (λ b. b || false) (eq_same c.args.to)) kernels c.in_ok-sent.ensures.link c.self.invariant.sound); counted = c.in_ok-sent.ensures.counted; rising = subst Rises (sym there) (rises_begun call sent machine c.self.invariant.rising) }

pub returns-clause-link : goal.returns-clause-link
returns-clause-link g c =
    let machine = machine_of c.self.inside.table in
    let sent = c.in_ok-sent.sent.items in
    let kernel : Receiver → ℕ = λ receiver. receiver.kernel in
    let servers : List ℕ = c.args.to ∷ [] in
    let made : List Receiver → List ℕ → ℕ → Call = λ receivers body count. record { tx = record { 0 = machine.begun + 1 }; from = c.args.from; port = c.args.port; owner = c.args.to; tries = c.args.tries; lost = 0; before = count; about = c.args.about; receivers = receivers; body = body; reply = None } in
    let call = new_call machine c.args.from c.args.port servers c.args.to (g.M.Message.spelling c.args.body) c.args.tries c.args.about (g.L.Link.faults c.self.inside.link c.args.from c.args.to) in
    let same : made c.in_ok-receivers.receivers c.in_ok-body.body c.faults-before.result ≡ call = ap (λ receivers. made receivers c.in_ok-body.body c.faults-before.result) c.in_ok-receivers.ensures ∙ ap (λ body. made (map fresh servers) body c.faults-before.result) c.in_ok-body.ensures.bytes ∙ ap (made (map fresh servers) (g.M.Message.spelling c.args.body)) c.faults-before.ensures in
    let there : machine_of c.begin.new.table ≡ begun call sent machine = c.in_ok-sent.ensures.ok ∙ ap (λ call. begun call sent machine) same in
    let kernels : map (λ (packet : ℕ × Fate). packet.0) sent ≡ map kernel (map fresh servers) = c.in_ok-sent.ensures.receivers ∙ ap (map kernel) c.in_ok-receivers.ensures in
    let only = only_packet sent c.args.to c.only_fate.result kernels (ap (map (λ (packet : ℕ × Fate). packet.1)) (sym c.as_slice.ensures.value) ∙ c.only_fate.ensures) in
    rw (← c.self.view_is) (asked_once g.L.Link.faults g.L.Link.asked c.args.from c.self.inside.link c.begin.new.link c.args.to c.only_fate.result (subst (Asks g.L.Link.faults g.L.Link.asked c.args.from c.self.inside.link c.begin.new.link) only c.in_ok-sent.ensures.link))

pub returns-clause-machine : goal.returns-clause-machine
returns-clause-machine g c =
    let machine = machine_of c.self.inside.table in
    let sent = c.in_ok-sent.sent.items in
    let kernel : Receiver → ℕ = λ receiver. receiver.kernel in
    let servers : List ℕ = c.args.to ∷ [] in
    let made : List Receiver → List ℕ → ℕ → Call = λ receivers body count. record { tx = record { 0 = machine.begun + 1 }; from = c.args.from; port = c.args.port; owner = c.args.to; tries = c.args.tries; lost = 0; before = count; about = c.args.about; receivers = receivers; body = body; reply = None } in
    let call = new_call machine c.args.from c.args.port servers c.args.to (g.M.Message.spelling c.args.body) c.args.tries c.args.about (g.L.Link.faults c.self.inside.link c.args.from c.args.to) in
    let same : made c.in_ok-receivers.receivers c.in_ok-body.body c.faults-before.result ≡ call = ap (λ receivers. made receivers c.in_ok-body.body c.faults-before.result) c.in_ok-receivers.ensures ∙ ap (λ body. made (map fresh servers) body c.faults-before.result) c.in_ok-body.ensures.bytes ∙ ap (made (map fresh servers) (g.M.Message.spelling c.args.body)) c.faults-before.ensures in
    let there : machine_of c.begin.new.table ≡ begun call sent machine = c.in_ok-sent.ensures.ok ∙ ap (λ call. begun call sent machine) same in
    let kernels : map (λ (packet : ℕ × Fate). packet.0) sent ≡ map kernel (map fresh servers) = c.in_ok-sent.ensures.receivers ∙ ap (map kernel) c.in_ok-receivers.ensures in
    let only = only_packet sent c.args.to c.only_fate.result kernels (ap (map (λ (packet : ℕ × Fate). packet.1)) (sym c.as_slice.ensures.value) ∙ c.only_fate.ensures) in
    rw (← c.self.view_is) (there ∙ ap (λ sent. begun call sent machine) only)
