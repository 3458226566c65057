use Rattle.std.proofs.Common.{◌≡◌, ◌<◌, ℕ, suc, ◌+◌, ◌++◌, List, length, map, take, drop, set, get_or, ap, ◌∙◌, arith}
use Rattle.host_lending.specs.declared.host.Host.{Host}
use Rattle.host_lending.specs.Tables.{noted, busy}
use Rattle.host_lending.proofs.HostLaws.{noted_more}
use Rattle.host_lending.proofs.lending.note_all.Goals as goal

pub loop-at-preserved : goal.loop-at-preserved
loop-at-preserved c =
    let f : Host → Host = noted c.args.event.now c.args.answer.now in
    let more : suc c.loop-at.at ≡ c.loop-at.at + 1 = omega arith in
    let less : c.loop-at.at < length c.args.hosts.now.items = omega (arith, c.loop-at-test.true, c.len-at-end.ensures) in
    c.note_at.ensures (busy 0)
    ∙ (ap (λ (xs : List Host). set xs c.loop-at.at (f (get_or xs c.loop-at.at (busy 0)))) c.loop-at.invariant
    ∙ (noted_more f c.args.hosts.now.items c.loop-at.at (busy 0) less
    ∙ ap (λ (k : ℕ). map f (take k c.args.hosts.now.items) ++ drop k c.args.hosts.now.items) more))
