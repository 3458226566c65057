use Rattle.std.proofs.Common.{◌≡◌, ◌≤◌, ◌+◌, ◌-◌, ◌∷◌, suc, drop, sym, ap, subst, ◌∙◌, arith, add-one, drop-cons}
use Rattle.unix_calls.specs.declared.entry.Entry.{Entry}
use Rattle.unix_calls.specs.After.{after}
use Rattle.unix_world.specs.Worlds.{unix_of}
use Rattle.unix_world.proofs.BootLaws.{lawful_boots}
use Rattle.one_kernel.specs.declared.applying.Applied.{Applied}
use Rattle.one_kernel.specs.Applied.{Applies}
use Rattle.one_kernel.specs.Verdicts.{verdict_from, way_of}
use Rattle.one_kernel.proofs.CheckLaws.{check_not_made}
use Rattle.one_kernel.proofs.replaying.replay.Goals as goal

pub boot-requires-clause-starts : goal.boot-requires-clause-starts
boot-requires-clause-starts c = (lawful_boots c.args.c.now c.requires.lawful).0

pub boot-requires-clause-files : goal.boot-requires-clause-files
boot-requires-clause-files c = (lawful_boots c.args.c.now c.requires.lawful).1

pub returns-in-NotMade : goal.returns-in-NotMade
returns-in-NotMade c =
    let d = c.args.c.now in
    let entries = c.args.entries.now in
    let i = c.loop-entry.entry-index in
    let e = c.entry-item.result in
    let most = c.args.most in
    let cost = c.loop-entry.cost in
    let place = c.loop-entry.place in
    let u = unix_of d c.loop-entry.world c.loop-entry.processes in
    let cut : drop i entries ≡ e ∷ drop (i + 1) entries = rw add-one (drop-cons entries i e c.loop-entry-test.true ∙ ap (λ (x : Entry). x ∷ drop (suc i) entries) (sym c.entry-item.is)) in
    let h = subst (λ (a : Applied). Applies d (most - cost) (way_of d u e) (after d u e) a c.apply.new.world c.apply.new.ps) c.in-NotMade.is c.in_ok-way.ensures in
    let few : cost + way_of d u e ≤ most = omega (arith, h.0, c.loop-entry.invariant.1) in
    sym c.loop-entry.invariant.0 ∙ ap (verdict_from d most place cost u) cut ∙ check_not_made d most place cost u e (drop (i + 1) entries) few h.1
