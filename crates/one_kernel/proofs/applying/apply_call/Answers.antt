use Rattle.std.proofs.Common.{rules, sym, ap, subst}
use Rattle.process_machine.specs.declared.call.Call.TheVariants.{BadStep}
use Rattle.process_machine.specs.Calls.{call_at}
use Rattle.process_machine.specs.Runs.{call_there}
use Rattle.one_kernel.specs.declared.applying.Applied.{Applied}
use Rattle.one_kernel.specs.Applied.{CallApplies}
use Rattle.one_kernel.specs.Ways.{Reaches}
use Rattle.one_kernel.proofs.ApplyLaws.{call_applies, moved_ascends, moved_there}
use Rattle.one_kernel.proofs.applying.apply_call.Goals as goal

pub enter_next-requires-clause-ascending : goal.enter_next-requires-clause-ascending
enter_next-requires-clause-ascending c =
    moved_ascends c.args.ps.now c.args.at c.at_mut.result.now c.go_to_call.new.image c.requires.ascending c.at_mut.ensures.value

pub enter_called-requires-clause-ascending : goal.enter_called-requires-clause-ascending
enter_called-requires-clause-ascending c =
    moved_ascends c.args.ps.now c.args.at c.at_mut.result.now c.go_to_call.new.image c.requires.ascending c.at_mut.ensures.value

pub enter_called-requires-clause-stands : goal.enter_called-requires-clause-stands
enter_called-requires-clause-stands c =
    let reached = subst (λ r. Reaches c.in-Some.program.now c.at_mut.result.now.image c.args.left r c.go_to_call.new.image) c.in-Call.is c.go_to_call.ensures in
    record {
      process = record c.at_mut.result.now { image = c.go_to_call.new.image };
      there = moved_there c.args.ps.now c.args.at c.at_mut.result.now c.go_to_call.new.image c.at_mut.ensures.value;
      step = reached.3;
    }

pub returns-in_ok-made-in-BadStep : goal.returns-in_ok-made-in-BadStep
returns-in_ok-made-in-BadStep c =
    let d = c.args.c.now in
    let ps = c.args.ps.now in
    let p = c.at_mut.result.now in
    let m = c.go_to_call.new.image in
    let program = c.in-Some.program.now in
    let reached = subst (λ r. Reaches program p.image c.args.left r m) c.in-BadStep.is c.go_to_call.ensures in
    let made = c.in_ok-made-in-BadStep.ensures in
    subst (λ (a : Applied). CallApplies d c.args.left c.args.entry.now c.args.claimed.now c.args.world.now ps c.args.at a c.enter_next.new.world c.enter_next.new.ps) (sym c.applied_by.ensures)
    (call_applies d c.args.left c.in-BadStep.way c.args.entry.now c.args.claimed.now BadStep c.args.world.now ps c.args.at p program m c.in_ok-made-in-BadStep.made c.enter_next.new.world c.enter_next.new.ps c.requires.ascending c.at_mut.ensures.value (search rules) reached.0 reached.1 reached.2 (ap (call_there program m) reached.3) (made.tells (record p { image = m }) (moved_there ps c.args.at p m c.at_mut.ensures.value)) made.ascends)

pub returns-in_ok-made-in-Call : goal.returns-in_ok-made-in-Call
returns-in_ok-made-in-Call c =
    let d = c.args.c.now in
    let ps = c.args.ps.now in
    let p = c.at_mut.result.now in
    let m = c.go_to_call.new.image in
    let program = c.in-Some.program.now in
    let reached = subst (λ r. Reaches program p.image c.args.left r m) c.in-Call.is c.go_to_call.ensures in
    let made = c.in_ok-made-in-Call.ensures in
    subst (λ (a : Applied). CallApplies d c.args.left c.args.entry.now c.args.claimed.now c.args.world.now ps c.args.at a c.enter_called.new.world c.enter_called.new.ps) (sym c.applied_by-in-Call.ensures)
    (call_applies d c.args.left c.in-Call.way c.args.entry.now c.args.claimed.now (call_at program m) c.args.world.now ps c.args.at p program m c.in_ok-made-in-Call.made c.enter_called.new.world c.enter_called.new.ps c.requires.ascending c.at_mut.ensures.value (search rules) reached.0 reached.1 reached.2 (ap (call_there program m) reached.3) (made.tells (record p { image = m }) (moved_there ps c.args.at p m c.at_mut.ensures.value)) made.ascends)
