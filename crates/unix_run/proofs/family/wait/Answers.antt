use Rattle.std.proofs.Common.{◌<◌, not, refl, sym, ap, subst, ◌∙◌, []}
use Rattle.std.specs.List.{position}
use Rattle.std.specs.Option.{is_some}
use Rattle.sprite_ids.specs.declared.errno.Errno.TheVariants as errno
use Rattle.sprite_ids.proofs.ListLaws.{some_is, get_within}
use Rattle.process_machine.specs.declared.call.Reply.TheVariants.{Error, Value}
use Rattle.unix_calls.specs.declared.state.Process.{Process}
use Rattle.unix_calls.specs.Answers.{replied}
use Rattle.unix_calls.specs.ProcessCalls.{is_unwaited, status_of, wait}
use Rattle.unix_run.specs.Family.{is_ended_child}
use Rattle.unix_world.specs.Worlds.{unix_of}
use Rattle.unix_run.specs.declared.came.Came.TheVariants as came
use Rattle.unix_run.proofs.AmongLaws.{answered_among, unanswered_among}
use Rattle.unix_run.proofs.FamilyLaws.{marks, wait_none, wait_waits, waits}
use Rattle.unix_run.proofs.family.wait.Goals as goal

pub returns-then-is_none : goal.returns-then-is_none
returns-then-is_none c =
    let d = c.args.c.now in
    let ps = c.args.ps.now in
    let p = c.at_mut.result.now in
    let same = some_is c.at.result.now p (sym c.at.ensures ∙ c.at_mut.ensures.value) in
    let none = ap (λ (x : Process). is_some (position (is_unwaited x.pid) ps)) (sym same) ∙ (ap (λ l. is_some (position (is_unwaited c.at.result.now.pid) l)) (sym c.as_slice.ensures) ∙ (ap is_some (sym c.first_unwaited.ensures) ∙ (c.is_none.ensures ∙ ap not c.if-is_none.true))) in
    answered_among d (λ u q. wait d u q) c.args.world.now ps c.args.at p (Error errno.NoChild) c.refuse.result ps c.args.at p c.refuse.new.p c.at_mut.ensures.value c.refuse.ensures.came
    (wait_none d (unix_of d c.args.world.now ps) p none)
    c.requires.ascending c.at_mut.ensures.value c.refuse.ensures.process

pub returns-in_default : goal.returns-in_default
returns-in_default c =
    let d = c.args.c.now in
    let ps = c.args.ps.now in
    let p = c.at.result.now in
    let some = ap (λ l. is_some (position (is_unwaited p.pid) l)) (sym c.as_slice.ensures) ∙ (ap is_some (sym c.first_unwaited.ensures) ∙ (c.is_none.ensures ∙ ap not c.if-is_none.false)) in
    let none = ap (position (is_ended_child p.pid)) (sym c.as_slice-2.ensures) ∙ (sym c.first_ended.ensures ∙ c.in_default.is) in
    unanswered_among d (λ u q. wait d u q) c.args.world.now ps c.args.at p came.Waits c.at.ensures
    (wait_waits d (unix_of d c.args.world.now ps) p some none)
    c.requires.ascending (refl, refl)

pub at_mut-requires-2 : goal.at_mut-requires-2
at_mut-requires-2 c =
    let marked = marks c.args.ps.now c.args.at c.in-Some.child c.at.result.now c.at-2.result.now c.mark_waited.new.ps c.requires.ascending c.at.ensures c.at-2.ensures (c.mark_waited.ensures c.at-2.result.now c.at-2.ensures) in
    get_within c.mark_waited.new.ps c.args.at c.at.result.now marked.there

pub give_two-requires : goal.give_two-requires
give_two-requires c =
    let p = c.requires.caller.process in
    let marked = marks c.args.ps.now c.args.at c.in-Some.child p c.at-2.result.now c.mark_waited.new.ps c.requires.ascending c.requires.caller.there c.at-2.ensures (c.mark_waited.ensures c.at-2.result.now c.at-2.ensures) in
    let same = some_is p c.at_mut-2.result.now (sym marked.there ∙ c.at_mut-2.ensures.value) in
    subst (λ (x : Process). x.calls < 4294967295) same c.requires.caller.room

pub returns : goal.returns
returns c =
    let d = c.args.c.now in
    let ps = c.args.ps.now in
    let p = c.at.result.now in
    let first = c.at-2.result.now in
    let marked = marks ps c.args.at c.in-Some.child p first c.mark_waited.new.ps c.requires.ascending c.at.ensures c.at-2.ensures (c.mark_waited.ensures first c.at-2.ensures) in
    let same = some_is c.at_mut-2.result.now p (sym c.at_mut-2.ensures.value ∙ marked.there) in
    let ended = some_is c.at-3.result.now first (sym c.at-3.ensures ∙ c.at-2.ensures) in
    let some = ap (λ l. is_some (position (is_unwaited p.pid) l)) (sym c.as_slice.ensures) ∙ (ap is_some (sym c.first_unwaited.ensures) ∙ (c.is_none.ensures ∙ ap not c.if-is_none.false)) in
    let found = ap (position (is_ended_child p.pid)) (sym c.as_slice-2.ensures) ∙ (sym c.first_ended.ensures ∙ c.in-Some.is) in
    let number = c.from-number.ensures ∙ c.number.ensures.value in
    let status = c.status_of-status.ensures ∙ ap (λ (x : Process). status_of x.ending) ended in
    waits d c.args.world.now ps c.args.at c.in-Some.child p first c.give_two.new.p c.give_two.result c.mark_waited.new.ps c.from-number.result c.status_of-status.result
    c.at.ensures some found c.at-2.ensures marked number status c.give_two.ensures.came
    (c.give_two.ensures.process ∙ ap (λ (x : Process). replied d x (Value c.from-number.result c.status_of-status.result [])) same)
