use Rattle.std.proofs.Common.{ℕ, List, ◌<◌, sym, ap, subst, ◌∙◌}
use Rattle.std.specs.Option.{is_some}
use Rattle.std.proofs.lemmas.List.{length-set}
use Rattle.sprite_ids.specs.declared.errno.Errno.TheVariants as errno
use Rattle.sprite_ids.proofs.ListLaws.{some_is, get_within}
use Rattle.process_machine.specs.declared.call.Reply.TheVariants.{Error}
use Rattle.unix_calls.specs.declared.state.Process.{Process}
use Rattle.unix_calls.specs.State.{process_at}
use Rattle.unix_calls.specs.ProcessCalls.{kill}
use Rattle.unix_world.specs.Among.{IsAt}
use Rattle.unix_world.specs.Worlds.{unix_of}
use Rattle.unix_run.proofs.AmongLaws.{answered_among}
use Rattle.unix_run.proofs.FamilyLaws.{kill_none, kill_ended, killed, killed_calls, kills}
use Rattle.unix_run.proofs.family.kill.Goals as goal

pub returns-in_default : goal.returns-in_default
returns-in_default c =
    let d = c.args.c.now in
    let ps = c.args.ps.now in
    let p = c.at_mut.result.now in
    answered_among d (λ u q. kill d u q c.args.pid) c.args.world.now ps c.args.at p (Error errno.NoProcess) c.refuse.result ps c.args.at p c.refuse.new.p c.at_mut.ensures.value c.refuse.ensures.came
    (kill_none d (unix_of d c.args.world.now ps) p c.args.pid (ap (λ l. process_at l c.args.pid) (sym c.as_slice.ensures) ∙ c.in_default.ensures))
    c.requires.ascending c.at_mut.ensures.value c.refuse.ensures.process

pub at-requires : goal.at-requires
at-requires c =
    let slot = subst (λ (l : List Process). IsAt l c.args.pid c.in-Some.target) c.as_slice.ensures c.in-Some.ensures in
    get_within c.args.ps.now c.in-Some.target slot.process slot.there

pub at_mut-requires-then-is_some : goal.at_mut-requires-then-is_some
at_mut-requires-then-is_some c = get_within c.args.ps.now c.args.at c.requires.caller.process c.requires.caller.there

pub returns-then-is_some : goal.returns-then-is_some
returns-then-is_some c =
    let d = c.args.c.now in
    let ps = c.args.ps.now in
    let p = c.at_mut-then-is_some.result.now in
    let slot = subst (λ (l : List Process). IsAt l c.args.pid c.in-Some.target) c.as_slice.ensures c.in-Some.ensures in
    let found = slot.found ∙ (sym slot.there ∙ c.at.ensures) in
    answered_among d (λ u q. kill d u q c.args.pid) c.args.world.now ps c.args.at p (Error errno.NoProcess) c.refuse-then-is_some.result ps c.args.at p c.refuse-then-is_some.new.p c.at_mut-then-is_some.ensures.value c.refuse-then-is_some.ensures.came
    (kill_ended d (unix_of d c.args.world.now ps) p c.at.result.now c.args.pid found (sym c.is_some.ensures ∙ c.if-is_some.true))
    c.requires.ascending c.at_mut-then-is_some.ensures.value c.refuse-then-is_some.ensures.process

pub at_mut-requires-2 : goal.at_mut-requires-2
at_mut-requires-2 c = get_within c.args.ps.now c.in-Some.target c.at.result.now c.at.ensures

pub at_mut-requires-3 : goal.at_mut-requires-3
at_mut-requires-3 c =
    let ps = c.args.ps.now in
    subst (λ (n : ℕ). c.args.at < n) (sym (length-set ps c.in-Some.target (killed c.at_mut-2.result.now))) (get_within ps c.args.at c.requires.caller.process c.requires.caller.there)

pub give_value-requires : goal.give_value-requires
give_value-requires c =
    let calls = killed_calls c.args.ps.now c.args.at c.in-Some.target c.requires.caller.process c.at_mut-2.result.now c.at_mut-3.result.now c.requires.ascending c.requires.caller.there c.at_mut-2.ensures.value c.at_mut-3.ensures.value in
    subst (λ (n : ℕ). n < 4294967295) (sym calls) c.requires.caller.room

pub returns : goal.returns
returns c =
    let ps = c.args.ps.now in
    let target = c.at_mut-2.result.now in
    let slot = subst (λ (l : List Process). IsAt l c.args.pid c.in-Some.target) c.as_slice.ensures c.in-Some.ensures in
    let same = some_is c.at.result.now target (sym c.at.ensures ∙ c.at_mut-2.ensures.value) in
    let living = ap (λ (x : Process). is_some x.ending) (sym same) ∙ (sym c.is_some.ensures ∙ c.if-is_some.false) in
    kills c.args.c.now c.args.world.now ps c.args.at c.in-Some.target c.args.pid c.requires.caller.process target c.at_mut-3.result.now c.give_value.new.p c.give_value.result
    c.requires.ascending c.requires.caller.there (slot.found ∙ (sym slot.there ∙ c.at_mut-2.ensures.value)) c.at_mut-2.ensures.value living c.at_mut-3.ensures.value c.give_value.ensures.came c.give_value.ensures.process
