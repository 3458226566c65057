use Rattle.std.proofs.Common.{ℕ, List, nat_le, Some, sym, ap, subst, ◌∙◌}
use Rattle.sprite_ids.specs.Pid.{home_of}
use Rattle.sprite_ids.specs.declared.errno.Errno.TheVariants as errno
use Rattle.sprite_ids.proofs.ListLaws.{some_is, get_within}
use Rattle.process_machine.specs.declared.call.Reply.TheVariants.{Error}
use Rattle.unix_calls.specs.declared.state.Process.{Process}
use Rattle.unix_calls.specs.State.{births}
use Rattle.unix_calls.specs.Answers.{replied, value}
use Rattle.unix_calls.specs.ProcessCalls.{child_of, fork}
use Rattle.unix_world.specs.Among.{IsNext}
use Rattle.unix_world.specs.Worlds.{unix_of}
use Rattle.unix_run.specs.declared.came.Came.TheVariants as came
use Rattle.unix_run.proofs.AmongLaws.{answered_among}
use Rattle.unix_run.proofs.FamilyLaws.{fork_full, forks}
use Rattle.unix_run.proofs.family.fork.Goals as goal

pub returns-in_default : goal.returns-in_default
returns-in_default c =
    let d = c.args.c.now in
    let ps = c.args.ps.now in
    let p = c.at_mut.result.now in
    let same = some_is c.at.result.now p (sym c.at.ensures ∙ c.at_mut.ensures.value) in
    let full = ap (λ (x : Process). nat_le 200 (births ps (home_of x.pid))) (sym same) ∙ (ap (λ (n : ℕ). nat_le 200 (births ps n)) (sym c.home.ensures) ∙ (ap (λ l. nat_le 200 (births l c.home.result)) (sym c.as_slice.ensures) ∙ c.in_default.ensures)) in
    answered_among d (λ u q. fork d u q) c.args.world.now ps c.args.at p (Error errno.TooMany) c.refuse.result ps c.args.at p c.refuse.new.p c.at_mut.ensures.value c.refuse.ensures.came
    (fork_full d (unix_of d c.args.world.now ps) p full)
    c.requires.ascending c.at_mut.ensures.value c.refuse.ensures.process

pub at-requires-2 : goal.at-requires-2
at-requires-2 c = get_within c.args.ps.now c.args.at c.requires.caller.process c.requires.caller.there

pub at_mut-requires-2 : goal.at_mut-requires-2
at_mut-requires-2 c = get_within c.args.ps.now c.args.at c.requires.caller.process c.requires.caller.there

pub returns : goal.returns
returns c =
    let d = c.args.c.now in
    let ps = c.args.ps.now in
    let p = c.at.result.now in
    let pid = c.in-Some.pid in
    let q = c.give_value-came.new.p in
    let next : IsNext ps (home_of p.pid) (Some pid) =
    subst (λ (l : List Process). IsNext l (home_of p.pid) (Some pid)) c.as_slice.ensures (subst (λ (n : ℕ). IsNext c.as_slice.result.now n (Some pid)) c.home.ensures c.in-Some.ensures) in
    let same = some_is c.at_mut-2.result.now p (sym c.at_mut-2.ensures.value ∙ c.at.ensures) in
    let again = some_is c.at-2.result.now p (sym c.at-2.ensures ∙ c.at.ensures) in
    let number = c.from.ensures ∙ c.number.ensures.value in
    let made = c.in_ok-child.ensures ∙ ap (λ (x : Process). child_of d x pid) again in
    let came_to = c.give_value-came.ensures.came ∙ ap (λ (n : ℕ). came.Answered (value n)) number in
    let reply = c.give_value-came.ensures.process ∙ (ap (λ (x : Process). replied d x (value c.from.result)) same ∙ ap (λ (n : ℕ). replied d p (value n)) number) in
    forks d c.args.world.now ps c.args.at p c.in_ok-child.child q pid c.give_value-came.result c.add_child.new.ps
    c.requires.ascending c.at.ensures next.0 next.1 made came_to reply c.in_ok-add_child.ensures
