use Rattle.std.proofs.Common.{ℕ, sym, ap, ◌∙◌}
use Rattle.std.specs.Option.{option_and_then}
use Rattle.sprite_ids.proofs.ListLaws.{some_is}
use Rattle.unix_calls.specs.declared.state.Process.{Process}
use Rattle.unix_calls.specs.State.{process_at}
use Rattle.unix_calls.specs.Answers.{replies, value}
use Rattle.unix_calls.specs.ProcessCalls.{getppid, living_number}
use Rattle.unix_world.specs.Worlds.{unix_of}
use Rattle.unix_run.proofs.AmongLaws.{answered_among}
use Rattle.unix_run.proofs.family.getppid.Goals as goal

pub returns : goal.returns
returns c =
    let d = c.args.c.now in
    let w = c.args.world.now in
    let ps = c.args.ps.now in
    let p = c.at_mut.result.now in
    let got = c.at_mut.ensures.value in
    let same = some_is c.at.result.now p (sym c.at.ensures ∙ got) in
    let number = c.living_number-number.ensures ∙ ap (λ l. living_number (option_and_then (process_at l) c.at.result.now.parent)) c.as_slice.ensures ∙ ap (λ (x : Process). living_number (option_and_then (process_at ps) x.parent)) same in
    answered_among d (λ u q. getppid d u q) w ps c.args.at p (value c.living_number-number.result) c.give_value.result ps c.args.at p c.give_value.new.p got
    c.give_value.ensures.came
    (ap (λ (n : ℕ). replies d (unix_of d w ps) p (value n)) (sym number))
    c.requires.ascending got c.give_value.ensures.process
