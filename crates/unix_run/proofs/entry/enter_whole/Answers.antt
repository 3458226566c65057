use Rattle.std.proofs.Common.{ℕ, List, Some, refl, sym, ap, subst, ◌∙◌, slice_get, true}
use Rattle.std.specs.Option.{is_some}
use Rattle.sprite_ids.proofs.ListLaws.{some_is}
use Rattle.unix_calls.specs.declared.state.Process.{Process}
use Rattle.unix_calls.specs.State.{Unix, with_process}
use Rattle.unix_calls.specs.After.{after_whole}
use Rattle.unix_run.specs.Entering.{stands}
use Rattle.unix_world.specs.Worlds.{unix_of}
use Rattle.unix_run.proofs.EntryLaws.{makes_among, whole_stands}
use Rattle.unix_run.proofs.entry.enter_whole.Goals as goal

pub returns-then-branch : goal.returns-then-branch
returns-then-branch c =
    let w = c.args.world.now in
    let ps = c.args.ps.now in
    let d = c.args.c.now in
    let p = c.at_mut.result.now in
    let one = some_is c.at.result.now p (sym c.at.ensures ∙ c.at_mut.ensures.value) in
    let two = some_is c.at-2.result.now p (sym c.at-2.ensures ∙ c.at_mut.ensures.value) in
    let free = ap (λ (q : Process). is_some q.asking) (sym one) ∙ sym c.is_some.ensures ∙ c.if-is_some.false in
    let may = ap (λ (q : Process). stands q c.args.call.now c.args.reply.now) (sym two) ∙ sym c.in_ok-stands.ensures ∙ c.if-branch.true in
    makes_among d (λ u q. after_whole d u q c.args.call.now c.args.reply.now) w ps c.args.at p true w c.reply_to.new.p c.requires.ascending c.at_mut.ensures.value
    (record {
      tells = λ others. whole_stands d (unix_of d w others) p c.args.call.now c.args.reply.now free may
          ∙ ap (λ (q : Process). Some (with_process q (unix_of d w others))) (sym c.reply_to.ensures);
      same = ap (λ (q : Process). q.pid) c.reply_to.ensures;
      stays = refl;
    })
