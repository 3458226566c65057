use Rattle.std.proofs.Common.{ℕ, List, Some, sym, ap, ◌∙◌}
use Rattle.std.specs.List.{list_any}
use Rattle.sprite_ids.proofs.ListLaws.{some_is}
use Rattle.unix_calls.specs.declared.state.Process.{Process}
use Rattle.unix_calls.specs.State.{holds_master_of}
use Rattle.unix_run.specs.Entering.{ends_ask}
use Rattle.unix_world.specs.Worlds.{unix_of}
use Rattle.unix_run.proofs.EntryLaws.{done_is, makes_among}
use Rattle.unix_run.proofs.entry.enter_done.Goals as goal

pub returns : goal.returns
returns c =
    let w = c.args.world.now in
    let ps = c.args.ps.now in
    let d = c.args.c.now in
    let alive = c.is_alive-alive.ensures ∙ ap (λ (qs : List Process). list_any (holds_master_of w.streams c.in-Some.place) qs) c.as_slice.ensures in
    let m = makes_among d (ends_ask d c.in-Some.place c.is_alive-alive.result c.args.reply.now) w ps c.args.at c.at_mut.result.now c.end_ask.result c.end_ask.new.world c.end_ask.new.p c.requires.ascending c.at_mut.ensures.value c.end_ask.ensures in
    record {
      tells = λ r there.
          done_is d (unix_of d w ps) r c.in-Some.place c.is_alive-alive.result c.args.reply.now
          (ap (λ (q : Process). q.asking) (sym (some_is c.at.result.now r (sym c.at.ensures ∙ there))) ∙ c.in-Some.is)
          alive
          ∙ m.tells r there;
      stays = m.stays;
      ascends = m.ascends;
    }
