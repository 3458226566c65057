use Rattle.std.proofs.Common.{ℕ, List, Some, Ok, false, refl, sym, ap, ◌∙◌}
use Rattle.std.specs.Option.{is_some}
use Rattle.sprite_ids.proofs.ListLaws.{some_is}
use Rattle.unix_calls.specs.declared.state.Process.{Process}
use Rattle.unix_run.specs.Entering.{asks_free}
use Rattle.unix_run.proofs.AmongLaws.{if_ok}
use Rattle.unix_run.proofs.EntryLaws.{asked_among, moved_ok, not_goes, unasked_among}
use Rattle.unix_run.proofs.entry.enter_ask.Goals.{in-GoesTo, in_default}
use Rattle.unix_run.proofs.entry.enter_ask.Goals as goal

pub returns : goal.returns
returns c =
    let w = c.args.world.now in
    let ps = c.args.ps.now in
    let d = c.args.c.now in
    let call = c.args.call.now in
    let free = sym c.is_some.ensures ∙ c.if-is_some.false in
    elim c.match-branch-2.branch [
      | in-GoesTo k ↦
          moved_ok d (asks_free d call) w ps c.args.at c.match-branch-2.result k.ask.result c.match-branch-2.world k.ask.new.world c.match-branch-2.ps _ k.result-is k.world-is k.ps-is
          (if_ok k.ask.result (λ made makes. asked_among d call w c.outcome.new.world ps c.outcome.new.ps c.args.at k.in-GoesTo.place c.at.result.now k.at_mut.result.now c.in_ok-place.field-0 made k.ask.new.world k.ask.new.p c.at.ensures free k.in-GoesTo.is c.in_ok-place.ensures k.at_mut.ensures.value makes) k.ask.ensures)
      | in_default k ↦
          moved_ok d (asks_free d call) w ps c.args.at c.match-branch-2.result (Ok false) c.match-branch-2.world c.outcome.new.world c.match-branch-2.ps c.outcome.new.ps k.result-is k.world-is k.ps-is
          (unasked_among d call w c.outcome.new.world ps c.outcome.new.ps c.args.at c.at.result.now c.in_ok-place.field-0 c.at.ensures free (not_goes c.in_ok-place.field-0 k.in_default.not-GoesTo) c.in_ok-place.ensures)
    ]
