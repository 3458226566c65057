use Rattle.std.proofs.Common.{◌∙◌, ap}
use Rattle.wire_fragments.specs.Runs.{is_given}
use Rattle.frames_text.specs.Sending.{arriving}
use Rattle.frames_text.proofs.SentLaws.{are_sent}
use Rattle.frames_text.proofs.reporting.send_parcels.Goals as goal

pub returns : goal.returns
returns g c =
    are_sent g.L.Link.faults g.L.Link.asked c.args.link.now c.send_all.new.link c.args.parcels.now c.in_ok-sent.sent.items c.as_slice-2.result.now c.in_ok-answers.answers.items c.in_ok-given.given.keys c.in_ok-lines.lines.items c.requires.parcels c.requires.few c.in_ok-sent.ensures.frames c.in_ok-sent.ensures.over
    (c.as_slice-2.ensures.value ∙ (c.in_ok-frames.ensures ∙ ap arriving c.as_slice.ensures.value)) c.in_ok-answers.ensures.gathered c.in_ok-answers.ensures.all_given
    (λ name. c.in_ok-given.ensures name ∙ ap (λ answers. is_given answers name) c.as_slice-3.ensures.value) c.in_ok-lines.ensures
