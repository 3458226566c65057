use Rattle.frames_text.proofs.TextLaws.{from_described}
use Rattle.frames_text.proofs.answering.send_text.Goals as goal

pub returns-in-Ok : goal.returns-in-Ok
returns-in-Ok g c =
    from_described g.L.Link.faults g.L.Link.asked c.args.link.now c.answer_body.new.link c.args.text.now c.in-Ok.cluster c.in-Ok.body.now c.answer_body.result c.in-Ok.ensures.parts c.answer_body.ensures
