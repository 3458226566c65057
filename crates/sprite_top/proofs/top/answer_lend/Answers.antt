use Rattle.std.proofs.Common.{ℕ, List, IfOk, subst}
use Rattle.sprite_bytes.specs.Ends.{IsByCount}
use Rattle.sprite_bytes.specs.declared.read_end.ReadEnd.{ReadEnd}
use Rattle.sprite_words.specs.declared.Command.TheVariants as command
use Rattle.sprite_top.specs.declared.top.Answer.{Answer}
use Rattle.sprite_top.specs.Top.{LinesCauses}
use Rattle.lend_text.specs.Bodies.{answer_text}
use Rattle.frames_text.specs.Texts.{AreTold}
use Rattle.sprite_top.proofs.TopLaws.{from_events, from_fault}
use Rattle.sprite_top.proofs.top.answer_lend.Goals as goal

pub returns-in-Ok-clause-causes : goal.returns-in-Ok-clause-causes
returns-in-Ok-clause-causes g c = λ words asks.
    from_events (AreTold g.L.Link.faults g.L.Link.asked c.args.link c.args.link) words _ _ _ _ c.in-Ok.bytes.items c.answer_events.result asks c.in-Ok.ensures.whole c.in-Ok.ensures.end c.in-Ok.ensures.short (subst (λ (came : List ℕ). IfOk c.answer_events.result (λ (a : Answer). LinesCauses answer_text a.status came a.closed a.due)) c.as_slice.ensures.value c.answer_events.ensures.causes)

pub returns-in-Err-Fault-clause-causes : goal.returns-in-Err-Fault-clause-causes
returns-in-Err-Fault-clause-causes g c = λ words asks.
    from_fault (AreTold g.L.Link.faults g.L.Link.asked c.args.link c.args.link) words _ _ _ _ c.in-Err-Fault.field-0-0 c.in-Err-Fault.field-0-1 c.refuse-in-Err-Fault.result (command.Lend, asks) (subst (λ (end : ReadEnd). IsByCount (g.S.Source.faults c.args.source.now) (g.S.Source.faults c.read_all.new.source) end) c.in-Err-Fault.field-0-is c.in-Err-Fault.ensures.fault) c.refuse-in-Err-Fault.ensures
