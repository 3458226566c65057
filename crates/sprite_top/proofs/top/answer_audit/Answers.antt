use Rattle.std.proofs.Common.{ℕ, List, IfOk, subst}
use Rattle.sprite_bytes.specs.Ends.{IsByCount}
use Rattle.sprite_bytes.specs.declared.read_end.ReadEnd.{ReadEnd}
use Rattle.sprite_words.specs.declared.Command.TheVariants as command
use Rattle.sprite_top.specs.declared.top.Answer.{Answer}
use Rattle.sprite_top.specs.Judged.{AuditCauses}
use Rattle.frames_text.specs.Texts.{AreTold}
use Rattle.sprite_top.proofs.TopLaws.{from_fault, from_audit}
use Rattle.sprite_top.proofs.top.answer_audit.Goals as goal

pub returns-in-Ok-clause-causes : goal.returns-in-Ok-clause-causes
returns-in-Ok-clause-causes g c = λ words asks.
    from_audit (AreTold g.L.Link.faults g.L.Link.asked c.args.link c.args.link) words _ _ _ _ c.in-Ok.bytes.items c.answer_trace.result asks c.in-Ok.ensures.whole c.in-Ok.ensures.end c.in-Ok.ensures.short (subst (λ (came : List ℕ). IfOk c.answer_trace.result (λ (a : Answer). AuditCauses a.status came a.closed a.due)) c.as_slice.ensures.value c.answer_trace.ensures)

pub returns-in-Err-Fault-clause-causes : goal.returns-in-Err-Fault-clause-causes
returns-in-Err-Fault-clause-causes g c = λ words asks.
    from_fault (AreTold g.L.Link.faults g.L.Link.asked c.args.link c.args.link) words _ _ _ _ c.in-Err-Fault.field-0-0 c.in-Err-Fault.field-0-1 c.refuse-in-Err-Fault.result (command.Audit, asks) (subst (λ (end : ReadEnd). IsByCount (g.S.Source.faults c.args.source.now) (g.S.Source.faults c.read_all.new.source) end) c.in-Err-Fault.field-0-is c.in-Err-Fault.ensures.fault) c.refuse-in-Err-Fault.ensures
