use Rattle.std.proofs.Common.{List, subst}
use Rattle.unix_calls.specs.declared.event.Rec.{Rec}
use Rattle.trace_views.specs.declared.Viewed.{Viewed}
use Rattle.trace_views.specs.declared.Viewed.TheVariants as viewed
use Rattle.trace_views.specs.Views.{ViewsTo}
use Rattle.trace_audit.proofs.AuditLaws.{breaks_legal}
use Rattle.trace_audit.proofs.auditing.audit.Goals as goal

pub returns-in-NotLegal : goal.returns-in-NotLegal
returns-in-NotLegal c =
    let told = subst (λ (v : Viewed). ViewsTo c.args.c.now c.args.most c.records.result.now v) c.in-NotLegal.is c.in_ok-view.ensures in
    breaks_legal c.args.c.now c.args.most c.in-NotLegal.field-0 c.args.trace.now
    (subst (λ (trace : List Rec). ViewsTo c.args.c.now c.args.most trace (viewed.NotLegal c.in-NotLegal.field-0)) c.records.ensures told)
