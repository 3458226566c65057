use Rattle.std.proofs.Common.{ℕ, sym, ◌∙◌}
use Rattle.std.proofs.lemmas.Result.{IfOk-weaker}
use Rattle.trace_audit.specs.declared.outcome.Audit.{Audit}
use Rattle.trace_audit.specs.Audits.{AuditsTo, IsWithin}
use Rattle.trace_audit.proofs.AuditLaws.{within_bound}
use Rattle.trace_audit.proofs.auditing.audit_legal.Goals as goal

pub returns-then-not-branch : goal.returns-then-not-branch
returns-then-not-branch c = (
  within_bound c.args.c.now c.args.most c.args.trace.now c.requires.legal (sym c.in_ok-passes_bound.ensures ∙ c.if-branch.false),
  sym c.in_ok-formed.ensures ∙ c.if-not-branch.true,
)

pub returns : goal.returns
returns c =
    let d = c.args.c.now in
    let most = c.args.most in
    let trace = c.args.trace.now in
    let within = within_bound d most trace c.requires.legal (sym c.in_ok-passes_bound.ensures ∙ c.if-branch.false) in
    IfOk-weaker c.audit_formed.result (λ (audit : Audit). (n : ℕ) → IsWithin d n trace → AuditsTo d n trace audit) (AuditsTo d most trace) (λ audit so. so most within) c.audit_formed.ensures
