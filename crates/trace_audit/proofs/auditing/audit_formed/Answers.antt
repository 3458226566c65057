use Rattle.std.proofs.Common.{◌∙◌, sym}
use Rattle.trace_judge.proofs.KeepingLaws.{formed_keeps}
use Rattle.trace_audit.proofs.AuditLaws.{as_formed, is_once, not_once}
use Rattle.trace_audit.proofs.auditing.audit_formed.Goals as goal

pub returns-then-not-branch : goal.returns-then-not-branch
returns-then-not-branch c = λ most within. (
  as_formed c.args.c.now most c.args.trace.now within c.requires.formed,
  not_once c.in_ok-calls_are_once.field-0 c.args.trace.now c.if-not-branch.true c.in_ok-calls_are_once.ensures,
)

pub returns-then-not-are_for_cause : goal.returns-then-not-are_for_cause
returns-then-not-are_for_cause c = λ most within. (
  as_formed c.args.c.now most c.args.trace.now within c.requires.formed,
  is_once c.in_ok-calls_are_once.field-0 c.args.trace.now c.if-not-branch.false c.in_ok-calls_are_once.ensures,
  sym c.are_for_cause.ensures ∙ c.if-not-are_for_cause.true,
)

pub returns-in-Some : goal.returns-in-Some
returns-in-Some c = λ most within. (
  record {
    is_formed = as_formed c.args.c.now most c.args.trace.now within c.requires.formed;
    once = is_once c.in_ok-calls_are_once.field-0 c.args.trace.now c.if-not-branch.false c.in_ok-calls_are_once.ensures;
    for_cause = sym c.are_for_cause.ensures ∙ c.if-not-are_for_cause.false;
  },
  sym c.in_ok-rule.ensures ∙ c.in-Some.is,
)

pub returns-in-None : goal.returns-in-None
returns-in-None c = λ most within. record {
  is_caused = record {
    is_formed = as_formed c.args.c.now most c.args.trace.now within c.requires.formed;
    once = is_once c.in_ok-calls_are_once.field-0 c.args.trace.now c.if-not-branch.false c.in_ok-calls_are_once.ensures;
    for_cause = sym c.are_for_cause.ensures ∙ c.if-not-are_for_cause.false;
  };
  keeps = formed_keeps c.args.c.now c.args.trace.now c.requires.formed (sym c.in_ok-rule.ensures ∙ c.in-None.is);
}
