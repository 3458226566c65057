use Rattle.parted_text.specs.Parted.{most_instructions}
use Rattle.trace_audit.proofs.texts.audit_body.Goals as goal

pub returns-in_ok-audit-in-Ok : goal.returns-in_ok-audit-in-Ok
unfolding most_instructions
returns-in_ok-audit-in-Ok c =
    record { records = c.in-Ok.trace; reads = c.in-Ok.ensures.ok; comes_to = c.in_ok-audit-in-Ok.ensures }
