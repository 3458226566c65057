-- What a body comes to, the text comes to of which it is the part behind a cluster file.
use Rattle.std.proofs.Common.{ℕ, List}
use Rattle.unix_calls.specs.declared.description.Description.{Description}
use Rattle.parted_text.specs.Parted.{HasCluster}
use Rattle.trace_audit.specs.declared.audited_text.AuditedText.{AuditedText}
use Rattle.trace_audit.specs.declared.audited_text.AuditedText.TheVariants as text_audit
use Rattle.trace_audit.specs.Texts.{BodyComesTo, TextComesTo}

pub text_comes_to : (text : List ℕ) (cluster : Description) (body : List ℕ) → HasCluster text cluster body → (audited : AuditedText) → BodyComesTo cluster body audited → TextComesTo text audited
text_comes_to text cluster body has (text_audit.BadLine number) comes = record { cluster = cluster; body = body; has = has; comes_to = comes }
text_comes_to text cluster body has (text_audit.Audited audit) comes = record { cluster = cluster; body = body; has = has; comes_to = comes }
text_comes_to text cluster body has text_audit.NoTrace comes = absurd comes
text_comes_to text cluster body has (text_audit.Refused refusal) comes = absurd comes
