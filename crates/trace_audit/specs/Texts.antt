-- What a text comes to that is to hold a cluster file and a trace.
use Rattle.std.specs.Prelude.{◌≡◌, ℕ, List, None}
use Rattle.unix_calls.specs.declared.description.Description.{Description}
use Rattle.unix_calls.specs.declared.event.Rec.{Rec}
use Rattle.trace_text.specs.Traces.{IsTrace, IsFirstBad}
use Rattle.parted_text.specs.Parted.{HasRefusal, IsDescribed, most_instructions}
use Rattle.text_lines.specs.Parts.{parts_of}
use Rattle.trace_audit.specs.declared.outcome.Audit.{Audit}
use Rattle.trace_audit.specs.declared.audited_text.AuditedText.{AuditedText}
use Rattle.trace_audit.specs.declared.audited_text.AuditedText.TheVariants as text_audit
use Rattle.trace_audit.specs.Audits.{AuditsTo}

-- a body is a printed trace of a cluster, which comes to that
pub record IsAudited (cluster : Description) (body : List ℕ) (audit : Audit) : Type 0 where
  pub records : List Rec
  pub reads : IsTrace body records
  pub comes_to : AuditsTo cluster most_instructions records audit

-- what a body comes to for a described cluster: that line of it is the first that is no record's, or it is audited so
abbrev pub BodyComesTo : Description → List ℕ → AuditedText → Type 0
BodyComesTo cluster body (text_audit.BadLine number) = IsFirstBad body number
BodyComesTo cluster body (text_audit.Audited audit) = IsAudited cluster body audit
BodyComesTo cluster body _ = ⊥

-- and what a text comes to: it has no line `=====`, its cluster file is refused, or its body comes to that
abbrev pub TextComesTo : List ℕ → AuditedText → Type 0
TextComesTo text text_audit.NoTrace = parts_of text ≡ None
TextComesTo text (text_audit.Refused refusal) = HasRefusal text refusal
TextComesTo text other = IsDescribed text (λ cluster body. BodyComesTo cluster body other)
