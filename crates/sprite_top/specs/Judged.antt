-- What is due for a text that is to hold a cluster file and a history, or a trace.
use Rattle.std.specs.Prelude.{codes, ◌≡◌, ℕ, List, [], ◌∷◌, ◌++◌, Option, None}
use Rattle.std.specs.Fmt.{decimal}
use Rattle.call_journal.specs.declared.closed.Closed.{Closed}
use Rattle.one_kernel.specs.declared.verdict.Verdict.{Verdict}
use Rattle.one_kernel.specs.declared.verdict.Verdict.TheVariants as verdict
use Rattle.history_check.specs.declared.judgement.Judgement.{Judgement}
use Rattle.history_check.specs.declared.judgement.Judgement.TheVariants as judgement
use Rattle.history_check.specs.Judged.{ComesTo}
use Rattle.trace_audit.specs.declared.outcome.Audit.{Audit}
use Rattle.trace_audit.specs.declared.outcome.Audit.TheVariants as audit
use Rattle.trace_audit.specs.declared.audited_text.AuditedText.{AuditedText}
use Rattle.trace_audit.specs.declared.audited_text.AuditedText.TheVariants as text_audit
use Rattle.trace_audit.specs.Audits.{name_of}
use Rattle.trace_audit.specs.Texts.{TextComesTo}
use Rattle.sprite_top.specs.declared.top.Status.{Status}
use Rattle.sprite_top.specs.declared.top.Status.TheVariants as status
use Rattle.report_print.specs.Refused.{refusal_line}

-- a line that ends with a number
abbrev pub numbered_line : List ℕ → ℕ → List ℕ
numbered_line words number = words ++ decimal number ++ 10 ∷ []

-- the line about a history
abbrev pub verdict_line : Verdict → List ℕ
verdict_line verdict.Legal = codes "legal\n"
verdict_line (verdict.NotLegal number) = numbered_line (codes "not legal at line ") number
verdict_line (verdict.Steps number) = numbered_line (codes "steps at line ") number

-- the line about a text
abbrev pub judgement_line : Judgement → List ℕ
judgement_line judgement.NoHistory = codes "refused: 14\n"
judgement_line (judgement.Refused refusal) = refusal_line refusal
judgement_line (judgement.BadLine number) = numbered_line (codes "refused: 15 line ") number
judgement_line (judgement.Judged verdict) = verdict_line verdict

-- the status of a history, and of a text
abbrev pub verdict_status : Verdict → Status
verdict_status verdict.Legal = status.Holds
verdict_status (verdict.NotLegal number) = status.Fails
verdict_status (verdict.Steps number) = status.Steps

abbrev pub judgement_status : Judgement → Status
judgement_status (judgement.Judged verdict) = verdict_status verdict
judgement_status _ = status.Refused

-- the text comes to something of that status, whose line is due
pub record TextCauses (state : Status) (text : List ℕ) (closed : Option Closed) (due : List ℕ) : Type 0 where
  pub judgement : Judgement
  pub comes_to : ComesTo text judgement
  pub state_is : state ≡ judgement_status judgement
  pub line_is : due ≡ judgement_line judgement
  pub no_run : closed ≡ None

-- the line about a trace
abbrev pub audit_line : Audit → List ℕ
audit_line audit.Holds = codes "holds\n"
audit_line (audit.Fails promise) = codes "fails " ++ name_of promise ++ codes "\n"
audit_line (audit.Steps number) = numbered_line (codes "steps at entry ") number

-- the line about a text that is to hold one
abbrev pub audited_line : AuditedText → List ℕ
audited_line text_audit.NoTrace = codes "refused: 14\n"
audited_line (text_audit.Refused refusal) = refusal_line refusal
audited_line (text_audit.BadLine number) = numbered_line (codes "refused: 15 line ") number
audited_line (text_audit.Audited audit) = audit_line audit

-- the status of a trace, and of such a text
abbrev pub audit_status : Audit → Status
audit_status audit.Holds = status.Holds
audit_status (audit.Fails promise) = status.Fails
audit_status (audit.Steps number) = status.Steps

abbrev pub audited_status : AuditedText → Status
audited_status (text_audit.Audited audit) = audit_status audit
audited_status _ = status.Refused

-- the text comes to something of that status as one that is to hold a trace, whose line is due
pub record AuditCauses (state : Status) (text : List ℕ) (closed : Option Closed) (due : List ℕ) : Type 0 where
  pub audited : AuditedText
  pub comes_to : TextComesTo text audited
  pub state_is : state ≡ audited_status audited
  pub line_is : due ≡ audited_line audited
  pub no_run : closed ≡ None
