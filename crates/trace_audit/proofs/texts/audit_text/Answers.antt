use Rattle.std.proofs.lemmas.Result.{IfOk-weaker}
use Rattle.cluster_file.proofs.LawfulLaws.{described_is_lawful}
use Rattle.trace_audit.specs.Texts.{BodyComesTo, TextComesTo}
use Rattle.trace_audit.proofs.TextLaws.{text_comes_to}
use Rattle.trace_audit.proofs.texts.audit_text.Goals as goal

pub audit_body-requires : goal.audit_body-requires
audit_body-requires c = described_is_lawful c.in-Ok.ensures.parts.file c.in-Ok.cluster c.in-Ok.ensures.parts.describes

pub returns-in-Ok : goal.returns-in-Ok
returns-in-Ok c =
    let text = c.args.text.now in
    let cluster = c.in-Ok.cluster in
    let body = c.in-Ok.body.now in
    IfOk-weaker c.audit_body.result (BodyComesTo cluster body) (TextComesTo text) (text_comes_to text cluster body c.in-Ok.ensures.parts) c.audit_body.ensures
