use Rattle.std.proofs.lemmas.Result.{IfOk-weaker}
use Rattle.cluster_file.proofs.LawfulLaws.{described_is_lawful}
use Rattle.history_check.specs.Judged.{BodyComesTo, ComesTo}
use Rattle.history_check.proofs.VerdictLaws.{text_comes_to}
use Rattle.history_check.proofs.judging.judge.Goals as goal

pub judge_body-requires : goal.judge_body-requires
judge_body-requires c = described_is_lawful c.in-Ok.ensures.parts.file c.in-Ok.cluster c.in-Ok.ensures.parts.describes

pub returns-in-Ok : goal.returns-in-Ok
returns-in-Ok c =
    let text = c.args.text.now in
    let cluster = c.in-Ok.cluster in
    let body = c.in-Ok.body.now in
    IfOk-weaker c.judge_body.result (BodyComesTo cluster body) (ComesTo text) (text_comes_to text cluster body c.in-Ok.ensures.parts) c.judge_body.ensures
