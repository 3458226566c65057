-- What the verdict on a history tells of it, and of the text that holds it.
use Rattle.std.proofs.Common.{◌≡◌, ℕ, List, sym}
use Rattle.unix_calls.specs.declared.description.Description.{Description}
use Rattle.unix_calls.specs.declared.entry.Entry.{Entry}
use Rattle.one_kernel.specs.declared.verdict.Verdict.{Verdict}
use Rattle.one_kernel.specs.declared.verdict.Verdict.TheVariants as verdict
use Rattle.one_kernel.specs.Verdicts.{verdict_of}
use Rattle.one_kernel.proofs.VerdictLaws.{legal_is_legal, not_legal_is_first, steps_are_behind_legal}
use Rattle.parted_text.specs.Parted.{HasCluster, most_instructions}
use Rattle.history_check.specs.declared.judgement.Judgement.{Judgement}
use Rattle.history_check.specs.declared.judgement.Judgement.TheVariants as judgements
use Rattle.history_check.specs.Judged.{BodyComesTo, ComesTo, Tells}

pub tells_of : (c : Description) (entries : List Entry) (v : Verdict) → v ≡ verdict_of c most_instructions entries → Tells v c entries
tells_of c entries verdict.Legal is = legal_is_legal c most_instructions entries (sym is)
tells_of c entries (verdict.NotLegal n) is = not_legal_is_first c most_instructions n entries (sym is)
tells_of c entries (verdict.Steps n) is = steps_are_behind_legal c most_instructions n entries (sym is)

-- what a body comes to, the text comes to of which it is the part behind a cluster file
pub text_comes_to : (text : List ℕ) (cluster : Description) (body : List ℕ) → HasCluster text cluster body → (judgement : Judgement) → BodyComesTo cluster body judgement → ComesTo text judgement
text_comes_to text cluster body has (judgements.BadLine number) comes = record { cluster = cluster; body = body; has = has; comes_to = comes }
text_comes_to text cluster body has (judgements.Judged came) comes = record { cluster = cluster; body = body; has = has; comes_to = comes }
text_comes_to text cluster body has judgements.NoHistory comes = absurd comes
text_comes_to text cluster body has (judgements.Refused refusal) comes = absurd comes
