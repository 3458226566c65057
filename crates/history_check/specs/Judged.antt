-- What a text comes to that is to hold a cluster file and a history.
use Rattle.std.specs.Prelude.{◌≡◌, ℕ, ◌-◌, true, false, List, take, None}
use Rattle.unix_calls.specs.declared.description.Description.{Description}
use Rattle.unix_calls.specs.declared.entry.Entry.{Entry}
use Rattle.unix_calls.specs.After.{legal}
use Rattle.history_text.specs.Histories.{IsHistory, IsFirstBad}
use Rattle.one_kernel.specs.declared.verdict.Verdict.{Verdict}
use Rattle.one_kernel.specs.declared.verdict.Verdict.TheVariants as verdict
use Rattle.one_kernel.specs.Verdicts.{verdict_of}
use Rattle.history_check.specs.declared.judgement.Judgement.{Judgement}
use Rattle.history_check.specs.declared.judgement.Judgement.TheVariants as judgement
use Rattle.parted_text.specs.Parted.{HasRefusal, IsDescribed, most_instructions}
use Rattle.text_lines.specs.Parts.{parts_of}

-- what a verdict tells of a history
abbrev pub Tells : Verdict → Description → List Entry → Type 0
Tells verdict.Legal c entries = legal c entries ≡ true
Tells (verdict.NotLegal n) c entries = (legal c (take (n - 1) entries) ≡ true) × (legal c (take n entries) ≡ false)
Tells (verdict.Steps n) c entries = legal c (take (n - 1) entries) ≡ true

-- a body is a printed history of a cluster, and that is the verdict on it
pub record IsJudgedBody (cluster : Description) (body : List ℕ) (verdict : Verdict) : Type 0 where
  pub entries : List Entry
  pub reads : IsHistory body entries
  pub verdict_is : verdict ≡ verdict_of cluster most_instructions entries
  pub tells : Tells verdict cluster entries

-- what a body comes to for a described cluster: that line of it is the first that is no entry's, or it is judged so
abbrev pub BodyComesTo : Description → List ℕ → Judgement → Type 0
BodyComesTo cluster body (judgement.BadLine number) = IsFirstBad body number
BodyComesTo cluster body (judgement.Judged verdict) = IsJudgedBody cluster body verdict
BodyComesTo cluster body _ = ⊥

-- what a text comes to: it has no line `=====`, its cluster file has a refusal, or it describes a cluster, for which its body comes to that
abbrev pub ComesTo : List ℕ → Judgement → Type 0
ComesTo text judgement.NoHistory = parts_of text ≡ None
ComesTo text (judgement.Refused refusal) = HasRefusal text refusal
ComesTo text other = IsDescribed text (λ cluster body. BodyComesTo cluster body other)
