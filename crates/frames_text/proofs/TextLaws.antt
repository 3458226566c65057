-- Texts that are to hold a cluster file and packets.
use Rattle.std.proofs.Common.{codes, arith, ◌≡◌, ◌∙◌, inl, inr, ◌≤◌, ℕ, ◌+◌, true, List, length, take, drop, Option, Some, None, Result, Ok, Err, IfOk, count_by, refl, sym, ap, subst}
use Rattle.std.proofs.lemmas.List.{length-drop}
use Rattle.sprite_ids.proofs.ListLaws.{some_is}
use Rattle.sprite_ids.specs.declared.NoMemory.{NoMemory}
use Rattle.link_plan.specs.Counts.{Stay}
use Rattle.text_lines.specs.Lines.{lines_of}
use Rattle.text_lines.specs.Parts.{parted_at, parts_of, separator_from}
use Rattle.unix_calls.specs.declared.Description.{Description}
use Rattle.cluster_file.specs.declared.Refusal.{Refusal}
use Rattle.cluster_file.specs.Clusters.{Describes, Refuses}
use Rattle.parted_text.specs.Parted.{HasCluster, HasRefusal}
use Rattle.report_print.specs.Refused.{refusal_line}
use Rattle.wire_fragments.specs.Runs.{Cut}
use Rattle.frames_text.specs.declared.parcel.Parcel.{Parcel}
use Rattle.frames_text.specs.declared.answering.FramesAnswer.{FramesAnswer}
use Rattle.frames_text.specs.declared.answering.FramesAnswer.TheVariants.{Lines, Refused}
use Rattle.frames_text.specs.Parcels.{parcels_read}
use Rattle.frames_text.specs.Sending.{RoseBy, is_between}
use Rattle.frames_text.specs.Reports.{AreSent}
use Rattle.frames_text.specs.Texts.{Answers, BodyAnswers, HoldsPackets, IsTextRefusal}

-- ---- what is held isn't refused

some_none : {A : Type 0} (x : A) → Some x ≡ None → ⊥
some_none x e = absurd (cc)

described_once : (file : List ℕ) (c d : Description) → Describes file c → Describes file d → c ≡ d
described_once file c d one two = cc

not_both : (file : List ℕ) (c : Description) (r : Refusal) → Describes file c → Refuses file r → ⊥
not_both file c r describes refuses = absurd (cc)

not_bad : (kernels number : ℕ) (lines : List (List ℕ)) (parcels : List Parcel) → parcels_read kernels 1 lines ≡ Ok parcels → parcels_read kernels 1 lines ≡ Err number → ⊥
not_bad kernels number lines parcels are bad = absurd (cc)

-- a text has two parts in one way
record AreSame (file body other_file other_body : List ℕ) : Type 0 where
  files : file ≡ other_file
  bodies : body ≡ other_body

one_parting : (text file body other_file other_body : List ℕ) → parts_of text ≡ Some (file, body) → parts_of text ≡ Some (other_file, other_body) → AreSame file body other_file other_body
one_parting text file body other_file other_body one two =
    let same = some_is (file, body) (other_file, other_body) (sym one ∙ two) in
    record { files = ap (λ (p : List ℕ × List ℕ). p.0) same; bodies = ap (λ (p : List ℕ × List ℕ). p.1) same }

-- a text of packets isn't refused
pub held_not_refused : (text due : List ℕ) → HoldsPackets text → IsTextRefusal text due → ⊥
held_not_refused text due holds (inl none) = some_none (holds.has.file, holds.body) (sym holds.has.parts ∙ none.parts)
held_not_refused text due holds (inr (inl bad)) =
    let same = one_parting text holds.has.file holds.body bad.has.file bad.has.body holds.has.parts bad.has.parts in
    not_both bad.has.file holds.cluster bad.refusal (subst (λ (f : List ℕ). Describes f holds.cluster) same.files holds.has.describes) bad.has.refuses
held_not_refused text due holds (inr (inr bad)) =
    let same = one_parting text holds.has.file holds.body bad.has.file bad.body holds.has.parts bad.has.parts in
    let cluster = described_once bad.has.file holds.cluster bad.cluster (subst (λ (f : List ℕ). Describes f holds.cluster) same.files holds.has.describes) bad.has.describes in
    let are = subst (λ (c : Description). parcels_read (length c.kernels) 1 (lines_of holds.body) ≡ Ok holds.parcels) cluster holds.are_read in
    not_bad (length bad.cluster.kernels) bad.number (lines_of bad.body) holds.parcels (subst (λ (b : List ℕ). parcels_read (length bad.cluster.kernels) 1 (lines_of b) ≡ Ok holds.parcels) same.bodies are) bad.bad

-- ---- what is due

-- what stands behind the line isn't longer than the text
behind_by : (text file body : List ℕ) (o : Option ℕ) → parted_at text o ≡ Some (file, body) → length body ≤ length text
behind_by text file body None is = absurd (cc)
behind_by text file body (Some n) is =
    let same = some_is (take n text, drop (n + 6) text) (file, body) is in
    let long : length body ≡ length (drop (n + 6) text) = ap (λ (p : List ℕ × List ℕ). length p.1) (sym same) in
    let rest = length-drop (n + 6) text in
    omega (arith, long, rest)

pub body_short : (text : List ℕ) (cluster : Description) (body : List ℕ) → HasCluster text cluster body → length text ≤ 67108864 → length body ≤ 67108864
body_short text cluster body has short = (let less = behind_by text has.file body (separator_from 0 true text) has.parts in omega (arith, less, short))

by_answer : {L : Type 0} (faults asked : L → ℕ → ℕ → ℕ) (before after : L) (text : List ℕ) (cluster : Description) (body : List ℕ) (answer : FramesAnswer) → HasCluster text cluster body → BodyAnswers faults asked before after (length cluster.kernels) body answer → Answers faults asked before after text answer
by_answer faults asked before after text cluster body (Lines lines) has why =
    record { holds = record { cluster = cluster; body = body; has = has; parcels = why.0; are_read = why.1 }; sent = why.2 }
by_answer faults asked before after text cluster body (Refused line) has why =
    inr (inr (record { cluster = cluster; body = body; has = has; number = why.0; bad = why.1; line_is = why.2 }))

-- what is due for the packets of a cluster is due for the text
pub from_described : {L : Type 0} (faults asked : L → ℕ → ℕ → ℕ) (before after : L) (text : List ℕ) (cluster : Description) (body : List ℕ) (r : Result FramesAnswer NoMemory) → HasCluster text cluster body → IfOk r (BodyAnswers faults asked before after (length cluster.kernels) body) → IfOk r (Answers faults asked before after text)
from_described faults asked before after text cluster body (Ok answer) has why = by_answer faults asked before after text cluster body answer has why
from_described faults asked before after text cluster body (Err e) has why = why

-- and where there are no two parts
pub from_none : {L : Type 0} (faults asked : L → ℕ → ℕ → ℕ) (before after : L) (text : List ℕ) (r : Result FramesAnswer NoMemory) → parts_of text ≡ None → IfOk r (λ answer. answer ≡ Refused (codes "refused: 14\n")) → IfOk r (Answers faults asked before after text)
from_none faults asked before after text (Ok answer) none is = subst (Answers faults asked before after text) (sym is) (inl (record { parts = none; line_is = refl }))
from_none faults asked before after text (Err e) none is = is

-- and where the first is refused
pub from_refused : {L : Type 0} (faults asked : L → ℕ → ℕ → ℕ) (before after : L) (text : List ℕ) (refusal : Refusal) (r : Result FramesAnswer NoMemory) → HasRefusal text refusal → IfOk r (λ answer. answer ≡ Refused (refusal_line refusal)) → IfOk r (Answers faults asked before after text)
from_refused faults asked before after text refusal (Ok answer) has is = subst (Answers faults asked before after text) (sym is) (inr (inl (record { refusal = refusal; has = has; line_is = refl })))
from_refused faults asked before after text refusal (Err e) has is = is

-- a link that was loaded counts as it did
pub loaded_before : {L : Type 0} (faults asked : L → ℕ → ℕ → ℕ) (before loaded after : L) (cuts : List Cut) (lines : List ℕ) → Stay (faults before) (asked before) (faults loaded) (asked loaded) → AreSent faults asked loaded after cuts lines → AreSent faults asked before after cuts lines
loaded_before faults asked before loaded after cuts lines stay are = record {
  sent = are.sent;
  frames = are.frames;
  over = record {
    faulty = λ a b. (let same = stay.faults_stay a b in let more = are.over.faulty a b in omega (arith, same, more));
    often = λ a b first second. subst (λ (n : ℕ). RoseBy (count_by (is_between a b) are.sent) n (asked after a b)) (stay.asked_stay a b) (are.over.often a b first second);
  };
  answers = are.answers;
  gathered = are.gathered;
  all_given = are.all_given;
  lines_are = are.lines_are;
  lost = λ a b. (let same = stay.faults_stay a b in let more = are.lost a b in omega (arith, same, more));
}
