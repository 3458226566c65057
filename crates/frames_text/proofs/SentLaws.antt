-- Packets that were sent in frames, and what is told of them.
use Rattle.std.proofs.Common.{arith, ◌≡◌, ◌≤◌, ◌∙◌, ℕ, Bool, ◌&&◌, not, cond, List, [], ◌∷◌, ◌++◌, length, map, count_by, refl, sym, ap, ap₂, subst}
use Rattle.std.specs.List.{IsAmong, AllByRecursion}
use Rattle.std.proofs.lemmas.List.Sums.{sum_by-cons}
use Rattle.link_plan.specs.Counts.{same_pair}
use Rattle.wire_fragments.specs.declared.MessageId.{MessageId}
use Rattle.wire_fragments.specs.declared.Gathered.{Gathered}
use Rattle.wire_fragments.specs.Runs.{AreAllGiven, AreCuts, AreGathered, Cut, IsFrameOf, all_sent, is_given}
use Rattle.frames_text.specs.declared.parcel.Parcel.{Parcel}
use Rattle.frames_text.specs.declared.sending.Sent.{Sent}
use Rattle.frames_text.specs.Parcels.{IsParcel, cuts_from}
use Rattle.frames_text.specs.Sending.{AreAsked, all_framed, arriving, frame_of}
use Rattle.frames_text.specs.Reports.{AreSent, has, is_lost, packet_line, report}
use Rattle.frames_text.proofs.CutLaws.{are_cuts, cuts_long}
use Rattle.frames_text.proofs.LostLaws.{among_here, among_there, arriving_of, few_missing}

count_alike : (p q : Cut → Bool) (cs : List Cut) → ((c : Cut) → IsAmong cs c → p c ≡ q c) → count_by p cs ≡ count_by q cs
count_alike p q [] h = refl
count_alike p q (c ∷ cs) h =
    let one = sum_by-cons (λ (d : Cut). cond {A = ℕ} (p d) 1 0) c cs in
    let two = sum_by-cons (λ (d : Cut). cond {A = ℕ} (q d) 1 0) c cs in
    let here : cond {A = ℕ} (p c) 1 0 ≡ cond {A = ℕ} (q c) 1 0 = ap (λ (b : Bool). cond {A = ℕ} b 1 0) (h c (among_here c cs)) in
    let there = count_alike p q cs (λ d is. h d (among_there c d cs is)) in
    omega (arith, one, two, here, there)

report_alike : (p q : MessageId → Bool) (cs : List Cut) → ((name : MessageId) → p name ≡ q name) → report p cs ≡ report q cs
report_alike p q [] h = refl
report_alike p q (c ∷ cs) h = ap₂ (λ (xs ys : List ℕ). xs ++ ys) (ap (packet_line c.name.id) (h c.name)) (report_alike p q cs h)

-- what the calls gave, as one
pub are_sent : {L : Type 0} (faults asked : L → ℕ → ℕ → ℕ) (before after : L) (ps : List Parcel) (sent : List Sent) (arrived : List (List ℕ)) (answers : List Gathered) (names : List MessageId) (lines : List ℕ) → AllByRecursion IsParcel ps → length ps ≤ 65535
    → map frame_of sent ≡ all_framed (cuts_from 1 ps) → AreAsked faults asked before after sent → arrived ≡ arriving sent
    → ((cuts : List Cut) → AreCuts cuts → AllByRecursion (IsFrameOf cuts) arrived → AreGathered cuts [] arrived answers)
    → ((cuts : List Cut) → AreCuts cuts → AllByRecursion (IsFrameOf cuts) arrived → length cuts ≤ 65535 → AreAllGiven cuts arrived answers)
    → ((name : MessageId) → has names name ≡ is_given answers name) → lines ≡ report (has names) (cuts_from 1 ps) → AreSent faults asked before after (cuts_from 1 ps) lines
are_sent faults asked before after ps sent arrived answers names lines are few frames over arrive gathered given named lines_are = record {
  sent = sent;
  frames = frames;
  over = over;
  answers = answers;
  gathered = subst (λ (xs : List (List ℕ)). AreGathered cuts [] xs answers) arrive (gathered cuts cut_so of);
  all_given = all;
  lines_are = lines_are ∙ report_alike (has names) (is_given answers) cuts named;
  lost = λ a b.
      (let same = count_alike (is_lost (is_given answers) a b) (λ c. same_pair a b c.name.from c.name.to && not (all_sent (arriving sent) c)) cuts
      (λ c among. ap (λ (x : Bool). same_pair a b c.name.from c.name.to && not x) (all.each c among)) in
      let missing = few_missing a b cuts sent frames in
      let counted = over.faulty a b in
      omega (arith, same, missing, counted));
}
  where
    cuts : List Cut
    cuts = cuts_from 1 ps

    cut_so : AreCuts cuts
    cut_so = are_cuts ps are few

    of : AllByRecursion (IsFrameOf cuts) arrived
    of = subst (AllByRecursion (IsFrameOf cuts)) (sym arrive) (arriving_of cuts sent frames)

    all : AreAllGiven cuts (arriving sent) answers
    all = subst (λ (xs : List (List ℕ)). AreAllGiven cuts xs answers) arrive (given cuts cut_so of (subst (λ (n : ℕ). n ≤ 65535) (sym (cuts_long 1 ps)) few))
