-- What taking a frame owes.
use Rattle.std.proofs.Common.{◌≡◌, ◌≤◌, ◌<◌, ℕ, ◌+◌, ◌-◌, List, [], ◌∷◌, ◌++◌, length, drop, slice_index_or, Some, Result, Ok, Err, OnOk, OnErr, sym, ap, ◌∙◌, arith}
use Rattle.std.proofs.lemmas.List.{append_assoc, at_drop_more}
use Rattle.indexmap.specs.IndexMap.{insert_entry}
use Rattle.wire_fragments.specs.declared.head.Head.{Head}
use Rattle.wire_fragments.specs.declared.progress.Progress.TheVariants.{Given, InPart}
use Rattle.wire_fragments.specs.declared.gathered.Gathered.{Gathered}
use Rattle.wire_fragments.specs.declared.plan.Plan.{Plan}
use Rattle.wire_fragments.specs.declared.plan.Plan.TheVariants.{Alone, First, Next, Last}
use Rattle.wire_fragments.specs.Frames.{head_of, piece_in}
use Rattle.wire_fragments.specs.Pieces.{Pieces}
use Rattle.wire_fragments.specs.Gathering.{Gathering, Messages, is_message, count_kept, plan_of, answer_by, answer_head, answer_to, after_by, after_head, after, answers_from}
use Rattle.wire_fragments.proofs.PlanLaws.{tells, count_new, count_put}

-- ---- how many messages are kept in part

seen : (g now : Gathering) (head : Head) (plan : Plan) → g ≡ now → plan ≡ plan_of now head → plan ≡ plan_of g head
seen g now head plan v p = p ∙ ap (λ (x : Gathering). plan_of x head) (sym v)

pub alone_counts : {A B : Type 0} (r : Result A B) (g now : Gathering) (head : Head) (n : ℕ) (next : Messages) → g ≡ now → Alone ≡ plan_of now head → head.index < head.count → n ≡ count_kept g.messages → OnOk r (next ≡ insert_entry is_message g.messages head.message Given) → OnErr r (next ≡ g.messages) → n ≡ count_kept next
alone_counts (Ok a) g now head n next v p less e went failed =
    let told = tells g head Alone (seen g now head Alone v p) less in
    let more : count_kept (insert_entry is_message g.messages head.message Given) ≡ count_kept g.messages + 0 = count_new head.message g.messages Given told.none in
    let same = ap count_kept went in
    omega (arith, e, more, same)
alone_counts (Err b) g now head n next v p less e went failed = e ∙ ap count_kept (sym failed)

pub first_counts : (g now : Gathering) (head : Head) (n : ℕ) (pieces : Pieces) (next : Messages) → g ≡ now → First ≡ plan_of now head → head.index < head.count → n ≡ count_kept g.messages → next ≡ insert_entry is_message g.messages head.message (InPart pieces) → n + 1 ≡ count_kept next
first_counts g now head n pieces next v p less e went =
    let told = tells g head First (seen g now head First v p) less in
    let more : count_kept (insert_entry is_message g.messages head.message (InPart pieces)) ≡ count_kept g.messages + 1 = count_new head.message g.messages (InPart pieces) told.0.none in
    let same = ap count_kept went in
    omega (arith, e, more, same)

pub next_counts : (g now : Gathering) (head : Head) (n : ℕ) (pieces : Pieces) (next : Messages) → g ≡ now → Next ≡ plan_of now head → head.index < head.count → n ≡ count_kept g.messages → next ≡ insert_entry is_message g.messages head.message (InPart pieces) → n ≡ count_kept next
next_counts g now head n pieces next v p less e went =
    let told = tells g head Next (seen g now head Next v p) less in
    let more : count_kept (insert_entry is_message g.messages head.message (InPart pieces)) + 1 ≡ count_kept g.messages + 1 = count_put head.message g.messages (InPart told.pieces) (InPart pieces) told.kept in
    let same = ap count_kept went in
    omega (arith, e, more, same)

less_by_one : (g now : Gathering) (head : Head) → g ≡ now → Last ≡ plan_of now head → head.index < head.count → count_kept (insert_entry is_message g.messages head.message Given) + 1 ≡ count_kept g.messages + 0
less_by_one g now head v p less =
    let told = tells g head Last (seen g now head Last v p) less in
    count_put head.message g.messages (InPart told.pieces) Given told.kept

pub last_some : (g now : Gathering) (head : Head) (n : ℕ) → g ≡ now → Last ≡ plan_of now head → head.index < head.count → n ≡ count_kept g.messages → 1 ≤ n
last_some g now head n v p less e = let fewer = less_by_one g now head v p less in omega (arith, e, fewer)

pub last_counts : (g now : Gathering) (head : Head) (n : ℕ) (next : Messages) → g ≡ now → Last ≡ plan_of now head → head.index < head.count → n ≡ count_kept g.messages → next ≡ insert_entry is_message g.messages head.message Given → n - 1 ≡ count_kept next
last_counts g now head n next v p less e went =
    let fewer = less_by_one g now head v p less in
    let same = ap count_kept went in
    omega (arith, e, fewer, same)

-- ---- what is answered, and what changes

pub after_is : (g now : Gathering) (head : Head) (frame piece : List ℕ) (plan : Plan) → g ≡ now → Some head ≡ head_of frame → plan ≡ plan_of now head → piece ≡ piece_in frame → after_by g head piece plan ≡ after now frame
after_is g now head frame piece plan v read p same =
    ap (λ (xs : List ℕ). after_by g head xs plan) same ∙ ap (after_by g head (piece_in frame)) (seen g now head plan v p) ∙ ap (after_head g frame) read ∙ ap (λ (x : Gathering). after x frame) v

pub answer_is : (g now : Gathering) (head : Head) (frame piece : List ℕ) (plan : Plan) → g ≡ now → Some head ≡ head_of frame → plan ≡ plan_of now head → piece ≡ piece_in frame → answer_by g head piece plan ≡ answer_to now frame
answer_is g now head frame piece plan v read p same =
    ap (λ (xs : List ℕ). answer_by g head xs plan) same ∙ ap (answer_by g head (piece_in frame)) (seen g now head plan v p) ∙ ap (answer_head g frame) read ∙ ap (λ (x : Gathering). answer_to x frame) v

-- ---- one answer more

pub answers_more : (all done next : List Gathered) (g later : Gathering) (frames : List (List ℕ)) (i : ℕ) (frame part : List ℕ) (answer : Gathered) → done ++ answers_from g (drop i frames) ≡ all → i < length frames → frame ≡ slice_index_or frames i frame → part ≡ frame → answer ≡ answer_to g part → later ≡ after g part → next ≡ done ++ answer ∷ []
    → next ++ answers_from later (drop (i + 1) frames) ≡ all
answers_more all done next g later frames i frame part answer e less item p a l n =
    let rest = answers_from later (drop (i + 1) frames) in
    let one : answer ≡ answer_to g (slice_index_or frames i frame) = a ∙ ap (answer_to g) (p ∙ item) in
    let two : later ≡ after g (slice_index_or frames i frame) = l ∙ ap (after g) (p ∙ item) in
    ap (λ (xs : List Gathered). xs ++ rest) n ∙ append_assoc done (answer ∷ []) rest
    ∙ ap (λ (x : Gathered). done ++ x ∷ rest) one
    ∙ ap (λ (x : Gathering). done ++ answer_to g (slice_index_or frames i frame) ∷ answers_from x (drop (i + 1) frames)) two
    ∙ sym (ap (λ (xs : List Gathered). done ++ xs) (at_drop_more (answers_from g) frames i frame less)) ∙ e
