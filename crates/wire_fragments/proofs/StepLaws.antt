-- What a frame of a cut message does to it, and to the others.
use Rattle.std.proofs.Common.{◌≡◌, ◌≢◌, ◌≤◌, ◌<◌, ◌↔◌, ◌⊎◌, inl, inr, ℕ, zero, suc, ◌*◌, ◌==◌, Bool, true, false, not, cond, nat_le, List, [], ◌∷◌, length, replicate, slice_index_or, slice_set, Option, Some, None, refl, sym, ap, ◌∙◌, subst, arith, count_by, true≢false, eqb-true, eq-eqb, ne_eqb}
use Rattle.std.proofs.lemmas.Bool.{and_parts, eqb-false}
use Rattle.std.proofs.lemmas.List.{length-replicate, length-set, take_all}
use Rattle.indexmap.specs.IndexMap.{insert_entry}
use Rattle.wire_fragments.specs.declared.head.Head.{Head}
use Rattle.wire_fragments.specs.declared.head.MessageId.{MessageId}
use Rattle.wire_fragments.specs.declared.progress.Progress.{Progress}
use Rattle.wire_fragments.specs.declared.progress.Progress.TheVariants.{Given, InPart}
use Rattle.wire_fragments.specs.declared.gathered.Gathered.{Gathered}
use Rattle.wire_fragments.specs.declared.gathered.Gathered.TheVariants.{Known as IsKnown, Full as IsFull, Kept as IsKept}
use Rattle.wire_fragments.specs.declared.plan.Plan.{Plan}
use Rattle.wire_fragments.specs.declared.plan.Plan.TheVariants.{Known, Differs, Full, Alone, First, Next, Last}
use Rattle.wire_fragments.specs.Frames.{count_of, piece}
use Rattle.wire_fragments.specs.Pieces.{Pieces, empty_pieces, is_there, with_frame}
use Rattle.wire_fragments.specs.Gathering.{Gathering, is_message, count_kept, progress_of, pieces_at, plan_in, plan_by, plan_of, whole, answer_by, after_by}
use Rattle.wire_fragments.specs.Runs.{Cut, is_full, gives}
use Rattle.wire_fragments.proofs.FrameLaws.{Counted, counted}
use Rattle.wire_fragments.proofs.TableLaws.{itself, put_found, other_found}
use Rattle.wire_fragments.proofs.PieceLaws.{Holds, holds_none, holds_more, holds_all, all, all_is, one_less, all_at, none_there, none_counted, set_again}

-- how far a message has come, by which of its frames have
abbrev pub HasCome : Cut → List Bool → Option Progress → Type 0
HasCome c came None = came ≡ replicate (count_of (length c.message)) false
HasCome c came (Some Given) = all came ≡ true
HasCome c came (Some (InPart pieces)) = (pieces.came ≡ came) × (all came ≡ false) × Holds c.message came pieces.bytes

-- which frames have come behind one more
abbrev pub marked : Bool → List Bool → ℕ → List Bool
marked true came j = came
marked false came j = slice_set came j true

abbrev pub head_of_cut : Cut → ℕ → Head
head_of_cut c j = record { message = c.name; index = j; count = count_of (length c.message) }

-- frame j of a message comes, of which these had come
pub record Comes (g : Gathering) (c : Cut) (j : ℕ) (came : List Bool) (answer : Gathered) (next : Gathering) : Type 0 where
  pub far : HasCome c (marked (is_full answer) came j) (progress_of next.messages c.name)
  pub others : (name : MessageId) → is_message name c.name ≡ false → progress_of next.messages name ≡ progress_of g.messages name
  pub given : (answer ≡ whole c.name c.message) ↔ ((all (marked (is_full answer) came j) ≡ true) × (all came ≡ false))
  pub named : (name : MessageId) → gives name answer ≡ true → (is_message name c.name ≡ true) × (answer ≡ whole c.name c.message)
  pub fine : (answer ≡ IsKnown) ⊎ ((answer ≡ IsKept) ⊎ ((is_full answer ≡ true) ⊎ (answer ≡ whole c.name c.message)))

-- an answer that gives nothing, where the frames that have come are the same
quiet : (c : Cut) (came : List Bool) (answer : Gathered) → ((name : MessageId) → gives name answer ≡ false) → (answer ≡ whole c.name c.message) ↔ ((all came ≡ true) × (all came ≡ false))
quiet c came answer none = (λ e. absurd (true≢false (sym (ap (gives c.name) e ∙ itself c.name) ∙ none c.name)), λ both. absurd (true≢false (sym both.0 ∙ both.1)))

-- or where not all have
kept_back : (c : Cut) (came next : List Bool) (answer : Gathered) → ((name : MessageId) → gives name answer ≡ false) → all next ≡ false → (answer ≡ whole c.name c.message) ↔ ((all next ≡ true) × (all came ≡ false))
kept_back c came next answer none is = (λ e. absurd (true≢false (sym (ap (gives c.name) e ∙ itself c.name) ∙ none c.name)), λ both. absurd (true≢false (sym both.0 ∙ is)))

comes_known : (g : Gathering) (c : Cut) (j : ℕ) (came : List Bool) → HasCome c came (progress_of g.messages c.name) → slice_set came j true ≡ came → Comes g c j came IsKnown g
comes_known g c j came far same = record {
  far = subst (λ (xs : List Bool). HasCome c xs (progress_of g.messages c.name)) (sym same) far;
  others = λ name apart. refl;
  given = subst (λ (xs : List Bool). (IsKnown ≡ whole c.name c.message) ↔ ((all xs ≡ true) × (all came ≡ false))) (sym same) (quiet c came IsKnown (λ name. refl));
  named = λ name is. absurd (true≢false (sym is));
  fine = inl refl;
}

comes_full : (g : Gathering) (c : Cut) (j room : ℕ) (came : List Bool) → HasCome c came (progress_of g.messages c.name) → Comes g c j came (IsFull room) g
comes_full g c j room came far = record {
  far = far;
  others = λ name apart. refl;
  given = quiet c came (IsFull room) (λ name. refl);
  named = λ name is. absurd (true≢false (sym is));
  fine = inr (inr (inl refl));
}

-- a piece is kept
comes_kept : (g : Gathering) (c : Cut) (j : ℕ) (came : List Bool) (pieces : Pieces) → pieces.came ≡ came → Holds c.message came pieces.bytes → j < length came → 1488 * j ≤ length c.message → all (slice_set came j true) ≡ false
    → Comes g c j came IsKept (record g { messages = insert_entry is_message g.messages c.name (InPart (with_frame pieces j (piece c.message j))) })
comes_kept g c j came pieces same holds within most some = record {
  far = subst (HasCome c (slice_set came j true)) (sym (put_found c.name g.messages (InPart (with_frame pieces j (piece c.message j)))))
      (ap (λ (xs : List Bool). slice_set xs j true) same, some, holds_more c.message came pieces.bytes j holds within most);
  others = λ name apart. other_found c.name name g.messages (InPart (with_frame pieces j (piece c.message j))) apart;
  given = kept_back c came (slice_set came j true) IsKept (λ name. refl) some;
  named = λ name is. absurd (true≢false (sym is));
  fine = inr (inl refl);
}

-- the message is given
comes_whole : (g : Gathering) (c : Cut) (j : ℕ) (came : List Bool) (message : List ℕ) → message ≡ c.message → all (slice_set came j true) ≡ true → all came ≡ false
    → Comes g c j came (whole c.name message) (record g { messages = insert_entry is_message g.messages c.name Given })
comes_whole g c j came message same every some = record {
  far = subst (HasCome c (slice_set came j true)) (sym (put_found c.name g.messages Given)) every;
  others = λ name apart. other_found c.name name g.messages Given apart;
  given = (λ e. (every, some), λ both. ap (whole c.name) same);
  named = λ name is. (is, ap (whole c.name) same);
  fine = inr (inr (inr (ap (whole c.name) same)));
}

-- ---- by what becomes of the frame

abbrev pub ComesBy : Gathering → Cut → ℕ → List Bool → Plan → Type 0
ComesBy g c j came plan = Comes g c j came (answer_by g (head_of_cut c j) (piece c.message j) plan) (after_by g (head_of_cut c j) (piece c.message j) plan)

either : (g : Gathering) (c : Cut) (j : ℕ) (came : List Bool) (b : Bool) (p q : Plan) → (b ≡ true → ComesBy g c j came p) → (b ≡ false → ComesBy g c j came q) → ComesBy g c j came (cond b p q)
either g c j came true p q h k = h refl
either g c j came false p q h k = k refl

-- the start of a piece isn't behind the message
start_within : (long n j : ℕ) → Counted long n → j < n → 1488 * j ≤ long
start_within long n j facts less = by_none (long == 0) refl
  where
    by_none : (b : Bool) → (long == 0) ≡ b → 1488 * j ≤ long
    by_none true e = let one = facts.none (eqb-true long 0 e) in omega (arith, one, less)
    by_none false e = let filled = facts.full (eqb-false long 0 e) in omega (arith, filled, less)

-- a message of one frame is its piece
only_piece : (message : List ℕ) (j : ℕ) → count_of (length message) ≡ 1 → j < count_of (length message) → piece message j ≡ message
only_piece message j one less =
    let facts = counted (length message) in
    let enough = facts.enough in
    let first : j ≡ 0 = omega (arith, one, less) in
    ap (piece message) first ∙ take_all 1488 message (omega (arith, enough, one))

comes_new : (g : Gathering) (c : Cut) (j : ℕ) (came : List Bool) → progress_of g.messages c.name ≡ None → came ≡ replicate (count_of (length c.message)) false → j < count_of (length c.message) → ComesBy g c j came (plan_by g (head_of_cut c j) None)
comes_new g c j came new none less =
    let n = count_of (length c.message) in
    let facts = counted (length c.message) in
    let within : j < length came = subst (λ (m : ℕ). j < m) (sym (ap length none ∙ length-replicate n false)) less in
    let missing : count_by not came ≡ n = ap (count_by not) none ∙ none_counted n in
    let others = one_less came j within (ap (λ (xs : List Bool). slice_index_or xs j false) none ∙ none_there n j) in
    either g c j came (n == 1) Alone (cond (nat_le g.room (count_kept g.messages)) Full First)
    (λ is.
    let one : n ≡ 1 = eqb-true n 1 is in
    let few : count_by not (slice_set came j true) ≡ 0 = omega (arith, others, missing, one) in
    let many : (count_by not came == 0) ≡ false = ne_eqb (count_by not came) 0 (λ e. absurd (omega (arith, e, missing, one))) in
    comes_whole g c j came (piece c.message j) (only_piece c.message j one less) (all_is (slice_set came j true) ∙ eq-eqb _ 0 few) (all_is came ∙ many))
    (λ is. either g c j came (nat_le g.room (count_kept g.messages)) Full First
    (λ full. comes_full g c j g.room came (subst (HasCome c came) (sym new) none))
    (λ free.
    let more : n ≢ 1 = eqb-false n 1 is in
    let some = facts.some in
    let left : (count_by not (slice_set came j true) == 0) ≡ false = ne_eqb (count_by not (slice_set came j true)) 0 (λ e. absurd (more (omega (arith, e, others, missing)))) in
    comes_kept g c j came (empty_pieces n) (sym none) (holds_none c.message came (λ i. ap (λ (xs : List Bool). slice_index_or xs i false) none ∙ none_there n i)) within (start_within (length c.message) n j facts less) (all_is (slice_set came j true) ∙ left)))

comes_further : (g : Gathering) (c : Cut) (j : ℕ) (came : List Bool) (pieces : Pieces) → progress_of g.messages c.name ≡ Some (InPart pieces) → length came ≡ count_of (length c.message) → HasCome c came (Some (InPart pieces)) → j < count_of (length c.message) → ComesBy g c j came (plan_in pieces (head_of_cut c j))
comes_further g c j came pieces found long has less =
    let n = count_of (length c.message) in
    let facts = counted (length c.message) in
    let enough = facts.enough in
    let same = has.0 in
    let within : j < length came = omega (arith, long, less) in
    let count : length pieces.came ≡ n = ap length same ∙ long in
    let begins = start_within (length c.message) n j facts less in
    either g c j came (is_there pieces j) Known (cond (not (length pieces.came == n)) (Differs (length pieces.came)) (cond (count_by not pieces.came == 1) Last Next))
    (λ is. comes_known g c j came (subst (HasCome c came) (sym found) has) (set_again came j (sym (ap (λ (xs : List Bool). slice_index_or xs j false) same) ∙ is)))
    (λ fresh. either g c j came (not (length pieces.came == n)) (Differs (length pieces.came)) (cond (count_by not pieces.came == 1) Last Next)
    (λ is. absurd (true≢false (sym is ∙ ap not (eq-eqb (length pieces.came) n count))))
    (λ is.
    let others = one_less came j within (sym (ap (λ (xs : List Bool). slice_index_or xs j false) same) ∙ fresh) in
    let missing : count_by not pieces.came ≡ count_by not came = ap (count_by not) same in
    either g c j came (count_by not pieces.came == 1) Last Next
    (λ last.
    let one = eqb-true (count_by not pieces.came) 1 last in
    let few : count_by not (slice_set came j true) ≡ 0 = omega (arith, others, missing, one) in
    let every : all (slice_set came j true) ≡ true = all_is (slice_set came j true) ∙ eq-eqb _ 0 few in
    let longer = length-set came j true in
    let joined : (with_frame pieces j (piece c.message j)).bytes ≡ c.message =
    holds_all c.message (slice_set came j true) (with_frame pieces j (piece c.message j)).bytes (holds_more c.message came pieces.bytes j has.2 within begins)
    (omega (arith, enough, long, longer)) (λ i few. all_at (slice_set came j true) every i few) in
    subst (λ (o : Option Progress). Comes g c j came (whole c.name (with_frame (pieces_at o) j (piece c.message j)).bytes) (record g { messages = insert_entry is_message g.messages c.name Given })) (sym found)
    (comes_whole g c j came (with_frame pieces j (piece c.message j)).bytes joined every has.1))
    (λ more.
    let two : count_by not pieces.came ≢ 1 = eqb-false (count_by not pieces.came) 1 more in
    let left : (count_by not (slice_set came j true) == 0) ≡ false = ne_eqb (count_by not (slice_set came j true)) 0 (λ e. absurd (two (omega (arith, e, others, missing)))) in
    subst (λ (o : Option Progress). Comes g c j came IsKept (record g { messages = insert_entry is_message g.messages c.name (InPart (with_frame (pieces_at o) j (piece c.message j))) })) (sym found)
    (comes_kept g c j came pieces same has.2 within begins (all_is (slice_set came j true) ∙ left)))))

set_all : (came : List Bool) (j : ℕ) → all came ≡ true → slice_set came j true ≡ came
set_all [] j e = refl
set_all (x ∷ xs) zero e = ap (λ (b : Bool). b ∷ xs) (sym (and_parts x (all xs) e).0)
set_all (x ∷ xs) (suc j) e = ap (λ (ys : List Bool). x ∷ ys) (set_all xs j (and_parts x (all xs) e).1)

comes_by : (g : Gathering) (c : Cut) (j : ℕ) (came : List Bool) (o : Option Progress) → progress_of g.messages c.name ≡ o → length came ≡ count_of (length c.message) → HasCome c came o → j < count_of (length c.message) → ComesBy g c j came (plan_by g (head_of_cut c j) o)
comes_by g c j came None found long has less = comes_new g c j came found has less
comes_by g c j came (Some Given) found long has less = comes_known g c j came (subst (HasCome c came) (sym found) has) (set_all came j has)
comes_by g c j came (Some (InPart pieces)) found long has less = comes_further g c j came pieces found long has less

-- frame j of a message comes
pub comes : (g : Gathering) (c : Cut) (j : ℕ) (came : List Bool) → length came ≡ count_of (length c.message) → HasCome c came (progress_of g.messages c.name) → j < count_of (length c.message) → ComesBy g c j came (plan_of g (head_of_cut c j))
comes g c j came long has less = comes_by g c j came (progress_of g.messages c.name) refl long has less
