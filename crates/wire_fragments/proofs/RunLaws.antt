-- Messages whose frames come in any order are gathered.
use Rattle.std.proofs.Common.{◌≡◌, ◌↔◌, ◌⊎◌, inl, inr, ℕ, zero, suc, ◌==◌, Bool, true, false, ◌&&◌, ◌||◌, not, List, [], ◌∷◌, length, map, replicate, slice_get, slice_set, Some, refl, sym, ap, ap₂, ◌∙◌, subst, arith, true≢false, eqb-true, eq-eqb}
use Rattle.std.proofs.lemmas.Bool.{and_parts, and_from, and_right, or_cases, or_right, false_from_ne_true}
use Rattle.std.proofs.lemmas.List.{length-map}
use Rattle.std.proofs.lemmas.List.Folds.{list_all-map}
use Rattle.std.proofs.lemmas.Option.{slice_get_read}
use Rattle.std.specs.List.{list_all, IsAmong, AllByRecursion}
use Rattle.std.specs.Cmp.Lexicographic.{pointwise}
use Rattle.sprite_ids.proofs.ListLaws.{some_is}
use Rattle.wire_fragments.specs.declared.head.Head.{Head}
use Rattle.wire_fragments.specs.declared.gathered.Gathered.{Gathered}
use Rattle.wire_fragments.specs.declared.gathered.Gathered.TheVariants.{Bad as IsBad, Known as IsKnown, Differs as IsOther, Full as IsFull, Whole, Kept as IsKept}
use Rattle.wire_fragments.specs.Frames.{count_of, piece, piece_in, head_of}
use Rattle.wire_fragments.specs.Gathering.{Gathering, is_message, empty_gather, progress_of, plan_of, whole, answer_by, answer_head, answer_to, after_by, after_head, after, answers_from}
use Rattle.wire_fragments.specs.Runs.{Cut, IsCut, AreCuts, frames_of, IsFrameOf, Told, is_full, came_with, has_come, all_came, gives, was_given, IsOfCuts, IsGathered, AreGathered}
use Rattle.wire_fragments.proofs.FrameLaws.{frame_at, cut_long, read_again, cut_fits}
use Rattle.wire_fragments.proofs.TableLaws.{same_message, itself}
use Rattle.wire_fragments.proofs.PieceLaws.{all}
use Rattle.wire_fragments.proofs.StepLaws.{HasCome, marked, head_of_cut, Comes, comes}

-- ---- equal bytes

same_bytes : (xs ys : List ℕ) → pointwise (λ a b. a == b) xs ys ≡ true → xs ≡ ys
same_bytes [] [] e = refl
same_bytes [] (y ∷ ys) e = absurd (true≢false (sym e))
same_bytes (x ∷ xs) [] e = absurd (true≢false (sym e))
same_bytes (x ∷ xs) (y ∷ ys) e =
    let both = and_parts (x == y) (pointwise (λ a b. a == b) xs ys) e in
    ap₂ (λ (n : ℕ) (ns : List ℕ). n ∷ ns) (eqb-true x y both.0) (same_bytes xs ys both.1)

pub bytes_same : (xs : List ℕ) → pointwise (λ a b. a == b) xs xs ≡ true
bytes_same [] = refl
bytes_same (x ∷ xs) = and_from (x == x) (pointwise (λ a b. a == b) xs xs) (eq-eqb x x refl) (bytes_same xs)

apart_bytes : (xs ys : List ℕ) → (xs ≡ ys → ⊥) → pointwise (λ a b. a == b) xs ys ≡ false
apart_bytes xs ys other = false_from_ne_true (pointwise (λ a b. a == b) xs ys) (λ e. other (same_bytes xs ys e))

-- ---- which frames of a message have come

-- of each frame whether it has come
abbrev pub came_of : Cut → List Told → List Bool
came_of c before = map (has_come before) (frames_of c)

came_long : (c : Cut) (before : List Told) → length (came_of c before) ≡ count_of (length c.message)
came_long c before = length-map (frames_of c) (has_come before) ∙ cut_long c.name c.message

pub all_same : (c : Cut) (before : List Told) → all_came before c ≡ all (came_of c before)
all_same c before = sym (list_all-map (λ (b : Bool). b) (has_come before) (frames_of c))

map_same : (p q : List ℕ → Bool) (xs : List (List ℕ)) → ((k : ℕ) (x : List ℕ) → slice_get xs k ≡ Some x → q x ≡ p x) → map q xs ≡ map p xs
map_same p q [] h = refl
map_same p q (x ∷ xs) h = ap₂ (λ (b : Bool) (bs : List Bool). b ∷ bs) (h 0 x refl) (map_same p q xs (λ k y e. h (suc k) y e))

map_one : (p q : List ℕ → Bool) (xs : List (List ℕ)) (j : ℕ) (one : List ℕ) → slice_get xs j ≡ Some one → q one ≡ true → ((k : ℕ) (x : List ℕ) → slice_get xs k ≡ Some x → (k ≡ j → ⊥) → q x ≡ p x) → map q xs ≡ slice_set (map p xs) j true
map_one p q [] j one found is h = absurd (cc)
map_one p q (x ∷ xs) zero one found is h =
    ap₂ (λ (b : Bool) (bs : List Bool). b ∷ bs) (ap q (some_is x one found) ∙ is) (map_same p q xs (λ k y e. h (suc k) y e (λ it. absurd (omega (arith, it)))))
map_one p q (x ∷ xs) (suc j) one found is h =
    ap₂ (λ (b : Bool) (bs : List Bool). b ∷ bs) (h 0 x refl (λ it. absurd (omega (arith, it)))) (map_one p q xs j one found is (λ k y e other. h (suc k) y e (λ it. other (omega (arith, it)))))

-- a frame that isn't this one
not_it : (before : List Told) (frame x : List ℕ) (answer : Gathered) → (frame ≡ x → ⊥) → has_come ((frame, answer) ∷ before) x ≡ has_come before x
not_it before frame x answer other = ap (λ b. b || has_come before x) (ap (λ b. b && not (is_full answer)) (apart_bytes frame x other))

full_same : (c : Cut) (before : List Told) (frame : List ℕ) (answer : Gathered) → is_full answer ≡ true → came_of c ((frame, answer) ∷ before) ≡ came_of c before
full_same c before frame answer full = map_same (has_come before) (has_come ((frame, answer) ∷ before)) (frames_of c)
    (λ k x e. ap (λ b. b || has_come before x) (and_right (pointwise (λ a b. a == b) frame x) (not (is_full answer)) (ap not full)))

-- no two frames of cut messages are the same but by name and place
told_apart : (c d : Cut) (j k : ℕ) (x y : List ℕ) → IsCut c → IsCut d → slice_get (frames_of c) j ≡ Some x → slice_get (frames_of d) k ≡ Some y → x ≡ y → (c.name ≡ d.name) × (j ≡ k)
told_apart c d j k x y cut other e f same =
    let one = frame_at c.name c.message j x e in
    let two = frame_at d.name d.message k y f in
    let first = ap head_of one.1 ∙ read_again (head_of_cut c j) (piece c.message j) (cut_fits c j cut one.0) in
    let second = ap head_of two.1 ∙ read_again (head_of_cut d k) (piece d.message k) (cut_fits d k other two.0) in
    let heads = some_is (head_of_cut c j) (head_of_cut d k) (sym first ∙ ap head_of same ∙ second) in
    (ap (λ (h : Head). h.message) heads, ap (λ (h : Head). h.index) heads)

-- which have come of the message whose frame it is
own_by : (c : Cut) (before : List Told) (j : ℕ) (frame : List ℕ) (answer : Gathered) (b : Bool) → is_full answer ≡ b → IsCut c → slice_get (frames_of c) j ≡ Some frame → came_of c ((frame, answer) ∷ before) ≡ marked b (came_of c before) j
own_by c before j frame answer true full cut at = full_same c before frame answer full
own_by c before j frame answer false full cut at = map_one (has_come before) (has_come ((frame, answer) ∷ before)) (frames_of c) j frame at
    (ap (λ b. b || has_come before frame) (and_from (pointwise (λ a b. a == b) frame frame) (not (is_full answer)) (bytes_same frame) (ap not full)))
    (λ k x e other. not_it before frame x answer (λ same. other (sym (told_apart c c j k frame x cut cut at e same).1)))

own : (c : Cut) (before : List Told) (j : ℕ) (frame : List ℕ) (answer : Gathered) → IsCut c → slice_get (frames_of c) j ≡ Some frame → came_of c ((frame, answer) ∷ before) ≡ marked (is_full answer) (came_of c before) j
own c before j frame answer cut at = own_by c before j frame answer (is_full answer) refl cut at

-- and of any other
of_other : (c d : Cut) (before : List Told) (j : ℕ) (frame : List ℕ) (answer : Gathered) → IsCut c → IsCut d → is_message d.name c.name ≡ false → slice_get (frames_of c) j ≡ Some frame → came_of d ((frame, answer) ∷ before) ≡ came_of d before
of_other c d before j frame answer cut other apart at = map_same (has_come before) (has_come ((frame, answer) ∷ before)) (frames_of d)
    (λ k x e. not_it before frame x answer (λ same. absurd (true≢false (sym (ap (λ n. is_message n c.name) (sym (told_apart c d j k frame x cut other at e same).0) ∙ itself c.name) ∙ apart))))

-- what has come stays so
pub come_stays : (before : List Told) (t : Told) (xs : List (List ℕ)) → list_all (has_come before) xs ≡ true → list_all (has_come (t ∷ before)) xs ≡ true
come_stays before t [] e = refl
come_stays before t (x ∷ xs) e =
    let both = and_parts (has_come before x) (list_all (has_come before) xs) e in
    and_from (has_come (t ∷ before) x) (list_all (has_come (t ∷ before)) xs) (or_right (came_with x t) (has_come before x) both.0) (come_stays before t xs both.1)

-- ---- a run

-- what is kept is what has come, and only what has come is given
pub record Stands (cuts : List Cut) (before : List Told) (g : Gathering) : Type 0 where
  pub far : (c : Cut) → IsAmong cuts c → HasCome c (came_of c before) (progress_of g.messages c.name)
  pub given : (c : Cut) → IsAmong cuts c → was_given before c.name ≡ true → all_came before c ≡ true

-- one frame
pub record Turns (cuts : List Cut) (before : List Told) (frame : List ℕ) (answer : Gathered) (next : Gathering) : Type 0 where
  pub gathered : IsGathered cuts before frame answer
  pub stands : Stands cuts ((frame, answer) ∷ before) next

of_cuts_by : (cuts : List Cut) (c : Cut) (answer : Gathered) → IsAmong cuts c → (answer ≡ IsKnown) ⊎ ((answer ≡ IsKept) ⊎ ((is_full answer ≡ true) ⊎ (answer ≡ whole c.name c.message))) → IsOfCuts cuts answer
of_cuts_by cuts c answer among (inl e) = subst (IsOfCuts cuts) (sym e) tt
of_cuts_by cuts c answer among (inr (inl e)) = subst (IsOfCuts cuts) (sym e) tt
of_cuts_by cuts c (IsFull room) among (inr (inr (inl e))) = tt
of_cuts_by cuts c IsBad among (inr (inr (inl e))) = absurd (true≢false (sym e))
of_cuts_by cuts c IsKnown among (inr (inr (inl e))) = tt
of_cuts_by cuts c (IsOther kept came) among (inr (inr (inl e))) = absurd (true≢false (sym e))
of_cuts_by cuts c (Whole from to id message) among (inr (inr (inl e))) = absurd (true≢false (sym e))
of_cuts_by cuts c IsKept among (inr (inr (inl e))) = tt
of_cuts_by cuts c answer among (inr (inr (inr e))) = subst (IsOfCuts cuts) (sym e) (c, among, refl)

turns : (cuts : List Cut) → AreCuts cuts → (before : List Told) (g next : Gathering) (c : Cut) (j : ℕ) (frame : List ℕ) (answer : Gathered) → IsAmong cuts c → slice_get (frames_of c) j ≡ Some frame → Stands cuts before g → Comes g c j (came_of c before) answer next → Turns cuts before frame answer next
turns cuts are before g next c j frame answer among at s step = record {
  gathered = record {
    of_cuts = of_cuts_by cuts c answer among step.fine;
    at_last = last;
    once = λ d in_cuts e. false_from_ne_true (was_given before d.name) (λ was. absurd (true≢false (sym (s.given d in_cuts was) ∙ ((last d in_cuts).0 e).1)));
  };
  stands = record { far = λ d in_cuts. far_by d in_cuts (is_message d.name c.name) refl; given = given_after };
}
  where
    after_own : came_of c ((frame, answer) ∷ before) ≡ marked (is_full answer) (came_of c before) j
    after_own = own c before j frame answer (are.each c among) at

    it_is : (d : Cut) → IsAmong cuts d → is_message d.name c.name ≡ true → c ≡ d
    it_is d in_cuts e = are.names c d among in_cuts (sym (same_message d.name c.name e))

    last_own : (answer ≡ whole c.name c.message) ↔ ((all_came ((frame, answer) ∷ before) c ≡ true) × (all_came before c ≡ false))
    last_own =
        let now = all_same c ((frame, answer) ∷ before) ∙ ap all after_own in
        let was = all_same c before in
        (λ e. (now ∙ (step.given.0 e).0, was ∙ (step.given.0 e).1), λ both. step.given.1 (sym now ∙ both.0, sym was ∙ both.1))

    last_by : (d : Cut) → IsAmong cuts d → (b : Bool) → is_message d.name c.name ≡ b → (answer ≡ whole d.name d.message) ↔ ((all_came ((frame, answer) ∷ before) d ≡ true) × (all_came before d ≡ false))
    last_by d in_cuts true e = subst (λ (x : Cut). (answer ≡ whole x.name x.message) ↔ ((all_came ((frame, answer) ∷ before) x ≡ true) × (all_came before x ≡ false))) (it_is d in_cuts e) last_own
    last_by d in_cuts false e =
        let same = all_same d ((frame, answer) ∷ before) ∙ ap all (of_other c d before j frame answer (are.each c among) (are.each d in_cuts) e at) ∙ sym (all_same d before) in
        (λ is. absurd (true≢false (sym (step.named d.name (ap (gives d.name) is ∙ itself d.name)).0 ∙ e)), λ both. absurd (true≢false (sym both.0 ∙ same ∙ both.1)))

    last : (d : Cut) → IsAmong cuts d → (answer ≡ whole d.name d.message) ↔ ((all_came ((frame, answer) ∷ before) d ≡ true) × (all_came before d ≡ false))
    last d in_cuts = last_by d in_cuts (is_message d.name c.name) refl

    far_own : HasCome c (came_of c ((frame, answer) ∷ before)) (progress_of next.messages c.name)
    far_own = subst (λ (xs : List Bool). HasCome c xs (progress_of next.messages c.name)) (sym after_own) step.far

    far_by : (d : Cut) → IsAmong cuts d → (b : Bool) → is_message d.name c.name ≡ b → HasCome d (came_of d ((frame, answer) ∷ before)) (progress_of next.messages d.name)
    far_by d in_cuts true e = subst (λ (x : Cut). HasCome x (came_of x ((frame, answer) ∷ before)) (progress_of next.messages x.name)) (it_is d in_cuts e) far_own
    far_by d in_cuts false e =
        subst (λ (xs : List Bool). HasCome d xs (progress_of next.messages d.name)) (sym (of_other c d before j frame answer (are.each c among) (are.each d in_cuts) e at))
        (subst (HasCome d (came_of d before)) (sym (step.others d.name e)) (s.far d in_cuts))

    given_by : (d : Cut) → IsAmong cuts d → (gives d.name answer ≡ true) ⊎ (was_given before d.name ≡ true) → all_came ((frame, answer) ∷ before) d ≡ true
    given_by d in_cuts (inl e) =
        let it = step.named d.name e in
        subst (λ (x : Cut). all_came ((frame, answer) ∷ before) x ≡ true) (it_is d in_cuts it.0) (last_own.0 it.1).0
    given_by d in_cuts (inr e) = come_stays before (frame, answer) (frames_of d) (s.given d in_cuts e)

    given_after : (d : Cut) → IsAmong cuts d → was_given ((frame, answer) ∷ before) d.name ≡ true → all_came ((frame, answer) ∷ before) d ≡ true
    given_after d in_cuts e = given_by d in_cuts (or_cases (gives d.name answer) (was_given before d.name) e)

pub among_got : (xs : List (List ℕ)) (x : List ℕ) → IsAmong xs x → (i : ℕ) × (slice_get xs i ≡ Some x)
among_got xs x is = (is.0, slice_get_read xs (length xs) is.0 x refl is.1.0 is.1.1)

-- a frame that is spelled
turns_spelled : (cuts : List Cut) → AreCuts cuts → (before : List Told) (g : Gathering) (c : Cut) (j : ℕ) (bytes : List ℕ) → IsAmong cuts c → slice_get (frames_of c) j ≡ Some bytes → Stands cuts before g → Turns cuts before bytes (answer_to g bytes) (after g bytes)
turns_spelled cuts are before g c j bytes among at s =
    let found = frame_at c.name c.message j bytes at in
    let read = ap head_of found.1 ∙ read_again (head_of_cut c j) (piece c.message j) (cut_fits c j (are.each c among) found.0) in
    let part : piece_in bytes ≡ piece c.message j = ap piece_in found.1 in
    let answer : answer_to g bytes ≡ answer_by g (head_of_cut c j) (piece c.message j) (plan_of g (head_of_cut c j)) =
    ap (answer_head g bytes) read ∙ ap (λ p. answer_by g (head_of_cut c j) p (plan_of g (head_of_cut c j))) part in
    let next : after g bytes ≡ after_by g (head_of_cut c j) (piece c.message j) (plan_of g (head_of_cut c j)) =
    ap (after_head g bytes) read ∙ ap (λ p. after_by g (head_of_cut c j) p (plan_of g (head_of_cut c j))) part in
    let step = comes g c j (came_of c before) (came_long c before) (s.far c among) found.0 in
    subst (λ (a : Gathered). Turns cuts before bytes a (after g bytes)) (sym answer)
    (subst (Turns cuts before bytes (answer_by g (head_of_cut c j) (piece c.message j) (plan_of g (head_of_cut c j)))) (sym next)
    (turns cuts are before g _ c j bytes _ among at s step))

one_turn : (cuts : List Cut) → AreCuts cuts → (before : List Told) (g : Gathering) (bytes : List ℕ) → IsFrameOf cuts bytes → Stands cuts before g → Turns cuts before bytes (answer_to g bytes) (after g bytes)
one_turn cuts are before g bytes of s =
    let at = among_got (frames_of of.0) bytes of.2 in
    turns_spelled cuts are before g of.0 at.0 bytes of.1 at.1 s

gathered_from : (cuts : List Cut) → AreCuts cuts → (before : List Told) (g : Gathering) (frames : List (List ℕ)) → Stands cuts before g → AllByRecursion (IsFrameOf cuts) frames → AreGathered cuts before frames (answers_from g frames)
gathered_from cuts are before g [] s of = tt
gathered_from cuts are before g (f ∷ fs) s of =
    let one = one_turn cuts are before g f of.0 s in
    (one.gathered, gathered_from cuts are ((f, answer_to g f) ∷ before) (after g f) fs one.stands of.1)

pub none_came : (xs : List (List ℕ)) → map (has_come []) xs ≡ replicate (length xs) false
none_came [] = refl
none_came (x ∷ xs) = ap (λ (bs : List Bool). false ∷ bs) (none_came xs)

-- from nothing on
pub all_gathered : (room : ℕ) (frames : List (List ℕ)) (cuts : List Cut) → AreCuts cuts → AllByRecursion (IsFrameOf cuts) frames → AreGathered cuts [] frames (answers_from (empty_gather room) frames)
all_gathered room frames cuts are of = gathered_from cuts are [] (empty_gather room) frames
    (record {
      far = λ c among. none_came (frames_of c) ∙ ap (λ n. replicate n false) (cut_long c.name c.message);
      given = λ c among e. absurd (true≢false (sym e));
    }) of

-- and where these are the answers
pub gathered_of : (room : ℕ) (frames : List (List ℕ)) (answers : List Gathered) → answers ≡ answers_from (empty_gather room) frames → (cuts : List Cut) → AreCuts cuts → AllByRecursion (IsFrameOf cuts) frames → AreGathered cuts [] frames answers
gathered_of room frames answers is cuts are of = subst (AreGathered cuts [] frames) (sym is) (all_gathered room frames cuts are of)
