-- A packet that isn't given has a frame that was lost.
use Rattle.std.proofs.Common.{arith, ◌≡◌, ◌≤◌, ◌∙◌, ℕ, suc, ◌+◌, ◌==◌, Bool, true, false, ◌&&◌, ◌||◌, not, cond, List, [], ◌∷◌, ◌++◌, map, count_by, refl, sym, ap, ap₂, subst, true≢false}
use Rattle.std.specs.List.{list_all, IsAmong, AllByRecursion}
use Rattle.std.specs.Cmp.Lexicographic.{pointwise}
use Rattle.std.proofs.lemmas.Bool.{or_right}
use Rattle.std.proofs.lemmas.List.Folds.{list_any-append}
use Rattle.std.proofs.lemmas.List.Sums.{sum_by-append, sum_by-cons}
use Rattle.link_plan.specs.Counts.{is_fault, same_pair}
use Rattle.link_plan.specs.declared.Fate.{Fate}
use Rattle.link_plan.specs.declared.Fate.TheVariants.{Once, Lost, Twice, Late}
use Rattle.wire_fragments.specs.Runs.{Cut, IsFrameOf, all_sent, frames_of, is_sent}
use Rattle.wire_fragments.proofs.RunLaws.{bytes_same}
use Rattle.frames_text.specs.declared.sending.Sent.{Sent}
use Rattle.frames_text.specs.Sending.{Frame, all_framed, arriving, frame_of, framed, in_time, is_faulty, later_arriving, now_arriving, too_late}

-- ---- all of a list

all_joined : {A : Type 0} (P : A → Type 0) (xs ys : List A) → AllByRecursion P xs → AllByRecursion P ys → AllByRecursion P (xs ++ ys)
all_joined P [] ys here there = there
all_joined P (x ∷ xs) ys here there = (here.0, all_joined P xs ys here.1 there)

all_parts : {A : Type 0} (P : A → Type 0) (xs ys : List A) → AllByRecursion P (xs ++ ys) → AllByRecursion P xs × AllByRecursion P ys
all_parts P [] ys all = (tt, all)
all_parts P (x ∷ xs) ys all = (let rest = all_parts P xs ys all.1 in ((all.0, rest.0), rest.1))

pub among_here : {A : Type 0} (x : A) (xs : List A) → IsAmong (x ∷ xs) x
among_here x xs = (0, (omega arith, refl))

pub among_there : {A : Type 0} (x v : A) (xs : List A) → IsAmong xs v → IsAmong (x ∷ xs) v
among_there x v xs is = (let within = is.1.0 in (suc is.0, (omega (arith, within), is.1.1)))

among_all : (xs ys : List (List ℕ)) → ((v : List ℕ) → IsAmong ys v → IsAmong xs v) → AllByRecursion (IsAmong xs) ys
among_all xs [] h = tt
among_all xs (y ∷ ys) h = (h y (among_here y ys), among_all xs ys (λ v is. h v (among_there y v ys is)))

-- ---- what is sent is of the messages

-- a frame with its ends
abbrev at_ends : ℕ → ℕ → List ℕ → Frame
at_ends from to bytes = record { from = from; to = to; bytes = bytes }

one_of : (cuts : List Cut) (c : Cut) → IsAmong cuts c → (fs : List (List ℕ)) → AllByRecursion (IsAmong (frames_of c)) fs → AllByRecursion (λ (f : Frame). IsFrameOf cuts f.bytes) (map (at_ends c.name.from c.name.to) fs)
one_of cuts c among [] all = tt
one_of cuts c among (f ∷ fs) all = ((c, among, all.0), one_of cuts c among fs all.1)

framed_of : (cuts cs : List Cut) → ((c : Cut) → IsAmong cs c → IsAmong cuts c) → AllByRecursion (λ (f : Frame). IsFrameOf cuts f.bytes) (all_framed cs)
framed_of cuts [] h = tt
framed_of cuts (c ∷ cs) h =
    all_joined (λ (f : Frame). IsFrameOf cuts f.bytes) (framed c) (all_framed cs)
    (one_of cuts c (h c (among_here c cs)) (frames_of c) (among_all (frames_of c) (frames_of c) (λ v is. is)))
    (framed_of cuts cs (λ d is. h d (among_there c d cs is)))

of_frames : (cuts : List Cut) (sent : List Sent) → AllByRecursion (λ (f : Frame). IsFrameOf cuts f.bytes) (map frame_of sent) → AllByRecursion (λ (s : Sent). IsFrameOf cuts s.bytes) sent
of_frames cuts [] all = tt
of_frames cuts (s ∷ sent) all = (all.0, of_frames cuts sent all.1)

now_of : (P : List ℕ → Type 0) (fate : Fate) (bytes : List ℕ) → P bytes → AllByRecursion P (now_arriving fate bytes)
now_of P Once bytes is = (is, tt)
now_of P Twice bytes is = (is, (is, tt))
now_of P Lost bytes is = tt
now_of P Late bytes is = tt

later_of : (P : List ℕ → Type 0) (fate : Fate) (bytes : List ℕ) → P bytes → AllByRecursion P (later_arriving fate bytes)
later_of P Late bytes is = (is, tt)
later_of P Once bytes is = tt
later_of P Twice bytes is = tt
later_of P Lost bytes is = tt

in_time_of : (P : List ℕ → Type 0) (sent : List Sent) → AllByRecursion (λ (s : Sent). P s.bytes) sent → AllByRecursion P (in_time sent)
in_time_of P [] all = tt
in_time_of P (s ∷ sent) all = all_joined P (now_arriving s.fate s.bytes) (in_time sent) (now_of P s.fate s.bytes all.0) (in_time_of P sent all.1)

too_late_of : (P : List ℕ → Type 0) (sent : List Sent) → AllByRecursion (λ (s : Sent). P s.bytes) sent → AllByRecursion P (too_late sent)
too_late_of P [] all = tt
too_late_of P (s ∷ sent) all = all_joined P (later_arriving s.fate s.bytes) (too_late sent) (later_of P s.fate s.bytes all.0) (too_late_of P sent all.1)

-- what arrives are frames of the messages
pub arriving_of : (cuts : List Cut) (sent : List Sent) → map frame_of sent ≡ all_framed cuts → AllByRecursion (IsFrameOf cuts) (arriving sent)
arriving_of cuts sent are =
    let all = of_frames cuts sent (subst (AllByRecursion (λ (f : Frame). IsFrameOf cuts f.bytes)) (sym are) (framed_of cuts cuts (λ c is. is))) in
    all_joined (IsFrameOf cuts) (in_time sent) (too_late sent) (in_time_of (IsFrameOf cuts) sent all) (too_late_of (IsFrameOf cuts) sent all)

-- ---- what isn't lost arrives

abbrev is_lost_so : Fate → Bool
is_lost_so Lost = true
is_lost_so Once = false
is_lost_so Twice = false
is_lost_so Late = false

lost_fault : (fate : Fate) → is_lost_so fate ≡ true → is_fault fate ≡ true
lost_fault Lost is = refl
lost_fault Once is = absurd (true≢false (sym is))
lost_fault Twice is = absurd (true≢false (sym is))
lost_fault Late is = absurd (true≢false (sym is))

abbrev Reaches : List (List ℕ) → Sent → Type 0
Reaches all s = is_lost_so s.fate ≡ false → is_sent all s.bytes ≡ true

sent_right : (xs ys : List (List ℕ)) (x : List ℕ) → is_sent ys x ≡ true → is_sent (xs ++ ys) x ≡ true
sent_right xs ys x is = list_any-append (λ (sent : List ℕ). pointwise (λ a b. a == b) sent x) xs ys ∙ or_right (is_sent xs x) (is_sent ys x) is

first_sent : (x : List ℕ) (xs : List (List ℕ)) → is_sent (x ∷ xs) x ≡ true
first_sent x xs = ap (λ b. b || is_sent xs x) (bytes_same x)

reach_one : (fate : Fate) (bytes : List ℕ) (now late all : List (List ℕ)) → ((x : List ℕ) → is_sent (now_arriving fate bytes ++ now) x ≡ true → is_sent all x ≡ true) → ((x : List ℕ) → is_sent (later_arriving fate bytes ++ late) x ≡ true → is_sent all x ≡ true) → is_lost_so fate ≡ false → is_sent all bytes ≡ true
reach_one Once bytes now late all h k is = h bytes (first_sent bytes now)
reach_one Twice bytes now late all h k is = h bytes (first_sent bytes (bytes ∷ now))
reach_one Late bytes now late all h k is = k bytes (first_sent bytes late)
reach_one Lost bytes now late all h k is = absurd (true≢false is)

reach_from : (sent : List Sent) (all : List (List ℕ)) → ((x : List ℕ) → is_sent (in_time sent) x ≡ true → is_sent all x ≡ true) → ((x : List ℕ) → is_sent (too_late sent) x ≡ true → is_sent all x ≡ true) → AllByRecursion (Reaches all) sent
reach_from [] all h k = tt
reach_from (s ∷ sent) all h k = (
  reach_one s.fate s.bytes (in_time sent) (too_late sent) all h k,
  reach_from sent all (λ x is. h x (sent_right (now_arriving s.fate s.bytes) (in_time sent) x is)) (λ x is. k x (sent_right (later_arriving s.fate s.bytes) (too_late sent) x is)),
)

sent_left : (xs ys : List (List ℕ)) (x : List ℕ) → is_sent xs x ≡ true → is_sent (xs ++ ys) x ≡ true
sent_left xs ys x is = list_any-append (λ (sent : List ℕ). pointwise (λ a b. a == b) sent x) xs ys ∙ ap (λ b. b || is_sent ys x) is

reach : (sent : List Sent) → AllByRecursion (Reaches (arriving sent)) sent
reach sent = reach_from sent (arriving sent) (λ x is. sent_left (in_time sent) (too_late sent) x is) (λ x is. sent_right (in_time sent) (too_late sent) x is)

-- ---- how many packets are lost

first_is : (x y : Frame) (xs ys : List Frame) → x ∷ xs ≡ y ∷ ys → x ≡ y
first_is x y xs ys e = cc

rest_is : (x y : Frame) (xs ys : List Frame) → x ∷ xs ≡ y ∷ ys → xs ≡ ys
rest_is x y xs ys e = cc

no_frames : (y : Frame) (ys : List Frame) → [] ≡ y ∷ ys → ⊥
no_frames y ys e = cc

-- those of a message, and the others
record Split (sent : List Sent) (xs ys : List Frame) : Type 0 where
  front : List Sent
  back : List Sent
  joined : sent ≡ front ++ back
  front_is : map frame_of front ≡ xs
  back_is : map frame_of back ≡ ys

split : (sent : List Sent) (xs ys : List Frame) → map frame_of sent ≡ xs ++ ys → Split sent xs ys
split sent [] ys e = record { front = []; back = sent; joined = refl; front_is = refl; back_is = e }
split [] (x ∷ xs) ys e = absurd (no_frames x (xs ++ ys) e)
split (s ∷ sent) (x ∷ xs) ys e =
    let more = split sent xs ys (rest_is (frame_of s) x (map frame_of sent) (xs ++ ys) e) in
    record {
      front = s ∷ more.front;
      back = more.back;
      joined = ap (λ (ss : List Sent). s ∷ ss) more.joined;
      front_is = ap₂ (λ (f : Frame) (fs : List Frame). f ∷ fs) (first_is (frame_of s) x (map frame_of sent) (xs ++ ys) e) more.front_is;
      back_is = more.back_is;
    }

count_more : (p : Sent → Bool) (s : Sent) (sent : List Sent) → count_by p (s ∷ sent) ≡ cond {A = ℕ} (p s) 1 0 + count_by p sent
count_more p s sent = sum_by-cons (λ (x : Sent). cond {A = ℕ} (p x) 1 0) s sent

fault_of : (all : List (List ℕ)) (f : List ℕ) (s : Sent) → s.bytes ≡ f → is_sent all f ≡ false → Reaches all s → is_fault s.fate ≡ true
fault_of all f s same none reaches = by_lost (is_lost_so s.fate) refl
  where
    by_lost : (b : Bool) → is_lost_so s.fate ≡ b → is_fault s.fate ≡ true
    by_lost true is = lost_fault s.fate is
    by_lost false is = absurd (true≢false (sym (reaches is) ∙ (ap (is_sent all) same ∙ none)))

-- of a message of which a frame doesn't arrive a frame met a fault
one_lost : (a b from to : ℕ) (all : List (List ℕ)) (fs : List (List ℕ)) (sent : List Sent) → map frame_of sent ≡ map (at_ends from to) fs → list_all (is_sent all) fs ≡ false → AllByRecursion (Reaches all) sent → same_pair a b from to ≡ true → 1 ≤ count_by (is_faulty a b) sent
one_lost a b from to all [] sent are missing reaches pair = absurd (true≢false missing)
one_lost a b from to all (f ∷ fs) [] are missing reaches pair = absurd (no_frames (at_ends from to f) (map (at_ends from to) fs) are)
one_lost a b from to all (f ∷ fs) (s ∷ sent) are missing reaches pair = by_here (λ none. one_lost a b from to all fs sent (rest_is (frame_of s) (at_ends from to f) (map frame_of sent) (map (at_ends from to) fs) are) none reaches.1 pair) (is_sent all f) refl missing
  where
    frame_is : frame_of s ≡ at_ends from to f
    frame_is = first_is (frame_of s) (at_ends from to f) (map frame_of sent) (map (at_ends from to) fs) are

    pair_is : same_pair a b s.from s.to ≡ true
    pair_is = ap (λ (x : Frame). same_pair a b x.from x.to) frame_is ∙ pair

    by_here : (list_all (is_sent all) fs ≡ false → 1 ≤ count_by (is_faulty a b) sent) → (here : Bool) → is_sent all f ≡ here → (here && list_all (is_sent all) fs) ≡ false → 1 ≤ count_by (is_faulty a b) (s ∷ sent)
    by_here rest true is none = (let more = count_more (is_faulty a b) s sent in let some = rest none in omega (arith, more, some))
    by_here rest false is none =
        (let more = count_more (is_faulty a b) s sent in
        let fault = fault_of all f s (ap (λ (x : Frame). x.bytes) frame_is) is reaches.0 in
        let one : cond {A = ℕ} (is_faulty a b s) 1 0 ≡ 1 = ap (λ x. cond {A = ℕ} (x && is_fault s.fate) 1 0) pair_is ∙ ap (λ x. cond {A = ℕ} x 1 0) fault in
        omega (arith, more, one))

-- whether the message went between these two and a frame of it is missing
abbrev is_missing : List (List ℕ) → ℕ → ℕ → Cut → Bool
is_missing all a b c = same_pair a b c.name.from c.name.to && not (all_sent all c)

first_lost : (a b : ℕ) (all : List (List ℕ)) (c : Cut) (sent : List Sent) → map frame_of sent ≡ framed c → AllByRecursion (Reaches all) sent → cond {A = ℕ} (is_missing all a b c) 1 0 ≤ count_by (is_faulty a b) sent
first_lost a b all c sent are reaches = by_pair (same_pair a b c.name.from c.name.to) (all_sent all c) refl refl
  where
    by_pair : (pair whole : Bool) → same_pair a b c.name.from c.name.to ≡ pair → all_sent all c ≡ whole → cond {A = ℕ} (pair && not whole) 1 0 ≤ count_by (is_faulty a b) sent
    by_pair true false pair whole = one_lost a b c.name.from c.name.to all (frames_of c) sent are whole reaches pair
    by_pair true true pair whole = omega arith
    by_pair false whole pair is = omega arith

missing_few : (a b : ℕ) (all : List (List ℕ)) (cs : List Cut) (sent : List Sent) → map frame_of sent ≡ all_framed cs → AllByRecursion (Reaches all) sent → count_by (is_missing all a b) cs ≤ count_by (is_faulty a b) sent
missing_few a b all [] sent are reaches = omega arith
missing_few a b all (c ∷ cs) sent are reaches =
    let parts = split sent (framed c) (all_framed cs) are in
    let both = all_parts (Reaches all) parts.front parts.back (subst (AllByRecursion (Reaches all)) parts.joined reaches) in
    let here = first_lost a b all c parts.front parts.front_is both.0 in
    let there = missing_few a b all cs parts.back parts.back_is both.1 in
    let more = sum_by-cons (λ (d : Cut). cond {A = ℕ} (is_missing all a b d) 1 0) c cs in
    let sum : count_by (is_faulty a b) sent ≡ count_by (is_faulty a b) parts.front + count_by (is_faulty a b) parts.back =
    ap (count_by (is_faulty a b)) parts.joined ∙ sum_by-append (λ (x : Sent). cond {A = ℕ} (is_faulty a b x) 1 0) parts.front parts.back in
    omega (arith, here, there, more, sum)

-- no more packets between two kernels lack a frame than frames between them met a fault
pub few_missing : (a b : ℕ) (cuts : List Cut) (sent : List Sent) → map frame_of sent ≡ all_framed cuts → count_by (λ (c : Cut). same_pair a b c.name.from c.name.to && not (all_sent (arriving sent) c)) cuts ≤ count_by (is_faulty a b) sent
few_missing a b cuts sent are = missing_few a b (arriving sent) cuts sent are (reach sent)
