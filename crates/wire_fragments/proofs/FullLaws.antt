-- Where there is room for as many messages as were cut, none is turned away.
use Rattle.std.proofs.Common.{◌≡◌, ◌≤◌, ℕ, zero, suc, ◌+◌, ◌==◌, Bool, true, false, ◌&&◌, ◌||◌, not, cond, nat_le, List, [], ◌∷◌, length, Option, Some, None, slice_get, replicate, refl, sym, ap, ap₂, ◌∙◌, subst, arith, count_by, true≢false, ne_eqb}
use Rattle.std.proofs.lemmas.Bool.{false_from_ne_true, lt-leb}
use Rattle.std.proofs.lemmas.List.Sums.{sum_by-cons, sum_by-le-sum_by, count_by-le-length}
use Rattle.std.proofs.lemmas.Option.{slice_get_read}
use Rattle.std.specs.List.{list_all, list_any, IsAmong, AllByRecursion}
use Rattle.std.specs.Cmp.Lexicographic.{pointwise}
use Rattle.indexmap.specs.IndexMap.{insert_entry}
use Rattle.sprite_ids.proofs.ListLaws.{some_is}
use Rattle.wire_fragments.specs.declared.head.MessageId.{MessageId}
use Rattle.wire_fragments.specs.declared.progress.Progress.{Progress}
use Rattle.wire_fragments.specs.declared.progress.Progress.TheVariants.{Given, InPart}
use Rattle.wire_fragments.specs.declared.gathered.Gathered.{Gathered}
use Rattle.wire_fragments.specs.declared.gathered.Gathered.TheVariants.{Bad as IsBad, Known as IsKnown, Differs as IsOther, Full as IsFull, Whole, Kept as IsKept}
use Rattle.wire_fragments.specs.declared.plan.Plan.{Plan}
use Rattle.wire_fragments.specs.declared.plan.Plan.TheVariants.{Known, Differs, Full, Alone, First, Next, Last}
use Rattle.wire_fragments.specs.Frames.{count_of, piece, piece_in, head_of}
use Rattle.wire_fragments.specs.Pieces.{is_there}
use Rattle.wire_fragments.specs.Gathering.{Gathering, Messages, is_message, is_in_part, count_kept, empty_gather, progress_of, plan_by, plan_of, whole, answer_by, answer_head, answer_to, after_by, after_head, after, answers_from}
use Rattle.wire_fragments.specs.Runs.{Cut, IsCut, AreCuts, frames_of, IsFrameOf, Told, is_full, has_come, all_came, gives, was_given, is_sent, is_given, AreAllGiven, IsOfCuts, IsGathered, AreGathered}
use Rattle.wire_fragments.proofs.FrameLaws.{counted, cut_long, frame_at, read_again, cut_fits}
use Rattle.wire_fragments.proofs.TableLaws.{same_message, itself, put_found, other_found}
use Rattle.wire_fragments.proofs.StepLaws.{head_of_cut}
use Rattle.wire_fragments.proofs.PieceLaws.{all, all_is, none_counted}
use Rattle.wire_fragments.proofs.RunLaws.{all_same, came_of, none_came, among_got, come_stays, all_gathered}

-- ---- how many messages are known

abbrev some_of : Option Progress → Bool
some_of None = false
some_of (Some progress) = true

-- whether something of the message is kept, or it was given
abbrev is_known : Messages → Cut → Bool
is_known messages c = some_of (progress_of messages c.name)

-- no more messages are known than of the cut ones are
abbrev Roomy : List Cut → Messages → Type 0
Roomy cuts messages = length messages ≤ count_by (is_known messages) cuts

fewer_by : (p q : Bool) → (p ≡ true → q ≡ true) → cond {A = ℕ} p 1 0 ≤ cond {A = ℕ} q 1 0
fewer_by true q more = subst (λ (b : Bool). 1 ≤ cond {A = ℕ} b 1 0) (sym (more refl)) (omega arith)
fewer_by false q more = omega arith

fewer : (p q : Cut → Bool) (cuts : List Cut) → ((d : Cut) → p d ≡ true → q d ≡ true) → count_by p cuts ≤ count_by q cuts
fewer p q cuts more = sum_by-le-sum_by (λ (d : Cut). cond (p d) 1 0) (λ (d : Cut). cond (q d) 1 0) cuts (λ d. fewer_by (p d) (q d) (more d))

-- one passes that didn't
one_more : (p q : Cut → Bool) (cuts : List Cut) (k : ℕ) (c : Cut) → slice_get cuts k ≡ Some c → ((d : Cut) → p d ≡ true → q d ≡ true) → p c ≡ false → q c ≡ true → count_by p cuts + 1 ≤ count_by q cuts
one_more p q [] k c at more was is = absurd (cc)
one_more p q (x ∷ xs) zero c at more was is =
    let one = sum_by-cons (λ (d : Cut). cond (p d) 1 0) x xs in
    let two = sum_by-cons (λ (d : Cut). cond (q d) 1 0) x xs in
    let none : cond {A = ℕ} (p x) 1 0 ≡ 0 = ap (λ (b : Bool). cond {A = ℕ} b 1 0) (ap p (some_is x c at) ∙ was) in
    let some : cond {A = ℕ} (q x) 1 0 ≡ 1 = ap (λ (b : Bool). cond {A = ℕ} b 1 0) (ap q (some_is x c at) ∙ is) in
    let rest = fewer p q xs more in
    omega (arith, one, two, none, some, rest)
one_more p q (x ∷ xs) (suc k) c at more was is =
    let one = sum_by-cons (λ (d : Cut). cond (p d) 1 0) x xs in
    let two = sum_by-cons (λ (d : Cut). cond (q d) 1 0) x xs in
    let here = fewer_by (p x) (q x) (more x) in
    let rest = one_more p q xs k c at more was is in
    omega (arith, one, two, here, rest)

among_cut : (cuts : List Cut) (c : Cut) → IsAmong cuts c → (i : ℕ) × (slice_get cuts i ≡ Some c)
among_cut cuts c is = (is.0, slice_get_read cuts (length cuts) is.0 c refl is.1.0 is.1.1)

-- where one isn't known, fewer are than there are
not_all : (cuts : List Cut) (messages : Messages) (c : Cut) → IsAmong cuts c → progress_of messages c.name ≡ None → count_by (is_known messages) cuts + 1 ≤ length cuts
not_all cuts messages c among none =
    let at = among_cut cuts c among in
    let more = one_more (is_known messages) (λ d. true) cuts at.0 c at.1 (λ d e. refl) (ap some_of none) refl in
    let most = count_by-le-length (λ (d : Cut). true) cuts in
    omega (arith, more, most)

-- ---- one message more, or one changed

abbrev longer : (o : Option Progress) → ℕ
longer None = 1
longer (Some progress) = 0

length_put : (name : MessageId) (es : Messages) (new : Progress) → length (insert_entry is_message es name new) ≡ length es + longer (progress_of es name)
length_put name [] new = refl
length_put name (e ∷ es) new = put_by (is_message name e.0) (progress_of es name) (insert_entry is_message es name new) (length_put name es new)
  where
    put_by : (b : Bool) (o : Option Progress) (fs : Messages) → length fs ≡ length es + longer o → length (cond b ((e.0, new) ∷ es) (e ∷ fs)) ≡ suc (length es) + longer (cond b (Some e.1) o)
    put_by true o fs rest = omega arith
    put_by false o fs rest = omega (arith, rest)

-- what is known stays so
stays_by : (messages : Messages) (c d : Cut) (new : Progress) (b : Bool) → is_message d.name c.name ≡ b → is_known messages d ≡ true → is_known (insert_entry is_message messages c.name new) d ≡ true
stays_by messages c d new true e was = ap some_of (subst (λ (n : MessageId). progress_of (insert_entry is_message messages c.name new) n ≡ Some new) (sym (same_message d.name c.name e)) (put_found c.name messages new))
stays_by messages c d new false e was = ap some_of (other_found c.name d.name messages new e) ∙ was

put_roomy_by : (cuts : List Cut) (messages : Messages) (c : Cut) (new : Progress) (o : Option Progress) → IsAmong cuts c → progress_of messages c.name ≡ o → Roomy cuts messages → Roomy cuts (insert_entry is_message messages c.name new)
put_roomy_by cuts messages c new None among found roomy =
    let next = insert_entry is_message messages c.name new in
    let at = among_cut cuts c among in
    let long = length_put c.name messages new in
    let one : longer (progress_of messages c.name) ≡ 1 = ap longer found in
    let more = one_more (is_known messages) (is_known next) cuts at.0 c at.1 (λ d. stays_by messages c d new (is_message d.name c.name) refl) (ap some_of found) (ap some_of (put_found c.name messages new)) in
    omega (arith, long, one, more, roomy)
put_roomy_by cuts messages c new (Some old) among found roomy =
    let next = insert_entry is_message messages c.name new in
    let long = length_put c.name messages new in
    let none : longer (progress_of messages c.name) ≡ 0 = ap longer found in
    let more = fewer (is_known messages) (is_known next) cuts (λ d. stays_by messages c d new (is_message d.name c.name) refl) in
    omega (arith, long, none, more, roomy)

put_roomy : (cuts : List Cut) (messages : Messages) (c : Cut) (new : Progress) → IsAmong cuts c → Roomy cuts messages → Roomy cuts (insert_entry is_message messages c.name new)
put_roomy cuts messages c new among roomy = put_roomy_by cuts messages c new (progress_of messages c.name) among refl roomy

-- ---- one frame

-- there is room before it, and so there is behind it
record HasRoom (cuts : List Cut) (g : Gathering) : Type 0 where
  few : length cuts ≤ g.room
  roomy : Roomy cuts g.messages

still_room : (cuts : List Cut) (g : Gathering) (c : Cut) (j : ℕ) (plan : Plan) → IsAmong cuts c → HasRoom cuts g → HasRoom cuts (after_by g (head_of_cut c j) (piece c.message j) plan)
still_room cuts g c j Known among room = room
still_room cuts g c j (Differs kept) among room = room
still_room cuts g c j Full among room = room
still_room cuts g c j Alone among room = record { few = room.few; roomy = put_roomy cuts g.messages c _ among room.roomy }
still_room cuts g c j First among room = record { few = room.few; roomy = put_roomy cuts g.messages c _ among room.roomy }
still_room cuts g c j Next among room = record { few = room.few; roomy = put_roomy cuts g.messages c _ among room.roomy }
still_room cuts g c j Last among room = record { few = room.few; roomy = put_roomy cuts g.messages c _ among room.roomy }

-- an answer that isn't Full
abbrev Fits : Gathering → Cut → ℕ → Plan → Type 0
Fits g c j plan = is_full (answer_by g (head_of_cut c j) (piece c.message j) plan) ≡ false

either : (g : Gathering) (c : Cut) (j : ℕ) (b : Bool) (p q : Plan) → (b ≡ true → Fits g c j p) → (b ≡ false → Fits g c j q) → Fits g c j (cond b p q)
either g c j true p q h k = h refl
either g c j false p q h k = k refl

free_place : (cuts : List Cut) (g : Gathering) (c : Cut) → IsAmong cuts c → progress_of g.messages c.name ≡ None → HasRoom cuts g → nat_le g.room (count_kept g.messages) ≡ false
free_place cuts g c among none room =
    let kept = count_by-le-length (λ (e : MessageId × Progress). is_in_part e.1) g.messages in
    let known = room.roomy in
    let few = room.few in
    let one = not_all cuts g.messages c among none in
    lt-leb g.room (count_kept g.messages) (omega (arith, kept, known, few, one))

fits_by : (cuts : List Cut) (g : Gathering) (c : Cut) (j : ℕ) (o : Option Progress) → IsAmong cuts c → progress_of g.messages c.name ≡ o → HasRoom cuts g → Fits g c j (plan_by g (head_of_cut c j) o)
fits_by cuts g c j None among found room =
    either g c j ((head_of_cut c j).count == 1) Alone (cond (nat_le g.room (count_kept g.messages)) Full First) (λ is. refl)
    (λ is. either g c j (nat_le g.room (count_kept g.messages)) Full First (λ full. absurd (true≢false (sym full ∙ free_place cuts g c among found room))) (λ free. refl))
fits_by cuts g c j (Some Given) among found room = refl
fits_by cuts g c j (Some (InPart pieces)) among found room =
    let head = head_of_cut c j in
    either g c j (is_there pieces j) Known (cond (not (length pieces.came == head.count)) (Differs (length pieces.came)) (cond (count_by not pieces.came == 1) Last Next)) (λ is. refl)
    (λ is. either g c j (not (length pieces.came == head.count)) (Differs (length pieces.came)) (cond (count_by not pieces.came == 1) Last Next) (λ it. refl)
    (λ it. either g c j (count_by not pieces.came == 1) Last Next (λ last. refl) (λ more. refl)))

-- how a frame of a cut message is read
record IsRead (g : Gathering) (c : Cut) (j : ℕ) (bytes : List ℕ) : Type 0 where
  answer : answer_to g bytes ≡ answer_by g (head_of_cut c j) (piece c.message j) (plan_of g (head_of_cut c j))
  next : after g bytes ≡ after_by g (head_of_cut c j) (piece c.message j) (plan_of g (head_of_cut c j))

read : (g : Gathering) (c : Cut) (j : ℕ) (bytes : List ℕ) → IsCut c → slice_get (frames_of c) j ≡ Some bytes → IsRead g c j bytes
read g c j bytes is at =
    let found = frame_at c.name c.message j bytes at in
    let head = ap head_of found.1 ∙ read_again (head_of_cut c j) (piece c.message j) (cut_fits c j is found.0) in
    let part : piece_in bytes ≡ piece c.message j = ap piece_in found.1 in
    record {
      answer = ap (answer_head g bytes) head ∙ ap (λ p. answer_by g (head_of_cut c j) p (plan_of g (head_of_cut c j))) part;
      next = ap (after_head g bytes) head ∙ ap (λ p. after_by g (head_of_cut c j) p (plan_of g (head_of_cut c j))) part;
    }

-- ---- frames in a row

none_full_from : (cuts : List Cut) → AreCuts cuts → (g : Gathering) (frames : List (List ℕ)) → HasRoom cuts g → AllByRecursion (IsFrameOf cuts) frames → list_any is_full (answers_from g frames) ≡ false
none_full_from cuts are g [] room of = refl
none_full_from cuts are g (f ∷ fs) room of =
    let c = of.0.0 in
    let among = of.0.1 in
    let at = among_got (frames_of c) f of.0.2 in
    let is = read g c at.0 f (are.each c among) at.1 in
    let here : is_full (answer_to g f) ≡ false = ap is_full is.answer ∙ fits_by cuts g c at.0 (progress_of g.messages c.name) among refl room in
    let left : HasRoom cuts (after g f) = subst (HasRoom cuts) (sym is.next) (still_room cuts g c at.0 (plan_of g (head_of_cut c at.0)) among room) in
    ap (λ b. b || list_any is_full (answers_from (after g f) fs)) here ∙ none_full_from cuts are (after g f) fs left of.1

-- ---- what is given

or_none : (b : Bool) → (b || false) ≡ b
or_none true = refl
or_none false = refl

or_moved : (w g r : Bool) → (w || (g || r)) ≡ ((g || w) || r)
or_moved true true r = refl
or_moved true false r = refl
or_moved false true r = refl
or_moved false false r = refl

come_moved : (same full was rest : Bool) → full ≡ false → (((same && not full) || was) || rest) ≡ (was || (same || rest))
come_moved same true was rest none = absurd (true≢false none)
come_moved true false true rest none = refl
come_moved true false false rest none = refl
come_moved false false true rest none = refl
come_moved false false false rest none = refl

none_of : (a b : Bool) → (a || b) ≡ false → (a ≡ false) × (b ≡ false)
none_of true b none = absurd (true≢false none)
none_of false b none = (refl, none)

all_alike : (p q : List ℕ → Bool) (xs : List (List ℕ)) → ((x : List ℕ) → p x ≡ q x) → list_all p xs ≡ list_all q xs
all_alike p q [] h = refl
all_alike p q (x ∷ xs) h = ap₂ (λ (a b : Bool). a && b) (h x) (all_alike p q xs h)

-- an answer that gives a message of that name gives the cut one
gives_whole : (cuts : List Cut) → AreCuts cuts → (c : Cut) (answer : Gathered) → IsAmong cuts c → IsOfCuts cuts answer → gives c.name answer ≡ true → answer ≡ whole c.name c.message
gives_whole cuts are c (Whole from to id message) among of given =
    let same : is_message c.name of.0.name ≡ true = ap (gives c.name) of.2 ∙ given in
    let it : of.0 ≡ c = are.names of.0 c of.1 among (sym (same_message c.name of.0.name same)) in
    sym of.2 ∙ ap (λ (d : Cut). whole d.name d.message) it
gives_whole cuts are c IsBad among of given = absurd of
gives_whole cuts are c (IsOther kept came) among of given = absurd of
gives_whole cuts are c IsKnown among of given = absurd (true≢false (sym given))
gives_whole cuts are c (IsFull room) among of given = absurd (true≢false (sym given))
gives_whole cuts are c IsKept among of given = absurd (true≢false (sym given))

-- a message was given exactly where each of its frames came
abbrev Given_so : List Cut → List Told → Type 0
Given_so cuts before = (c : Cut) → IsAmong cuts c → was_given before c.name ≡ all_came before c

next_given : (cuts : List Cut) → AreCuts cuts → (before : List Told) (frame : List ℕ) (answer : Gathered) → IsGathered cuts before frame answer → Given_so cuts before → Given_so cuts ((frame, answer) ∷ before)
next_given cuts are before frame answer one so = λ c among. by_given c among (gives c.name answer) refl
  where
    still : (c : Cut) → IsAmong cuts c → gives c.name answer ≡ false → (was : Bool) → all_came before c ≡ was → was ≡ all_came ((frame, answer) ∷ before) c
    still c among none true was = sym (come_stays before (frame, answer) (frames_of c) was)
    still c among none false was = sym (false_from_ne_true (all_came ((frame, answer) ∷ before) c) (λ now. absurd (true≢false (sym (ap (gives c.name) ((one.at_last c among).1 (now, was)) ∙ itself c.name) ∙ none))))

    by_given : (c : Cut) → IsAmong cuts c → (b : Bool) → gives c.name answer ≡ b → (gives c.name answer || was_given before c.name) ≡ all_came ((frame, answer) ∷ before) c
    by_given c among true is = ap (λ b. b || was_given before c.name) is ∙ sym ((one.at_last c among).0 (gives_whole cuts are c answer among one.of_cuts is)).0
    by_given c among false is = ap (λ b. b || was_given before c.name) is ∙ (so c among ∙ still c among is (all_came before c) refl)

given_from : (cuts : List Cut) → AreCuts cuts → (before : List Told) (frames : List (List ℕ)) (answers : List Gathered) → AreGathered cuts before frames answers → list_any is_full answers ≡ false → Given_so cuts before → (c : Cut) → IsAmong cuts c
    → (was_given before c.name || is_given answers c.name) ≡ list_all (λ x. has_come before x || is_sent frames x) (frames_of c)
given_from cuts are before [] [] run none so c among =
    or_none (was_given before c.name) ∙ (so c among ∙ sym (all_alike (λ x. has_come before x || false) (has_come before) (frames_of c) (λ x. or_none (has_come before x))))
given_from cuts are before [] (a ∷ more) run none so c among = absurd run
given_from cuts are before (f ∷ fs) [] run none so c among = absurd run
given_from cuts are before (f ∷ fs) (a ∷ more) run none so c among =
    let parts = none_of (is_full a) (list_any is_full more) none in
    or_moved (was_given before c.name) (gives c.name a) (is_given more c.name)
    ∙ (given_from cuts are ((f, a) ∷ before) fs more run.1 parts.1 (next_given cuts are before f a run.0 so) c among
    ∙ all_alike (λ x. has_come ((f, a) ∷ before) x || is_sent fs x) (λ x. has_come before x || is_sent (f ∷ fs) x) (frames_of c) (λ x. come_moved (pointwise (λ m n. m == n) f x) (is_full a) (has_come before x) (is_sent fs x) parts.0))

-- a message has a frame, which hasn't come at first
none_all : (c : Cut) → all_came [] c ≡ false
none_all c =
    let n = count_of (length c.message) in
    let some = (counted (length c.message)).some in
    let none : came_of c [] ≡ replicate n false = none_came (frames_of c) ∙ ap (λ m. replicate m false) (cut_long c.name c.message) in
    all_same c [] ∙ (ap all none ∙ (all_is (replicate n false) ∙ (ap (λ m. m == 0) (none_counted n) ∙ ne_eqb n 0 (λ e. absurd (omega (arith, e, some))))))

-- with room for as many messages as are cut, each is given exactly where each of its frames came, and no answer is Full
pub all_given : (room : ℕ) (frames : List (List ℕ)) (answers : List Gathered) → answers ≡ answers_from (empty_gather room) frames → (cuts : List Cut) → AreCuts cuts → AllByRecursion (IsFrameOf cuts) frames → length cuts ≤ room → AreAllGiven cuts frames answers
all_given room frames answers is cuts are of few = subst (AreAllGiven cuts frames) (sym is) (record { none_full = none; each = given_from cuts are [] frames _ (all_gathered room frames cuts are of) none (λ c among. sym (none_all c)) })
  where
    none : list_any is_full (answers_from (empty_gather room) frames) ≡ false
    none = none_full_from cuts are (empty_gather room) frames (record { few = few; roomy = omega arith }) of
