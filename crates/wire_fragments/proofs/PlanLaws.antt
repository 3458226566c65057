-- What becomes of a frame, and how many messages are kept in part behind it.
use Rattle.std.proofs.Common.{◌≡◌, ◌<◌, ℕ, ◌+◌, ◌==◌, Bool, true, false, not, cond, nat_le, nat_lt, [], ◌∷◌, length, Option, Some, None, refl, sym, ap, ◌∙◌, subst, arith, count_by, eqb-true, lt-ltb}
use Rattle.std.proofs.lemmas.Bool.{and_from, leb-false, not-false}
use Rattle.std.proofs.lemmas.List.Sums.{sum_by-cons}
use Rattle.indexmap.specs.IndexMap.{insert_entry}
use Rattle.sprite_ids.proofs.ListLaws.{some_is}
use Rattle.wire_fragments.specs.declared.head.Head.{Head}
use Rattle.wire_fragments.specs.declared.head.MessageId.{MessageId}
use Rattle.wire_fragments.specs.declared.progress.Progress.{Progress}
use Rattle.wire_fragments.specs.declared.progress.Progress.TheVariants.{Given, InPart}
use Rattle.wire_fragments.specs.declared.plan.Plan.{Plan}
use Rattle.wire_fragments.specs.declared.plan.Plan.TheVariants.{Known, Differs, Full, Alone, First, Next, Last}
use Rattle.wire_fragments.specs.Pieces.{Pieces, is_there}
use Rattle.wire_fragments.specs.Gathering.{Gathering, Messages, is_message, is_in_part, count_kept, progress_of, awaits_at, plan_by, plan_of}

-- ---- how many messages are kept in part

abbrev pub one_of : Progress → ℕ
one_of progress = cond (is_in_part progress) 1 0

counts : (e : MessageId × Progress) (es : Messages) → count_kept (e ∷ es) ≡ one_of e.1 + count_kept es
counts e es = sum_by-cons (λ (x : MessageId × Progress). cond (is_in_part x.1) 1 0) e es

new_by : (name : MessageId) (e : MessageId × Progress) (es : Messages) (new : Progress) (b : Bool) → cond b (Some e.1) (progress_of es name) ≡ None → (progress_of es name ≡ None → count_kept (insert_entry is_message es name new) ≡ count_kept es + one_of new) → count_kept (cond b ((e.0, new) ∷ es) (e ∷ insert_entry is_message es name new)) ≡ count_kept (e ∷ es) + one_of new
new_by name e es new true none rest = absurd (cc)
new_by name e es new false none rest =
    let one = counts e (insert_entry is_message es name new) in
    let two = counts e es in
    let three = rest none in
    omega (arith, one, two, three)

-- behind a message that wasn't there
pub count_new : (name : MessageId) (es : Messages) (new : Progress) → progress_of es name ≡ None → count_kept (insert_entry is_message es name new) ≡ count_kept es + one_of new
count_new name [] new none = let one = counts (name, new) [] in omega (arith, one)
count_new name (e ∷ es) new none = new_by name e es new (is_message name e.0) none (count_new name es new)

put_by : (name : MessageId) (e : MessageId × Progress) (es : Messages) (old new : Progress) (b : Bool) → cond b (Some e.1) (progress_of es name) ≡ Some old → (progress_of es name ≡ Some old → count_kept (insert_entry is_message es name new) + one_of old ≡ count_kept es + one_of new) → count_kept (cond b ((e.0, new) ∷ es) (e ∷ insert_entry is_message es name new)) + one_of old ≡ count_kept (e ∷ es) + one_of new
put_by name e es old new true found rest =
    let one = counts (e.0, new) es in
    let two = counts e es in
    let three = ap one_of (some_is e.1 old found) in
    omega (arith, one, two, three)
put_by name e es old new false found rest =
    let one = counts e (insert_entry is_message es name new) in
    let two = counts e es in
    let three = rest found in
    omega (arith, one, two, three)

-- behind one that was
pub count_put : (name : MessageId) (es : Messages) (old new : Progress) → progress_of es name ≡ Some old → count_kept (insert_entry is_message es name new) + one_of old ≡ count_kept es + one_of new
count_put name [] old new found = absurd (cc)
count_put name (e ∷ es) old new found = put_by name e es old new (is_message name e.0) found (count_put name es old new)

-- ---- what the choice tells

-- a message that isn't known yet
pub record IsNew (g : Gathering) (head : Head) : Type 0 where
  pub none : progress_of g.messages head.message ≡ None

-- a message in part, of which this frame is missing
pub record IsMissing (g : Gathering) (head : Head) : Type 0 where
  pub pieces : Pieces
  pub kept : progress_of g.messages head.message ≡ Some (InPart pieces)
  pub awaited : awaits_at (progress_of g.messages head.message) head.index ≡ true

-- what a choice tells of the messages
abbrev pub Tells : Gathering → Head → Plan → Type 0
Tells g head Alone = IsNew g head
Tells g head First = IsNew g head × (count_kept g.messages < g.room)
Tells g head Next = IsMissing g head
Tells g head Last = IsMissing g head
Tells g head Known = Unit {0}
Tells g head (Differs kept) = Unit {0}
Tells g head Full = Unit {0}

either : (g : Gathering) (head : Head) (b : Bool) (p q : Plan) → (b ≡ true → Tells g head p) → (b ≡ false → Tells g head q) → Tells g head (cond b p q)
either g head true p q h k = h refl
either g head false p q h k = k refl

missing : (g : Gathering) (head : Head) (pieces : Pieces) → progress_of g.messages head.message ≡ Some (InPart pieces) → head.index < head.count → is_there pieces head.index ≡ false → not (length pieces.came == head.count) ≡ false → IsMissing g head
missing g head pieces found less fresh same =
    let long = eqb-true (length pieces.came) head.count (not-false (length pieces.came == head.count) same) in
    record {
      pieces = pieces;
      kept = found;
      awaited = ap (λ o. awaits_at o head.index) found ∙ and_from (nat_lt head.index (length pieces.came)) (not (is_there pieces head.index)) (lt-ltb head.index (length pieces.came) (omega (arith, long, less))) (ap not fresh);
    }

tells_by : (g : Gathering) (head : Head) (o : Option Progress) → progress_of g.messages head.message ≡ o → head.index < head.count → Tells g head (plan_by g head o)
tells_by g head None found less =
    either g head (head.count == 1) Alone (cond (nat_le g.room (count_kept g.messages)) Full First) (λ is. record { none = found })
    (λ is. either g head (nat_le g.room (count_kept g.messages)) Full First (λ full. tt) (λ free. (record { none = found }, leb-false g.room (count_kept g.messages) free)))
tells_by g head (Some Given) found less = tt
tells_by g head (Some (InPart pieces)) found less =
    either g head (is_there pieces head.index) Known (cond (not (length pieces.came == head.count)) (Differs (length pieces.came)) (cond (count_by not pieces.came == 1) Last Next)) (λ is. tt)
    (λ fresh. either g head (not (length pieces.came == head.count)) (Differs (length pieces.came)) (cond (count_by not pieces.came == 1) Last Next) (λ is. tt)
    (λ same. either g head (count_by not pieces.came == 1) Last Next (λ is. missing g head pieces found less fresh same) (λ is. missing g head pieces found less fresh same)))

pub tells : (g : Gathering) (head : Head) (plan : Plan) → plan ≡ plan_of g head → head.index < head.count → Tells g head plan
tells g head plan is less = subst (Tells g head) (sym is) (tells_by g head (progress_of g.messages head.message) refl less)
