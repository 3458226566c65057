-- The table of messages under the changes of one of them.
use Rattle.std.proofs.Common.{◌≡◌, ℕ, ◌==◌, Bool, true, false, ◌&&◌, cond, List, [], ◌∷◌, Option, Some, None, Result, Ok, Err, OnOk, OnErr, refl, sym, ap, ◌∙◌, subst, eqb-true, eq-eqb, true≢false}
use Rattle.std.proofs.lemmas.Bool.{and_parts, and_from}
use Rattle.std.proofs.lemmas.Map.Steps.{set_value_same}
use Rattle.std.specs.Map.{set_value}
use Rattle.indexmap.specs.IndexMap.{insert_entry}
use Rattle.wire_fragments.specs.declared.head.MessageId.{MessageId}
use Rattle.wire_fragments.specs.declared.progress.Progress.{Progress}
use Rattle.wire_fragments.specs.declared.progress.Progress.TheVariants.{Given, InPart}
use Rattle.wire_fragments.specs.Pieces.{with_frame}
use Rattle.wire_fragments.specs.Gathering.{Messages, is_message, progress_of, pieces_at, kept_next}

-- ---- names

pub same_message : (a b : MessageId) → is_message a b ≡ true → a ≡ b
same_message a b e =
    let first = and_parts (a.from == b.from) ((a.to == b.to) && (a.id == b.id)) e in
    let second = and_parts (a.to == b.to) (a.id == b.id) first.1 in
    let from = eqb-true a.from b.from first.0 in
    let to = eqb-true a.to b.to second.0 in
    let id = eqb-true a.id b.id second.1 in
    ap (λ (n : ℕ). record { from = n; to = a.to; id = a.id }) from ∙ ap (λ (n : ℕ). record { from = b.from; to = n; id = a.id }) to ∙ ap (λ (n : ℕ). record { from = b.from; to = b.to; id = n }) id

pub itself : (a : MessageId) → is_message a a ≡ true
itself a = and_from (a.from == a.from) ((a.to == a.to) && (a.id == a.id)) (eq-eqb a.from a.from refl) (and_from (a.to == a.to) (a.id == a.id) (eq-eqb a.to a.to refl) (eq-eqb a.id a.id refl))

-- ---- one message changed

put_at : (name : MessageId) (e : MessageId × Progress) (es : Messages) (new : Progress) (b : Bool) → (is_message name e.0 ≡ b) → (b ≡ false → set_value (is_message name) es new ≡ insert_entry is_message es name new) → cond b ((e.0, new) ∷ es) (e ∷ set_value (is_message name) es new) ≡ cond b ((e.0, new) ∷ es) (e ∷ insert_entry is_message es name new)
put_at name e es new true is later = refl
put_at name e es new false is later = ap (λ (xs : Messages). e ∷ xs) (later refl)

found_later : (name : MessageId) (e : MessageId × Progress) (es : Messages) (old : Progress) (b : Bool) → b ≡ false → cond b (Some e.1) (progress_of es name) ≡ Some old → progress_of es name ≡ Some old
found_later name e es old true is found = absurd (true≢false is)
found_later name e es old false is found = found

-- a message that is there is changed in place
pub set_is_put : (name : MessageId) (es : Messages) (old new : Progress) → progress_of es name ≡ Some old → set_value (is_message name) es new ≡ insert_entry is_message es name new
set_is_put name [] old new found = absurd (cc)
set_is_put name (e ∷ es) old new found =
    put_at name e es new (is_message name e.0) refl (λ is. set_is_put name es old new (found_later name e es old (is_message name e.0) is found))

-- after a step that may fail: a further piece is kept
pub kept_ok : {A B : Type 0} (r : Result A B) (es next : Messages) (name : MessageId) (old new : Progress) (index : ℕ) (piece : List ℕ) → next ≡ set_value (is_message name) es new → progress_of es name ≡ Some old → OnOk r (new ≡ kept_next old index piece) → OnOk r (next ≡ insert_entry is_message es name (InPart (with_frame (pieces_at (progress_of es name)) index piece)))
kept_ok (Ok a) es next name old new index piece is found went =
    is ∙ set_is_put name es old new found ∙ ap (insert_entry is_message es name) went ∙ ap (λ (o : Option Progress). insert_entry is_message es name (InPart (with_frame (pieces_at o) index piece))) (sym found)
kept_ok (Err b) es next name old new index piece is found went = tt

-- or the message is given
pub given_ok : {A B : Type 0} (r : Result A B) (es next : Messages) (name : MessageId) (old new : Progress) → next ≡ set_value (is_message name) es new → progress_of es name ≡ Some old → OnOk r (new ≡ Given) → OnOk r (next ≡ insert_entry is_message es name Given)
given_ok (Ok a) es next name old new is found went = is ∙ set_is_put name es old new found ∙ ap (insert_entry is_message es name) went
given_ok (Err b) es next name old new is found went = tt

-- or all is as before
pub failed_back : {A B : Type 0} (r : Result A B) (es next : Messages) (name : MessageId) (old new : Progress) → next ≡ set_value (is_message name) es new → progress_of es name ≡ Some old → OnErr r (new ≡ old) → OnErr r (next ≡ es)
failed_back (Ok a) es next name old new is found failed = tt
failed_back (Err b) es next name old new is found failed = is ∙ ap (set_value (is_message name) es) failed ∙ set_value_same (is_message name) es old found

-- ---- what is found after a change

found_by : (name other : MessageId) (e : MessageId × Progress) (es : Messages) (new : Progress) (b : Bool) → is_message name e.0 ≡ b → progress_of (insert_entry is_message es name new) name ≡ Some new → progress_of (cond b ((e.0, new) ∷ es) (e ∷ insert_entry is_message es name new)) name ≡ Some new
found_by name other e es new true is later = ap (λ b. cond b (Some new) (progress_of es name)) is
found_by name other e es new false is later = ap (λ b. cond b (Some e.1) (progress_of (insert_entry is_message es name new) name)) is ∙ later

-- the changed one
pub put_found : (name : MessageId) (es : Messages) (new : Progress) → progress_of (insert_entry is_message es name new) name ≡ Some new
put_found name [] new = ap (λ b. cond b (Some new) None) (itself name)
put_found name (e ∷ es) new = found_by name name e es new (is_message name e.0) refl (put_found name es new)

not_this : (name other : MessageId) (n : MessageId) → is_message other name ≡ false → is_message name n ≡ true → is_message other n ≡ false
not_this name other n apart is = subst (λ (m : MessageId). is_message other m ≡ false) (same_message name n is) apart

stays_by : (name other : MessageId) (e : MessageId × Progress) (es : Messages) (new : Progress) (b : Bool) → is_message other name ≡ false → is_message name e.0 ≡ b → progress_of (insert_entry is_message es name new) other ≡ progress_of es other → progress_of (cond b ((e.0, new) ∷ es) (e ∷ insert_entry is_message es name new)) other ≡ progress_of (e ∷ es) other
stays_by name other e es new true apart is later =
    let apart_too = not_this name other e.0 apart is in
    ap (λ b. cond b (Some new) (progress_of es other)) apart_too ∙ sym (ap (λ b. cond b (Some e.1) (progress_of es other)) apart_too)
stays_by name other e es new false apart is later = ap (λ (o : Option Progress). cond (is_message other e.0) (Some e.1) o) later

-- any other
pub other_found : (name other : MessageId) (es : Messages) (new : Progress) → is_message other name ≡ false → progress_of (insert_entry is_message es name new) other ≡ progress_of es other
other_found name other [] new apart = ap (λ b. cond b (Some new) None) apart
other_found name other (e ∷ es) new apart = stays_by name other e es new (is_message name e.0) apart refl (other_found name other es new apart)
