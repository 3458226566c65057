-- Reading items one behind another, as a loop does.
use Rattle.std.proofs.Common.{◌≡◌, ℕ, suc, ◌-◌, ◌+◌, ◌≤◌, ◌<◌, List, [], ◌∷◌, ◌++◌, Some, None, refl, sym, ap, ◌∙◌, append_assoc, arith}
use Rattle.std.proofs.lemmas.List.{append-nil}
use Rattle.field_reader.specs.declared.field_end.FieldEnd.{FieldEnd}
use Rattle.field_reader.specs.declared.field_end.FieldEnd.TheVariants.{NotSpelled, NoMemory}
use Rattle.field_reader.specs.Reads.{Reads, Fails, found, beside, then_read, made}
use Rattle.wire_format.specs.Codec.{items_read}

-- what was read before, and what is still read
abbrev pub with_front : {A : Type 0} → List A → Reads (List A) → Reads (List A)
with_front front reads = made (λ more. front ++ more) reads

regroup : {A : Type 0} (front : List A) (x : A) (reads : Reads (List A)) → with_front front (made (λ pair. pair.0 ∷ pair.1) (beside x reads)) ≡ with_front (front ++ x ∷ []) reads
regroup front x None = refl
regroup front x (Some (xs, rest)) = ap (λ items. found items rest) (sym (append_assoc front (x ∷ []) xs))

pub goes_on : {A : Type 0} (read : List ℕ → Reads A) (front : List A) (count i : ℕ) (bytes : List ℕ) (x : A) (after : List ℕ) (total : Reads (List A)) → i < count → read bytes ≡ Some (x, after)
    → with_front front (items_read read (count - i) bytes) ≡ total → with_front (front ++ x ∷ []) (items_read read (count - (i + 1)) after) ≡ total
goes_on read front count i bytes x after total lt is so_far =
    let left : count - i ≡ suc (count - (i + 1)) = omega arith in
    let one : with_front front (items_read read (count - i) bytes) ≡ with_front (front ++ x ∷ []) (items_read read (count - (i + 1)) after) =
    ap (λ n. with_front front (items_read read n bytes)) left
    ∙ ap (λ reads. with_front front (made (λ pair. pair.0 ∷ pair.1) (then_read reads (items_read read (count - (i + 1)))))) is
    ∙ regroup front x (items_read read (count - (i + 1)) after) in
    sym one ∙ so_far

pub ends : {A : Type 0} (read : List ℕ → Reads A) (end : FieldEnd) (front : List A) (count i : ℕ) (bytes : List ℕ) (total : Reads (List A)) → i < count → Fails end (read bytes)
    → with_front front (items_read read (count - i) bytes) ≡ total → Fails end total
ends read NoMemory front count i bytes total lt fails so_far = tt
ends {A} read NotSpelled front count i bytes total lt fails so_far =
    let left : count - i ≡ suc (count - (i + 1)) = omega arith in
    let one : with_front front (items_read read (count - i) bytes) ≡ None =
    ap (λ n. with_front front (items_read read n bytes)) left
    ∙ ap (λ reads. with_front front (made (λ pair. pair.0 ∷ pair.1) (then_read reads (items_read read (count - (i + 1)))))) fails in
    sym so_far ∙ one

pub is_done : {A : Type 0} (read : List ℕ → Reads A) (front : List A) (count i : ℕ) (bytes : List ℕ) (total : Reads (List A)) → count ≤ i → with_front front (items_read read (count - i) bytes) ≡ total → total ≡ found front bytes
is_done read front count i bytes total le so_far =
    let left : count - i ≡ 0 = omega arith in
    let one : with_front front (items_read read (count - i) bytes) ≡ found front bytes =
    ap (λ n. with_front front (items_read read n bytes)) left ∙ ap (λ items. found items bytes) (append-nil front) in
    sym so_far ∙ one
