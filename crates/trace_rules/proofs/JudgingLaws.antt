-- A rule that looks back is kept by a trace where each record keeps it, by what is kept of those before it.
use Rattle.std.proofs.Common.{◌≡◌, ◌∙◌, ℕ, suc, ◌+◌, ◌<◌, Bool, true, false, ◌&&◌, List, [], ◌∷◌, length, get_or, drop, refl, sym, ap, subst, arith}
use Rattle.unix_calls.specs.declared.description.Description.{Description}
use Rattle.unix_calls.specs.declared.event.Rec.{Rec}
use Rattle.call_journal.specs.Past.{Past, each_from, each_record, no_past, past_with}
use Rattle.trace_rules.specs.Judging.{Here, HereWith, TellsEach}
use Rattle.trace_rules.specs.Lists.{cut_at}

-- before the first record
pub begins : (c : Description) (test : Past → Rec → Bool) (Tells : Past → Type 0) (trace : List Rec) → Tells (no_past c) → Here c test Tells trace trace
begins c test Tells trace told = record { past = no_past c; told = told; left = refl }

-- where a record doesn't keep the rule, the trace doesn't
pub breaks : (c : Description) (test : Past → Rec → Bool) (Tells : Past → Type 0) (trace rest : List Rec) (rec : Rec) (here : Here c test Tells trace (rec ∷ rest)) → test here.past rec ≡ false → false ≡ each_record c (λ past r behind. test past r) trace
breaks c test Tells trace rest rec here e =
    sym (ap (λ b. b && each_from c (λ past r behind. test past r) (past_with c rec here.past) rest) e) ∙ here.left

-- where it does, the rest decides
pub goes : (c : Description) (test : Past → Rec → Bool) (Tells More : Past → Type 0) (trace rest : List Rec) (rec : Rec) (here : Here c test Tells trace (rec ∷ rest)) → test here.past rec ≡ true → More (past_with c rec here.past) → Here c test More trace rest
goes c test Tells More trace rest rec here e told = record {
  past = past_with c rec here.past;
  told = told;
  left = sym (ap (λ b. b && each_from c (λ past r behind. test past r) (past_with c rec here.past) rest) e) ∙ here.left;
}

-- behind the last one all do
pub ends : (c : Description) (test : Past → Rec → Bool) (Tells : Past → Type 0) (trace : List Rec) → Here c test Tells trace [] → true ≡ each_record c (λ past r behind. test past r) trace
ends c test Tells trace here = here.left

-- ---- the same, where something is told of each record

-- before the first record
pub begins_with : {A : Type 0} (from : Past → List Rec → List A) (c : Description) (test : Past → Rec → Bool) (Tells : Past → Type 0) (trace : List Rec) (items : List A) → Tells (no_past c) → items ≡ from (no_past c) trace → HereWith from c test Tells trace trace items
begins_with from c test Tells trace items told said = record { past = no_past c; told = told; said = said; left = refl }

-- there is one for each record
items_count : {A : Type 0} (c : Description) (at : Past → Rec → A) (from : Past → List Rec → List A) → TellsEach c at from → (past : Past) (trace : List Rec) → length (from past trace) ≡ length trace
items_count c at from each past [] = ap length (each.none past)
items_count c at from each past (rec ∷ rest) = ap length (each.first past rec rest) ∙ ap suc (items_count c at from each (past_with c rec past) rest)

pub item_there : {A : Type 0} (c : Description) (at : Past → Rec → A) (from : Past → List Rec → List A) → TellsEach c at from → (items : List A) (trace : List Rec) (place : ℕ) → items ≡ from (no_past c) trace → place < length trace → place < length items
item_there c at from each items trace place said short =
    let count : length items ≡ length trace = ap length said ∙ items_count c at from each (no_past c) trace in
    omega (arith, count, short)

-- the next record and what is told of it, and what the rest then decides
pub record NextWith {A : Type 0} (at : Past → Rec → A) (from : Past → List Rec → List A) (c : Description) (test : Past → Rec → Bool) (Tells : Past → Type 0) (trace rest : List Rec) (rec : Rec) (item : A) (more : List A) : Type 0 where
  pub past : Past
  pub told : Tells past
  pub item_is : item ≡ at past rec
  pub others : more ≡ from (past_with c rec past) rest
  pub left : (test past rec && each_from c (λ past r behind. test past r) (past_with c rec past) rest) ≡ each_record c (λ past r behind. test past r) trace

abbrev head_or : {A : Type 0} → A → List A → A
head_or d [] = d
head_or d (x ∷ xs) = x

abbrev tail : {A : Type 0} → List A → List A
tail [] = []
tail (x ∷ xs) = xs

first_with : {A : Type 0} (at : Past → Rec → A) (from : Past → List Rec → List A) (c : Description) (test : Past → Rec → Bool) (Tells : Past → Type 0) (trace rest : List Rec) (rec : Rec) (item : A) (more : List A) → TellsEach c at from → HereWith from c test Tells trace (rec ∷ rest) (item ∷ more) → NextWith at from c test Tells trace rest rec item more
first_with at from c test Tells trace rest rec item more each here =
    let is = here.said ∙ each.first here.past rec rest in
    record { past = here.past; told = here.told; item_is = ap (head_or item) is; others = ap tail is; left = here.left }

pub next_with : {A : Type 0} (at : Past → Rec → A) (from : Past → List Rec → List A) (c : Description) (test : Past → Rec → Bool) (Tells : Past → Type 0) (trace : List Rec) (items : List A) (place : ℕ) (rec : Rec) (item d : A) → TellsEach c at from → place < length trace → place < length items → rec ≡ get_or trace place rec → item ≡ get_or items place d → HereWith from c test Tells trace (drop place trace) (drop place items) → NextWith at from c test Tells trace (drop (place + 1) trace) rec item (drop (place + 1) items)
next_with {A = A} at from c test Tells trace items place rec item d each short there rec_is item_is here =
    let first = subst (λ (rest : List Rec). HereWith from c test Tells trace rest (drop place items)) (cut_at trace place rec rec short rec_is) here in
    let both = subst (λ (more : List A). HereWith from c test Tells trace (rec ∷ drop (place + 1) trace) more) (cut_at items place item d there item_is) first in
    first_with at from c test Tells trace (drop (place + 1) trace) rec item (drop (place + 1) items) each both

-- where the record doesn't keep the rule, the trace doesn't
pub breaks_with : {A : Type 0} {at : Past → Rec → A} {from : Past → List Rec → List A} {c : Description} {test : Past → Rec → Bool} {Tells : Past → Type 0} {trace rest : List Rec} {rec : Rec} {item : A} {more : List A} (next : NextWith at from c test Tells trace rest rec item more) → test next.past rec ≡ false → false ≡ each_record c (λ past r behind. test past r) trace
breaks_with {c = c} {test = test} {rest = rest} {rec = rec} next e =
    sym (ap (λ b. b && each_from c (λ past r behind. test past r) (past_with c rec next.past) rest) e) ∙ next.left

-- where it does, the rest decides
pub goes_with : (More : Past → Type 0) {A : Type 0} {at : Past → Rec → A} {from : Past → List Rec → List A} {c : Description} {test : Past → Rec → Bool} {Tells : Past → Type 0} {trace rest : List Rec} {rec : Rec} {item : A} {more : List A} (next : NextWith at from c test Tells trace rest rec item more) → test next.past rec ≡ true → More (past_with c rec next.past) → HereWith from c test More trace rest more
goes_with More {c = c} {test = test} {rest = rest} {rec = rec} next e told = record {
  past = past_with c rec next.past;
  told = told;
  said = next.others;
  left = sym (ap (λ b. b && each_from c (λ past r behind. test past r) (past_with c rec next.past) rest) e) ∙ next.left;
}

-- behind the last one all do
pub ends_with : {A : Type 0} (from : Past → List Rec → List A) (c : Description) (test : Past → Rec → Bool) (Tells : Past → Type 0) (trace rest : List Rec) (items : List A) → rest ≡ [] → HereWith from c test Tells trace rest items → true ≡ each_record c (λ past r behind. test past r) trace
ends_with from c test Tells trace rest items none here = sym (ap (each_from c (λ past r behind. test past r) here.past) none) ∙ here.left
