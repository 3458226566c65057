-- Which receivers of a call have its request.
use Rattle.std.proofs.Common.{◌≡◌, ℕ, ◌⊎◌, inl, inr, ◌==◌, Bool, true, false, ◌||◌, cond, List, [], ◌∷◌, map, Option, Some, option_map, refl, sym, ap, subst, ◌∙◌, true≢false}
use Rattle.std.specs.List.{AllByRecursion, find, list_any}
use Rattle.std.proofs.lemmas.Bool.{eqb-true}
use Rattle.kernel_rpc.specs.declared.call.Part.{Part}
use Rattle.kernel_rpc.specs.declared.call.Part.TheVariants.{Waiting, Holding, Silent, Answered}
use Rattle.kernel_rpc.specs.declared.call.Receiver.{Receiver}
use Rattle.kernel_rpc.specs.Machine.{fresh, holds, is_at, is_holding, part_of, with_part}
use Rattle.kernel_rpc.specs.Servers.{AreApart}
use Rattle.kernel_rpc.proofs.PartLaws.{any_map, eq_same, is_there}
use Rattle.sprite_ids.proofs.OnceLaws.{or_false}

-- the kernels of receivers
abbrev pub kernels_of : List Receiver → List ℕ
kernels_of receivers = map (λ (receiver : Receiver). receiver.kernel) receivers

-- each receiver that has the request is such
abbrev pub HeldBy : (ℕ → Type 0) → List Receiver → Type 0
HeldBy Such receivers = AllByRecursion (λ (receiver : Receiver). is_holding receiver.part ≡ true → Such receiver.kernel) receivers

-- each receiver is that kernel
abbrev pub AreAll : ℕ → List Receiver → Type 0
AreAll kernel receivers = AllByRecursion (λ (receiver : Receiver). receiver.kernel ≡ kernel) receivers

pub held_weaken : (Such Other : ℕ → Type 0) (receivers : List Receiver) → ((kernel : ℕ) → Such kernel → Other kernel) → HeldBy Such receivers → HeldBy Other receivers
held_weaken Such Other [] weaken h = tt
held_weaken Such Other (first ∷ rest) weaken h = (λ e. weaken first.kernel (h.0 e), held_weaken Such Other rest weaken h.1)

pub held_fresh : (Such : ℕ → Type 0) (servers : List ℕ) → HeldBy Such (map fresh servers)
held_fresh Such [] = tt
held_fresh Such (server ∷ servers) = (λ e. absurd (cc), held_fresh Such servers)

-- a receiver gets further
pub held_with : (Such : ℕ → Type 0) (at : ℕ) (part : Part) (receivers : List Receiver) → (is_holding part ≡ true → Such at) → HeldBy Such receivers → HeldBy Such (with_part at part receivers)
held_with Such at part [] new h = tt
held_with Such at part (first ∷ rest) new h = by (first.kernel == at) refl (held_with Such at part rest new h.1)
  where
    by : (b : Bool) → (first.kernel == at) ≡ b → HeldBy Such (with_part at part rest) → HeldBy Such (cond b (record first { part = part } ∷ rest) (first ∷ with_part at part rest))
    by true e later = (λ k. subst Such (sym (eqb-true first.kernel at e)) (new k), h.1)
    by false e later = (h.0, later)

pub all_with : (owner at : ℕ) (part : Part) (receivers : List Receiver) → AreAll owner receivers → AreAll owner (with_part at part receivers)
all_with owner at part [] h = tt
all_with owner at part (first ∷ rest) h = by (first.kernel == at) (all_with owner at part rest h.1)
  where
    by : (b : Bool) → AreAll owner (with_part at part rest) → AreAll owner (cond b (record first { part = part } ∷ rest) (first ∷ with_part at part rest))
    by true later = h
    by false later = (h.0, later)

-- a kernel that has the request is a receiver that has
holding_is : (part : Part) → is_holding part ≡ true → part ≡ Holding
holding_is Holding e = refl
holding_is Waiting e = absurd (cc)
holding_is Silent e = absurd (cc)
holding_is Answered e = absurd (cc)

some_part : (one other : Part) → Some one ≡ Some other → one ≡ other
some_part one other e = cc

part_in : Option Receiver → Option Part
part_in o = option_map (λ (receiver : Receiver). receiver.part) o

pub held_found : (Such : ℕ → Type 0) (kernel : ℕ) (receivers : List Receiver) → HeldBy Such receivers → part_of kernel receivers ≡ Some Holding → Such kernel
held_found Such kernel [] h e = absurd (cc)
held_found Such kernel (first ∷ rest) h e = by (first.kernel == kernel) refl e (held_found Such kernel rest h.1)
  where
    by : (b : Bool) → (first.kernel == kernel) ≡ b → option_map (λ (receiver : Receiver). receiver.part) (cond b (Some first) (find (is_at kernel) rest)) ≡ Some Holding → (part_of kernel rest ≡ Some Holding → Such kernel) → Such kernel
    by true same is later = subst Such (eqb-true first.kernel kernel same) (h.0 (ap is_holding (some_part first.part Holding is)))
    by false apart is later = later is

none_at : (kernel other : ℕ) (receivers : List Receiver) → other ≡ kernel → list_any (λ n. n == other) (kernels_of receivers) ≡ false → list_any (is_at kernel) receivers ≡ false
none_at kernel other receivers same e = sym (any_map (λ (receiver : Receiver). receiver.kernel) kernel receivers) ∙ (ap (λ k. list_any (λ n. n == k) (kernels_of receivers)) (sym same) ∙ e)

-- where receivers differ, and one of them has the request, which can only be the owner, the owner has it
pub owner_holds : (owner : ℕ) (receivers : List Receiver) → AreApart (kernels_of receivers) → HeldBy (λ kernel. kernel ≡ owner) receivers → list_any (λ (receiver : Receiver). is_holding receiver.part) receivers ≡ true → part_of owner receivers ≡ Some Holding
owner_holds owner [] apart h e = absurd (cc)
owner_holds owner (first ∷ rest) apart h e = by (is_holding first.part) refl e (owner_holds owner rest apart.1 h.1)
  where
    past : (b : Bool) → (first.kernel == owner) ≡ b → part_of owner rest ≡ Some Holding → option_map (λ (receiver : Receiver). receiver.part) (cond b (Some first) (find (is_at owner) rest)) ≡ Some Holding
    past true same later = absurd (true≢false (sym (is_there owner Holding rest later) ∙ none_at owner first.kernel rest (eqb-true first.kernel owner same) apart.0))
    past false off later = later

    by : (b : Bool) → is_holding first.part ≡ b → (b || list_any (λ (receiver : Receiver). is_holding receiver.part) rest) ≡ true → (list_any (λ (receiver : Receiver). is_holding receiver.part) rest ≡ true → part_of owner rest ≡ Some Holding) → part_of owner (first ∷ rest) ≡ Some Holding
    by true is any later =
        let here : (first.kernel == owner) ≡ true = ap (λ n. n == owner) (h.0 is) ∙ eq_same owner in
        ap (λ b. option_map (λ (receiver : Receiver). receiver.part) (cond b (Some first) (find (is_at owner) rest))) here ∙ ap Some (holding_is first.part is)
    by false is any later = past (first.kernel == owner) refl (later any)

-- ---- one that may have it and isn't the owner

abbrev pub OwnerOr : ℕ → ℕ → ℕ → Type 0
OwnerOr owner other kernel = (kernel ≡ owner) ⊎ (kernel ≡ other)

either_off : (owner other kernel : ℕ) → (kernel == other) ≡ false → OwnerOr owner other kernel → kernel ≡ owner
either_off owner other kernel off (inl same) = same
either_off owner other kernel off (inr same) = absurd (true≢false (sym (ap (λ n. n == other) same ∙ eq_same other) ∙ off))

none_other : (owner other : ℕ) (receivers : List Receiver) → list_any (is_at other) receivers ≡ false → HeldBy (OwnerOr owner other) receivers → HeldBy (λ kernel. kernel ≡ owner) receivers
none_other owner other [] none h = tt
none_other owner other (first ∷ rest) none h =
    let parts = or_false (first.kernel == other) (list_any (is_at other) rest) none in
    (λ e. either_off owner other first.kernel parts.0 (h.0 e), none_other owner other rest parts.1 h.1)

-- it goes silent
pub silenced : (owner other : ℕ) (receivers : List Receiver) → AreApart (kernels_of receivers) → HeldBy (OwnerOr owner other) receivers → HeldBy (λ kernel. kernel ≡ owner) (with_part other Silent receivers)
silenced owner other [] apart h = tt
silenced owner other (first ∷ rest) apart h = by (first.kernel == other) refl (silenced owner other rest apart.1 h.1)
  where
    by : (b : Bool) → (first.kernel == other) ≡ b → HeldBy (λ kernel. kernel ≡ owner) (with_part other Silent rest) → HeldBy (λ kernel. kernel ≡ owner) (cond b (record first { part = Silent } ∷ rest) (first ∷ with_part other Silent rest))
    by true same later = (λ e. absurd (cc), none_other owner other rest (none_at other first.kernel rest (eqb-true first.kernel other same) apart.0) h.1)
    by false off later = (λ e. either_off owner other first.kernel off (h.0 e), later)

-- or it hasn't
pub unheld : (owner other : ℕ) (receivers : List Receiver) → AreApart (kernels_of receivers) → holds (part_of other receivers) ≡ false → HeldBy (OwnerOr owner other) receivers → HeldBy (λ kernel. kernel ≡ owner) receivers
unheld owner other [] apart none h = tt
unheld owner other (first ∷ rest) apart none h = by (first.kernel == other) refl none (λ off. unheld owner other rest apart.1 off h.1)
  where
    by : (b : Bool) → (first.kernel == other) ≡ b → holds (option_map (λ (receiver : Receiver). receiver.part) (cond b (Some first) (find (is_at other) rest))) ≡ false → (holds (part_of other rest) ≡ false → HeldBy (λ kernel. kernel ≡ owner) rest) → HeldBy (λ kernel. kernel ≡ owner) (first ∷ rest)
    by true same off later = (λ e. absurd (true≢false (sym e ∙ off)), none_other owner other rest (none_at other first.kernel rest (eqb-true first.kernel other same) apart.0) h.1)
    by false away off later = (λ e. either_off owner other first.kernel away (h.0 e), later off)

-- ---- who has it after another one got further

-- where nobody takes it, who has it had it
pub held_before : (at other : ℕ) (part : Part) (receivers : List Receiver) → is_holding part ≡ false → holds (part_of other (with_part at part receivers)) ≡ true → holds (part_of other receivers) ≡ true
held_before at other part [] off h = absurd (cc)
held_before at other part (first ∷ rest) off h = by (first.kernel == at) h (held_before at other part rest off)
  where
    changed_by : (b : Bool) → holds (option_map (λ (receiver : Receiver). receiver.part) (cond b (Some (record first { part = part })) (find (is_at other) rest))) ≡ true → holds (option_map (λ (receiver : Receiver). receiver.part) (cond b (Some first) (find (is_at other) rest))) ≡ true
    changed_by true e = absurd (true≢false (sym e ∙ off))
    changed_by false e = e

    same_by : (b : Bool) → holds (option_map (λ (receiver : Receiver). receiver.part) (cond b (Some first) (find (is_at other) (with_part at part rest)))) ≡ true → (holds (part_of other (with_part at part rest)) ≡ true → holds (part_of other rest) ≡ true) → holds (option_map (λ (receiver : Receiver). receiver.part) (cond b (Some first) (find (is_at other) rest))) ≡ true
    same_by true e later = e
    same_by false e later = later e

    by : (b : Bool) → holds (part_of other (cond b (record first { part = part } ∷ rest) (first ∷ with_part at part rest))) ≡ true → (holds (part_of other (with_part at part rest)) ≡ true → holds (part_of other rest) ≡ true) → holds (part_of other (first ∷ rest)) ≡ true
    by true e later = changed_by (first.kernel == other) e
    by false e later = same_by (first.kernel == other) e later

pub fresh_none : (kernel : ℕ) (servers : List ℕ) → holds (part_of kernel (map fresh servers)) ≡ true → ⊥
fresh_none kernel [] h = absurd (cc)
fresh_none kernel (server ∷ servers) h = by (server == kernel) h (fresh_none kernel servers)
  where
    by : (b : Bool) → holds (option_map (λ (receiver : Receiver). receiver.part) (cond b (Some (fresh server)) (find (is_at kernel) (map fresh servers)))) ≡ true → (holds (part_of kernel (map fresh servers)) ≡ true → ⊥) → ⊥
    by true e later = absurd (cc)
    by false e later = later e

-- the owner has answered
pub answered_none : (owner : ℕ) (receivers : List Receiver) → holds (part_of owner (with_part owner Answered receivers)) ≡ true → ⊥
answered_none owner [] h = absurd (cc)
answered_none owner (first ∷ rest) h = by (first.kernel == owner) refl h (answered_none owner rest)
  where
    here : (b : Bool) → b ≡ true → holds (option_map (λ (receiver : Receiver). receiver.part) (cond b (Some (record first { part = Answered })) (find (is_at owner) rest))) ≡ true → ⊥
    here true is e = absurd (cc)
    here false is e = absurd (cc)

    past : (b : Bool) → b ≡ false → holds (option_map (λ (receiver : Receiver). receiver.part) (cond b (Some first) (find (is_at owner) (with_part owner Answered rest)))) ≡ true → (holds (part_of owner (with_part owner Answered rest)) ≡ true → ⊥) → ⊥
    past true is e later = absurd (cc)
    past false is e later = later e

    by : (b : Bool) → (first.kernel == owner) ≡ b → holds (part_of owner (cond b (record first { part = Answered } ∷ rest) (first ∷ with_part owner Answered rest))) ≡ true → (holds (part_of owner (with_part owner Answered rest)) ≡ true → ⊥) → ⊥
    by true is e later = here (first.kernel == owner) is e
    by false is e later = past (first.kernel == owner) is e later

pub kernels_fresh : (servers : List ℕ) → kernels_of (map fresh servers) ≡ servers
kernels_fresh [] = refl
kernels_fresh (server ∷ servers) = ap (λ ns. server ∷ ns) (kernels_fresh servers)

pub holds_is : (o : Option Part) → o ≡ Some Holding → holds o ≡ true
holds_is o e = ap holds e
