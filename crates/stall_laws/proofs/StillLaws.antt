-- Where a cluster can't go on: no packet is in flight, and each call whose caller is one of its kernels was taken.
use Rattle.std.proofs.Common.{◌≡◌, ℕ, ◌≤◌, ◌⊎◌, inl, inr, ◌==◌, Bool, true, false, ◌&&◌, ◌||◌, not, cond, List, [], ◌∷◌, ◌++◌, length, map, Option, Some, None, is_some, refl, sym, ap, subst, ◌∙◌, true≢false}
use Rattle.std.specs.List.{AllByRecursion, filter, list_any}
use Rattle.std.proofs.lemmas.Bool.{and_parts}
use Rattle.sprite_ids.specs.declared.TxNo.{TxNo}
use Rattle.sprite_ids.proofs.OnceLaws.{or_false}
use Rattle.kernel_rpc.specs.declared.call.Call.{Call}
use Rattle.kernel_rpc.specs.declared.call.PacketCopy.{PacketCopy}
use Rattle.kernel_rpc.specs.declared.call.Receiver.{Receiver}
use Rattle.kernel_rpc.specs.Machine.{Machine, call_of, due_of, is_call, is_due, is_due_at, is_holding, is_punctual, is_taken, may_come, offered}
use Rattle.kernel_rpc.proofs.CopyLaws.{found_none}
use Rattle.kernel_rpc.proofs.PartLaws.{eq_same}
use Rattle.unix_calls.specs.declared.Description.{Description}
use Rattle.cluster_kernels.specs.declared.State.{State}
use Rattle.cluster_kernels.specs.States.{due_at}
use Rattle.cluster_choices.specs.declared.Choice.TheVariants.{Deliver, Expire}
use Rattle.cluster_choices.specs.Choosing.{choices_at, write_back_of}
use Rattle.sprite_cluster.proofs.FinishLaws.{stalled_still}
use Rattle.reached_receivers.specs.Receivers.{GoesInside}
use Rattle.stall_laws.specs.Stalls.{CantGoOn, IsWithOwner, NothingFlies, StalledCantGoOn}
use Rattle.stall_laws.proofs.CallLaws.{CallSo, Nobody}
use Rattle.stall_laws.proofs.ReceiverLaws.{held_weaken, owner_holds}

-- ---- lists

front_none : {A : Type 0} (xs ys : List A) → xs ++ ys ≡ [] → xs ≡ []
front_none [] ys is = refl
front_none (x ∷ xs) ys is = absurd (cc)

behind_none : {A : Type 0} (xs ys : List A) → xs ++ ys ≡ [] → ys ≡ []
behind_none [] ys is = is
behind_none (x ∷ xs) ys is = absurd (cc)

mapped_none : {A B : Type 0} (f : A → B) (xs : List A) → map f xs ≡ [] → xs ≡ []
mapped_none f [] is = refl
mapped_none f (x ∷ xs) is = absurd (cc)

filter_none : {A : Type 0} (q : A → Bool) (xs : List A) → filter q xs ≡ [] → list_any q xs ≡ false
filter_none q [] e = refl
filter_none q (x ∷ xs) e = by (q x) e (filter_none q xs)
  where
    by : (b : Bool) → cond b (x ∷ filter q xs) (filter q xs) ≡ [] → (filter q xs ≡ [] → list_any q xs ≡ false) → (b || list_any q xs) ≡ false
    by true is later = absurd (cc)
    by false is later = later is

any_weaken : {A : Type 0} (q r : A → Bool) (xs : List A) → ((x : A) → q x ≡ true → r x ≡ true) → list_any q xs ≡ true → list_any r xs ≡ true
any_weaken q r [] weaken e = absurd (cc)
any_weaken q r (x ∷ xs) weaken e = by (q x) refl e (any_weaken q r xs weaken)
  where
    or_first : (a b : Bool) → a ≡ true → (a || b) ≡ true
    or_first true b is = refl
    or_first false b is = absurd (cc)

    or_later : (a b : Bool) → b ≡ true → (a || b) ≡ true
    or_later true b is = refl
    or_later false b is = is

    by : (b : Bool) → q x ≡ b → (b || list_any q xs) ≡ true → (list_any q xs ≡ true → list_any r xs ≡ true) → (r x || list_any r xs) ≡ true
    by true is any later = or_first (r x) (list_any r xs) (weaken x is)
    by false is any later = or_later (r x) (list_any r xs) (later any)

-- ---- packets

-- a copy that isn't late may come
comes_soon : (kernel : ℕ) (copy : PacketCopy) → is_punctual kernel copy ≡ true → may_come kernel true copy ≡ true
comes_soon kernel copy e = let parts = and_parts (copy.to == kernel) (not copy.late) e in by (copy.to == kernel) (not copy.late) parts.0 parts.1
  where
    by : (a b : Bool) → a ≡ true → b ≡ true → (a && (b || false)) ≡ true
    by true true x y = refl
    by true false x y = absurd (cc)
    by false b x y = absurd (cc)

-- and where all are late, each
comes_late : (kernel : ℕ) (copy : PacketCopy) → copy.to ≡ kernel → may_come kernel false copy ≡ true
comes_late kernel copy e = ap (λ b. b && (not copy.late || true)) (ap (λ n. n == kernel) e ∙ eq_same kernel) ∙ by (not copy.late)
  where
    by : (b : Bool) → (b || true) ≡ true
    by true = refl
    by false = refl

none_flies : (c : Description) (copies : List PacketCopy) → AllByRecursion (GoesInside c) copies → ((kernel : ℕ) → (1 ≤ kernel) × (kernel ≤ length c.kernels) → filter (may_come kernel (list_any (is_punctual kernel) copies)) copies ≡ []) → copies ≡ []
none_flies c [] inside none = refl
none_flies c (copy ∷ rest) inside none = absurd (by (list_any (is_punctual copy.to) (copy ∷ rest)) refl (filter_none (may_come copy.to (list_any (is_punctual copy.to) (copy ∷ rest))) (copy ∷ rest) (none copy.to inside.0)))
  where
    by : (b : Bool) → list_any (is_punctual copy.to) (copy ∷ rest) ≡ b → list_any (may_come copy.to b) (copy ∷ rest) ≡ false → ⊥
    by true some off = true≢false (sym (any_weaken (is_punctual copy.to) (may_come copy.to true) (copy ∷ rest) (comes_soon copy.to) some) ∙ off)
    by false late off = true≢false (sym (comes_late copy.to copy refl) ∙ (or_false (may_come copy.to false copy) (list_any (may_come copy.to false) rest) off).0)

pub flies_none : NothingFlies
flies_none c machine s stuck =
    none_flies c machine.copies stuck.inside (λ kernel range. mapped_none (λ (copy : PacketCopy). copy.number) (filter (may_come kernel (list_any (is_punctual kernel) machine.copies)) machine.copies) (stuck.still.still kernel range).no_copies)

pub stalled_stands : StalledCantGoOn
stalled_stands c trace machine s e inside = record { still = stalled_still c trace machine s e; inside = inside }

-- ---- timers

none_due : (machine : Machine) (s : State) (kernel : ℕ) → choices_at kernel s machine ≡ [] → list_any (is_due_at kernel machine.copies) machine.unfinished ≡ false
none_due machine s kernel e =
    filter_none (is_due_at kernel machine.copies) machine.unfinished
    (mapped_none (λ (call : Call). call.tx) (filter (is_due_at kernel machine.copies) machine.unfinished)
    (mapped_none Expire (due_of machine kernel) (behind_none (map Deliver (offered machine kernel)) (map Expire (due_of machine kernel)) (front_none (map Deliver (offered machine kernel) ++ map Expire (due_of machine kernel)) (write_back_of (due_at kernel s)) e))))

not_false : (b : Bool) → not b ≡ false → b ≡ true
not_false true e = refl
not_false false e = absurd (cc)

no_reply : (o : Option (List ℕ)) → not (is_some o) ≡ true → o ≡ None
no_reply None e = refl
no_reply (Some reply) e = absurd (cc)

-- a call that was taken is with its owner
with_owner : (c : Description) (call : Call) → CallSo c Nobody call → is_taken call ≡ true → IsWithOwner call
with_owner c call k e =
    let parts = and_parts (not (is_some call.reply)) (list_any (λ (receiver : Receiver). is_holding receiver.part) call.receivers) e in
    record {
      taken = owner_holds call.owner call.receivers k.apart (held_weaken (λ n. (n ≡ call.owner) ⊎ Nobody call.tx call.body n) (λ n. n ≡ call.owner) call.receivers own k.held) parts.1;
      unanswered = no_reply call.reply parts.0;
    }
  where
    own : (n : ℕ) → (n ≡ call.owner) ⊎ Nobody call.tx call.body n → n ≡ call.owner
    own n (inl same) = same
    own n (inr none) = absurd none

pub stuck_taken : (c : Description) (machine : Machine) (s : State) (tx : TxNo) (call : Call) → CantGoOn c machine s → CallSo c Nobody call → call_of machine tx ≡ Some call → IsWithOwner call
stuck_taken c machine s tx call stuck k there =
    let none = none_due machine s call.from (stuck.still.still call.from (k.low, k.high)).no_choices in
    let here : is_due_at call.from machine.copies call ≡ false = found_none (is_due_at call.from machine.copies) (is_call tx) call machine.unfinished there none in
    let off : is_due machine.copies call ≡ false = sym (ap (λ b. b && is_due machine.copies call) (eq_same call.from)) ∙ here in
    let still : is_due [] call ≡ false = subst (λ (copies : List PacketCopy). is_due copies call ≡ false) (flies_none c machine s stuck) off in
    with_owner c call k (not_false (is_taken call) still)
