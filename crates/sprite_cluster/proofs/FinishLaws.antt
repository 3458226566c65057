-- What is so where a run has stalled.
use Rattle.std.proofs.Common.{arith, ◌≡◌, ℕ, zero, suc, ◌+◌, ◌<◌, ◌≤◌, ◌==◌, Bool, true, false, ◌||◌, not, List, [], ◌∷◌, ◌++◌, map, refl, subst, length, nat_le, if◌then◌else◌}
use Rattle.std.proofs.lemmas.Bool.{eqb-true, leb-false, leb-true}
use Rattle.std.specs.List.{list_all}
use Rattle.sprite_ids.specs.declared.Finish.{Finish}
use Rattle.sprite_ids.specs.declared.Finish.TheVariants as finish
use Rattle.kernel_rpc.specs.Machine.{Machine, due_of, offered}
use Rattle.unix_calls.specs.declared.Description.{Description}
use Rattle.unix_calls.specs.declared.Rec.{Rec}
use Rattle.call_journal.specs.Units.{units_of}
use Rattle.cluster_kernels.specs.declared.State.{State}
use Rattle.cluster_kernels.specs.Kernels.{has_ended}
use Rattle.cluster_kernels.specs.States.{due_at}
use Rattle.cluster_choices.specs.declared.Choice.TheVariants.{Deliver, Expire}
use Rattle.cluster_choices.specs.Choosing.{choices_at, write_back_of}
use Rattle.cluster_bursts.specs.Bursts.{has_job_at}
use Rattle.sprite_cluster.specs.Finishing.{IsStill, IsStillAt, are_busy, finish_of, is_busy, may_go_on}

-- neither of two, and none of a list
or_none : (a b : Bool) → (a || b) ≡ false → (a ≡ false) × (b ≡ false)
or_none true b is = absurd (cc)
or_none false b is = (refl, is)

some_left : (n : ℕ) (b : Bool) → (suc n == 0) ≡ b → not b ≡ false → ⊥
some_left n true same is = (let e = eqb-true (suc n) 0 same in omega arith)
some_left n false same is = cc

no_items : {A : Type 0} (xs : List A) → not (length xs == 0) ≡ false → xs ≡ []
no_items [] is = refl
no_items (x ∷ xs) is = absurd (some_left (length xs) (suc (length xs) == 0) refl is)

-- what is in front of nothing, and what comes to nothing, is nothing
front_none : {A : Type 0} (xs ys : List A) → xs ++ ys ≡ [] → xs ≡ []
front_none [] ys is = refl
front_none (x ∷ xs) ys is = absurd (cc)

mapped_none : {A B : Type 0} (f : A → B) (xs : List A) → map f xs ≡ [] → xs ≡ []
mapped_none f [] is = refl
mapped_none f (x ∷ xs) is = absurd (cc)

-- a kernel that isn't busy
still_so : (machine : Machine) (s : State) (kernel : ℕ) → has_job_at kernel s ≡ false → choices_at kernel s machine ≡ [] → IsStillAt machine s kernel
still_so machine s kernel no_job none = record {
  no_copies = mapped_none Deliver (offered machine kernel) (front_none (map Deliver (offered machine kernel)) (map Expire (due_of machine kernel)) (front_none (map Deliver (offered machine kernel) ++ map Expire (due_of machine kernel)) (write_back_of (due_at kernel s)) none));
  no_choices = none;
  no_job = no_job;
}

still_here : (machine : Machine) (s : State) (kernel : ℕ) → is_busy machine s kernel ≡ false → IsStillAt machine s kernel
still_here machine s kernel is =
    (let parts = or_none (has_job_at kernel s) (not (length (choices_at kernel s machine) == 0)) is in
    still_so machine s kernel parts.0 (no_items (choices_at kernel s machine) parts.1))

-- and the first so many
still_by : (n : ℕ) (machine : Machine) (s : State) (kernel : ℕ) (before : Bool) → nat_le kernel n ≡ before → ((other : ℕ) → (1 ≤ other) × (other ≤ n) → IsStillAt machine s other) → is_busy machine s (n + 1) ≡ false → (1 ≤ kernel) × (kernel ≤ suc n) → IsStillAt machine s kernel
still_by n machine s kernel true before rest here range = rest kernel (range.0, leb-true kernel n before)
still_by n machine s kernel false before rest here range =
    (let last : n + 1 ≡ kernel = (let above = leb-false kernel n before in let high = range.1 in omega arith) in
    still_here machine s kernel (subst (λ (k : ℕ). is_busy machine s k ≡ false) last here))

still_under : (n : ℕ) (machine : Machine) (s : State) → are_busy n machine s ≡ false → (kernel : ℕ) → (1 ≤ kernel) × (kernel ≤ n) → IsStillAt machine s kernel
still_under zero machine s is kernel range = (let low = range.0 in let high = range.1 in absurd (omega arith))
still_under (suc n) machine s is kernel range =
    (let parts = or_none (are_busy n machine s) (is_busy machine s (n + 1)) is in
    still_by n machine s kernel (nat_le kernel n) refl (still_under n machine s parts.0) parts.1 range)

-- a run stalls only where nothing can happen
stalled_by : (ended spent may : Bool) → (if ended then finish.AllEnded else if spent then finish.Budget else if may then finish.Running else finish.Stalled) ≡ finish.Stalled → may ≡ false
stalled_by true spent may is = absurd (cc)
stalled_by false true may is = absurd (cc)
stalled_by false false true is = absurd (cc)
stalled_by false false false is = refl

still_if : (n : ℕ) (machine : Machine) (s : State) → may_go_on n machine s ≡ false → IsStill n machine s
still_if n machine s is =
    (let parts = or_none (not (length s.out == 0)) (are_busy n machine s) is in
    record { none_out = no_items s.out parts.0; still = still_under n machine s parts.1 })

pub stalled_still : (c : Description) (trace : List Rec) (machine : Machine) (s : State) → finish_of c trace machine s ≡ finish.Stalled → IsStill (length c.kernels) machine s
stalled_still c trace machine s is = still_if (length c.kernels) machine s (stalled_by (list_all has_ended s.kernels) (nat_le c.budget (units_of trace)) (may_go_on (length c.kernels) machine s) is)
