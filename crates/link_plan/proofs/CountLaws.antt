-- One count of a pair is raised, and those of the other pairs stay.
use Rattle.std.proofs.Common.{arith, ◌≡◌, ℕ, ◌-◌, ◌^◌, ◌≤◌, ◌<◌, nat_lt, Bool, true, false, cond, List, length, slice_index, sym, subst, refl}
use Rattle.std.proofs.lemmas.Grind.{common_steps}
use Rattle.std.proofs.lemmas.List.{get_or-set_same, get_or-set_other}
use Rattle.std.proofs.lemmas.Bool.Decides.{nat_tests}
use borrow.Author.Tests.{ltb-true}
use Rattle.link_plan.specs.declared.plan.Fate.{Fate}
use Rattle.link_plan.specs.declared.plan.Fate.TheVariants.{Once, Lost, Twice, Late}
use Rattle.link_plan.specs.Counts.{IsAsked, HasCause, is_fault, raised, same_pair}
use Rattle.link_plan.specs.PlanCounts.{PlanCounts, pair, raised_at, next_fate, next_number, faults_of}
use Rattle.link_plan.specs.Fates.{fate_in}

-- the same pair stands at the same place
pub same_place : (a b from to : ℕ) → same_pair a b from to ≡ true → pair a b ≡ pair from to
same_place a b from to e = grind (arith, nat_tests)

-- two pairs stand at two places
pub other_place : (a b from to : ℕ) → (1 ≤ a) × (a ≤ 16) → (1 ≤ b) × (b ≤ 16) → (1 ≤ from) × (from ≤ 16) → (1 ≤ to) × (to ≤ 16) → same_pair a b from to ≡ false → pair a b ≡ pair from to → ⊥
other_place a b from to ka kb kf kt e same = grind (arith, nat_tests)

raised_here : (counts : List ℕ) (place : ℕ) → place < length counts → slice_index (raised_at counts place) place ≡ raised (slice_index counts place)
raised_here counts place h = get_or-set_same counts place (raised (slice_index counts place)) 0 h

stays_there : (counts : List ℕ) (place other : ℕ) → (other ≡ place → ⊥) → slice_index (raised_at counts place) other ≡ slice_index counts other
stays_there counts place other h = get_or-set_other counts place other (raised (slice_index counts place)) 0 h

-- one more of a count that isn't the last
more : (count : ℕ) → count < 2 ^ 64 - 1 → count < raised count
more count h = omega arith

has_cause : (fate : Fate) (old new : ℕ) → old < new → HasCause fate old new
has_cause Once old new h = omega arith
has_cause Lost old new h = h
has_cause Twice old new h = h
has_cause Late old new h = h

grows : (counts : List ℕ) (place other : ℕ) → place < length counts → slice_index counts place < 2 ^ 64 - 1 → slice_index counts other ≤ slice_index (raised_at counts place) other
grows counts place other h k = grind (arith, common_steps, get_or-set_same counts place (raised (slice_index counts place)) 0 h, get_or-set_other counts place other (raised (slice_index counts place)) 0)

-- a packet that meets a fault raises the pair's count of faults and that of asking
pub faulted : (faults asked : List ℕ) (from to : ℕ) (fate : Fate) → (1 ≤ from) × (from ≤ 16) → (1 ≤ to) × (to ≤ 16) → pair from to < length faults → pair from to < length asked → slice_index faults (pair from to) < 2 ^ 64 - 1 → IsAsked (λ a b. slice_index faults (pair a b)) (λ a b. slice_index asked (pair a b)) (λ a b. slice_index (raised_at faults (pair from to)) (pair a b)) (λ a b. slice_index (raised_at asked (pair from to)) (pair a b)) from to fate
faulted faults asked from to fate kf kt lf la room = record {
  once = λ a b e. let same = same_place a b from to e in subst (λ place. slice_index (raised_at asked (pair from to)) place ≡ raised (slice_index asked place)) (sym same) (raised_here asked (pair from to) la);
  cause = λ a b e. let same = same_place a b from to e in subst (λ place. HasCause fate (slice_index faults place) (slice_index (raised_at faults (pair from to)) place)) (sym same) (has_cause fate _ _ (subst (λ n. slice_index faults (pair from to) < n) (sym (raised_here faults (pair from to) lf)) (more _ room)));
  never_fall = λ a b. grows faults (pair from to) (pair a b) lf room;
  other_faults = λ a b ka kb e. stays_there faults (pair from to) (pair a b) (other_place a b from to ka kb kf kt e);
  other_asked = λ a b ka kb e. stays_there asked (pair from to) (pair a b) (other_place a b from to ka kb kf kt e);
}

room_of : (b : Bool) (given : Fate) → is_fault (cond b given Once) ≡ true → b ≡ true
room_of true given e = refl
room_of false given e = absurd (cc)

-- where the next packet meets a fault, one more of its pair can be counted
pub fault_has_room : (link : PlanCounts) (from to : ℕ) → is_fault (next_fate link from to) ≡ true → slice_index link.faults (pair from to) < 2 ^ 64 - 1
fault_has_room link from to e = ltb-true _ _ (room_of (nat_lt (faults_of link from to) (2 ^ 64 - 1)) (fate_in link.entries from to (next_number link from to)) e)
