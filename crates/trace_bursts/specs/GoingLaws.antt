-- How far it is to the call of an image that has gone some instructions.
use Rattle.std.proofs.Common.{◌≡◌, ◌∙◌, ◌≤◌, ◌<◌, ◌⊎◌, inl, inr, ℕ, zero, suc, ◌+◌, ◌-◌, Option, Some, None, refl, sym, ap, subst, arith}
use Rattle.std.specs.Option.{option_map}
use Rattle.sprite_ids.proofs.ListLaws.{some_is}
use Rattle.process_machine.specs.declared.program.Program.{Program}
use Rattle.process_machine.specs.Machine.{Machine}
use Rattle.process_machine.specs.Steps.{Step, Moved, AtCall, AtBadStep, AtPage, step_of}
use Rattle.process_machine.specs.declared.running.BurstEnd.{BurstEnd}
use Rattle.process_machine.specs.declared.running.BurstEnd.TheVariants as burst
use Rattle.process_machine.specs.Runs.{EndsBy, ahead, moved}
use Rattle.process_machine.proofs.MachineLaws.{ahead_first}
use Rattle.call_journal.specs.WorthBursts.{counts_on, distance_within}

-- an image that stands at a call or at a bad step
pub record StandsThere (p : Program) (m : Machine) : Type 0 where
  pub none : (next : Machine → Option ℕ) → counts_on next (step_of p m) ≡ Some 0

pub at_call : (p : Program) (m : Machine) → step_of p m ≡ AtCall → StandsThere p m
at_call p m e = record { none = λ next. ap (counts_on next) e }

pub at_bad_step : (p : Program) (m : Machine) → step_of p m ≡ AtBadStep → StandsThere p m
at_bad_step p m e = record { none = λ next. ap (counts_on next) e }

-- a burst that ended at either
pub ends_there : (p : Program) (m : Machine) (count limit : ℕ) (end : BurstEnd) → (end ≡ burst.Call) ⊎ (end ≡ burst.BadStep) → EndsBy p m count limit end → StandsThere p m × (count < limit)
ends_there p m count limit end (inl is) why = let so = subst (EndsBy p m count limit) is why in (at_call p m so.0, so.1)
ends_there p m count limit end (inr is) why = let so = subst (EndsBy p m count limit) is why in (at_bad_step p m so.0, so.1)

stands_at_none : (p : Program) (l : ℕ) (m : Machine) → StandsThere p m → distance_within p l m ≡ Some 0
stands_at_none p zero m stands = stands.none (λ later. None)
stands_at_none p (suc l) m stands = stands.none (distance_within p l)

page_is_away : (p : Program) (l k : ℕ) (m : Machine) → step_of p m ≡ AtPage k → distance_within p l m ≡ None
page_is_away p zero k m e = ap (counts_on (λ later. None)) e
page_is_away p (suc l) k m e = ap (counts_on (distance_within p l)) e

-- so many instructions further

map_none_more : (o : Option ℕ) → option_map (λ (k : ℕ). k + 0) o ≡ o
map_none_more None = refl
map_none_more (Some k) = let same : k + 0 ≡ k = omega arith in ap Some same

map_one_more : (n : ℕ) (o : Option ℕ) → option_map (λ (k : ℕ). k + 1) (option_map (λ (k : ℕ). k + n) o) ≡ option_map (λ (k : ℕ). k + suc n) o
map_one_more n None = refl
map_one_more n (Some k) = let same : k + n + 1 ≡ k + suc n = omega arith in ap Some same

pub goes_further : (p : Program) (n l : ℕ) (m last : Machine) → ahead p m n ≡ Some last → distance_within p (n + l) m ≡ option_map (λ (k : ℕ). k + n) (distance_within p l last)
goes_further p zero l m last e =
    let fuel : 0 + l ≡ l = omega arith in
    subst (λ (x : Machine). distance_within p (0 + l) m ≡ option_map (λ (k : ℕ). k + 0) (distance_within p l x)) (some_is m last e)
    (ap (λ (n : ℕ). distance_within p n m) fuel ∙ sym (map_none_more (distance_within p l m)))
goes_further p (suc n) l m last e =
    let first = ahead_first p m last n e in
    let fuel : suc n + l ≡ suc (n + l) = omega arith in
    ap (λ (x : ℕ). distance_within p x m) fuel
    ∙ (ap (counts_on (distance_within p (n + l))) first.step
    ∙ (ap (option_map (λ (k : ℕ). k + 1)) (goes_further p n l first.next last first.rest)
    ∙ map_one_more n (distance_within p l last)))

-- ---- what a run came to, so many instructions behind its beginning

-- it stands at a call
pub comes_to_call : (p : Program) (old image new : Machine) (left rest gone done : ℕ) → ahead p old gone ≡ Some image → gone + rest ≡ left → ahead p image done ≡ Some new → done ≤ rest → StandsThere p new → distance_within p left old ≡ Some (gone + done)
comes_to_call p old image new left rest gone done went is run few stands =
    let fuel : done + (rest - done) ≡ rest = omega (arith, few) in
    let there : distance_within p rest image ≡ Some done =
    ap (λ (n : ℕ). distance_within p n image) (sym fuel)
    ∙ (goes_further p done (rest - done) image new run
    ∙ (ap (option_map (λ (k : ℕ). k + done)) (stands_at_none p (rest - done) new stands)
    ∙ none_and done)) in
    ap (λ (n : ℕ). distance_within p n old) (sym is)
    ∙ (goes_further p gone rest old image went
    ∙ (ap (option_map (λ (k : ℕ). k + gone)) there
    ∙ both gone done))
  where
    none_and : (n : ℕ) → Some (0 + n) ≡ Some n
    none_and n = let same : 0 + n ≡ n = omega arith in ap Some same

    both : (a b : ℕ) → Some (b + a) ≡ Some (a + b)
    both a b = let same : b + a ≡ a + b = omega arith in ap Some same

-- it stands before a page that is away
pub comes_to_page : (p : Program) (old image new : Machine) (left rest gone done k : ℕ) → ahead p old gone ≡ Some image → gone + rest ≡ left → ahead p image done ≡ Some new → done ≤ rest → step_of p new ≡ AtPage k → distance_within p left old ≡ None
comes_to_page p old image new left rest gone done k went is run few away =
    let fuel : done + (rest - done) ≡ rest = omega (arith, few) in
    let there : distance_within p rest image ≡ None =
    ap (λ (n : ℕ). distance_within p n image) (sym fuel)
    ∙ (goes_further p done (rest - done) image new run
    ∙ ap (option_map (λ (k : ℕ). k + done)) (page_is_away p (rest - done) k new away)) in
    ap (λ (n : ℕ). distance_within p n old) (sym is)
    ∙ (goes_further p gone rest old image went
    ∙ ap (option_map (λ (k : ℕ). k + gone)) there)

-- it went past the bound
moves_on : (p : Program) (s : Step) (new : Machine) → moved s ≡ Some new → counts_on (λ later. None) s ≡ None
moves_on p (Moved later) new e = refl
moves_on p AtCall new e = absurd (cc (e))
moves_on p AtBadStep new e = absurd (cc (e))
moves_on p (AtPage k) new e = absurd (cc (e))

pub comes_past : (p : Program) (old image new : Machine) (left gone : ℕ) → ahead p old gone ≡ Some image → gone + 0 ≡ left → ahead p image 1 ≡ Some new → distance_within p left old ≡ None
comes_past p old image new left gone went is run =
    ap (λ (n : ℕ). distance_within p n old) (sym is)
    ∙ (goes_further p gone 0 old image went
    ∙ ap (option_map (λ (k : ℕ). k + gone)) (moves_on p (step_of p image) new run))
