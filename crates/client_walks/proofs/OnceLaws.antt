-- Each process stands in at most one place of a client's kernel.
use Rattle.std.proofs.Common.{arith, ◌≡◌, ℕ, ◌+◌, ◌*◌, ◌<◌, ◌≤◌, ◌==◌, Bool, true, false, ◌||◌, not, List, [], ◌∷◌, length, Some, is_some, refl, sym, ap, ◌∙◌, length-append}
use Rattle.std.proofs.lemmas.Bool.{eqb-true, ltb-true, and_from}
use Rattle.std.proofs.lemmas.Nat.{div-mul-add}
use Rattle.std.specs.BTreeMap.{is_at}
use Rattle.std.specs.List.{list_all, list_any}
use Rattle.std.specs.Map.{remove_entry, set_value}
use Rattle.std.specs.Ordering.{nat_cmp}
use Rattle.sprite_ids.specs.declared.TxNo.{TxNo}
use Rattle.sprite_ids.specs.Lists.{EachOnce}
use Rattle.sprite_ids.specs.Pid.{home_of}
use Rattle.sprite_ids.proofs.ListLaws.{each_push, each_weaken}
use Rattle.sprite_ids.proofs.OnceLaws.{pushed_once}
use Rattle.kernel_steps.specs.declared.Input.{Input}
use Rattle.kernel_steps.specs.Rows.{is_under}
use Rattle.home_table.specs.Home.{Table, born}
use Rattle.client_homes.specs.declared.client.ClientProcs.{ClientProcs}
use Rattle.client_homes.specs.declared.client.Leaving.{Leaving}
use Rattle.client_homes.specs.Procs.{is_pid}
use Rattle.client_procs.specs.Steps.{client_step}
use Rattle.client_facts.specs.FileFacts.{same_process}
use Rattle.client_facts.proofs.BootLaws.{put_once}
use Rattle.client_facts.proofs.CostLaws.{less_once, none_left, processes_same}
use Rattle.client_facts.proofs.PlaceLaws.{listed_here, remove_once, set_once}
use Rattle.client_facts.proofs.RowLaws.{all_append, all_less}
use Rattle.client_walks.specs.Hands.{Held, Nothing, Coming, Holding, brought}
use Rattle.client_walks.specs.PlacesOnce.{AreBornAt, InHand, IsBornAt, PlacesAreOnce}
use Rattle.client_walks.proofs.Deeds.{Always, Hand, Keeps, nothing}
use Rattle.client_walks.proofs.RowLaws.{apart_fewer, apart_put, each_less, each_out, each_put, each_removed, each_set, found_here, found_leaving, in_removed, in_set, is_in, is_out, none_leaves, none_removed}
use Rattle.client_walks.proofs.SpotLaws.{by_spots}
use Rattle.client_walks.proofs.Spots.{KeepsSpots, Spots, spots_of}
use Rattle.client_walks.proofs.WalkLaws.{step_keeps}

-- a process that stands nowhere
pub record IsNowhere (pid : ℕ) (v : Spots) : Type 0 where
  pub gone : is_in pid v.procs ≡ false
  pub stays : list_any (is_under is_pid pid) v.leaving ≡ false
  pub born : IsBornAt v.home pid

abbrev pub Fits : Held → Spots → Type 0
Fits Nothing v = Unit {0}
Fits (Coming pid) v = IsBornAt v.home pid
Fits (Holding pid) v = IsNowhere pid v

pub record Placed (v : Spots) (hand : Held) : Type 0 where
  pub once : EachOnce same_process v.procs
  pub leaving_once : EachOnce same_process v.leaving
  pub apart : list_all (is_out v.procs) v.leaving ≡ true
  pub born : AreBornAt v.home v.procs
  pub leaving_born : AreBornAt v.home v.leaving
  pub fits : Fits hand v

-- the home only comes to know more
born_more : (old new : Table) (pid : ℕ) → new.home ≡ old.home → length old.births ≤ length new.births → IsBornAt old pid → IsBornAt new pid
born_more old new pid same more h e = let known = h (e ∙ same) in omega arith

nowhere_in : (hand : Held) (v w : Spots) → ((pid : ℕ) → is_in pid v.procs ≡ false → is_in pid w.procs ≡ false) → w.leaving ≡ v.leaving → ((pid : ℕ) → IsBornAt v.home pid → IsBornAt w.home pid) → Fits hand v → Fits hand w
nowhere_in Nothing v w fewer same born h = tt
nowhere_in (Coming pid) v w fewer same born h = born pid h
nowhere_in (Holding pid) v w fewer same born h = record { gone = fewer pid h.gone; stays = ap (λ (rows : List (ℕ × Leaving)). list_any (is_under is_pid pid) rows) same ∙ h.stays; born = born pid h.born }

next_home : (table : Table) → length table.births < 200 → home_of (1000 * table.home + length table.births + 1) ≡ table.home
next_home table few =
    let is : 1000 * table.home + length table.births + 1 ≡ table.home * 1000 + (length table.births + 1) = omega arith in
    rw is (div-mul-add table.home 1000 (length table.births + 1) (omega (arith, few)))

-- who was born isn't the next one
not_next : (table : Table) (pid : ℕ) → length table.births < 200 → IsBornAt table pid → (pid == 1000 * table.home + length table.births + 1) ≡ false
not_next table pid few h = by_test (pid == next) refl
  where
    next : ℕ
    next = 1000 * table.home + length table.births + 1

    by_test : (b : Bool) → (pid == next) ≡ b → b ≡ false
    by_test true e =
        let same : pid ≡ next = eqb-true pid next e in
        let known = h (ap home_of same ∙ next_home table few) in
        absurd (omega arith)
    by_test false e = refl

none_of : {V : Type 0} (table : Table) (rows : List (ℕ × V)) → length table.births < 200 → AreBornAt table rows → list_any (λ (row : ℕ × V). row.0 == 1000 * table.home + length table.births + 1) rows ≡ false
none_of {V} table [] few h = refl
none_of {V} table (row ∷ rows) few h = ap (λ b. b || list_any (λ (other : ℕ × V). other.0 == 1000 * table.home + length table.births + 1) rows) (not_next table row.0 few h.0) ∙ none_of table rows few h.1

pub placed_once : KeepsSpots Placed
placed_once = record {
  sets = λ v hand pid old new e p. record {
    once = set_once (is_at (nat_cmp pid)) v.procs new p.once;
    leaving_once = p.leaving_once;
    apart = apart_fewer v.procs (set_value (is_at (nat_cmp pid)) v.procs new) v.leaving (λ other h. in_set other (is_at (nat_cmp pid)) v.procs new ∙ h) p.apart;
    born = each_set (IsBornAt v.home) (is_at (nat_cmp pid)) v.procs new p.born;
    leaving_born = p.leaving_born;
    fits = nowhere_in hand v (record v { procs = set_value (is_at (nat_cmp pid)) v.procs new }) (λ other h. in_set other (is_at (nat_cmp pid)) v.procs new ∙ h) refl (λ other h. h) p.fits;
  };
  knows = λ v hand table same many p.
      let more : (pid : ℕ) → IsBornAt v.home pid → IsBornAt table pid = λ pid h. born_more v.home table pid same (omega arith) h in
      record {
        once = p.once;
        leaving_once = p.leaving_once;
        apart = p.apart;
        born = each_weaken _ _ v.procs (λ row h. more row.0 h) p.born;
        leaving_born = each_weaken _ _ v.leaving (λ row h. more row.0 h) p.leaving_born;
        fits = nowhere_in hand v (record v { home = table }) (λ pid h. h) refl more p.fits;
      };
  bears = λ v parent native room p.
      let few : length v.home.births < 200 = ltb-true (length v.home.births) 200 room in
      let table : Table = born v.home (Some parent) in
      let next : ℕ = 1000 * v.home.home + length v.home.births + 1 in
      let longer : length table.births ≡ length v.home.births + 1 = length-append v.home.births _ in
      let more : (pid : ℕ) → IsBornAt v.home pid → IsBornAt table pid = λ pid h. born_more v.home table pid refl (omega arith) h in
      record {
        once = p.once;
        leaving_once = p.leaving_once;
        apart = p.apart;
        born = each_weaken _ _ v.procs (λ row h. more row.0 h) p.born;
        leaving_born = each_weaken _ _ v.leaving (λ row h. more row.0 h) p.leaving_born;
        fits = record { gone = listed_here next v.procs ∙ none_of v.home v.procs few p.born; stays = none_of v.home v.leaving few p.leaving_born; born = λ e. omega arith };
      };
  brings = λ v pid gone stays p. record { once = p.once; leaving_once = p.leaving_once; apart = p.apart; born = p.born; leaving_born = p.leaving_born; fits = record { gone = gone; stays = stays; born = p.fits } };
  refuses = λ v pid p. record { once = p.once; leaving_once = p.leaving_once; apart = p.apart; born = p.born; leaving_born = p.leaving_born; fits = tt };
  puts = λ v pid proc p. record {
    once = put_once pid proc v.procs (sym (listed_here pid v.procs) ∙ p.fits.gone) p.once;
    leaving_once = p.leaving_once;
    apart = apart_put pid proc v.procs v.leaving p.fits.stays p.apart;
    born = each_put (IsBornAt v.home) pid proc v.procs p.fits.born p.born;
    leaving_born = p.leaving_born;
    fits = tt;
  };
  takes = λ v pid proc e p. record {
    once = remove_once (is_at (nat_cmp pid)) v.procs p.once;
    leaving_once = p.leaving_once;
    apart = apart_fewer v.procs (remove_entry (is_at (nat_cmp pid)) v.procs) v.leaving (λ other h. in_removed other (is_at (nat_cmp pid)) v.procs h) p.apart;
    born = each_removed (IsBornAt v.home) (is_at (nat_cmp pid)) v.procs p.born;
    leaving_born = p.leaving_born;
    fits = record { gone = none_removed pid v.procs p.once; stays = none_leaves pid v.procs v.leaving (ap is_some e) p.apart; born = found_here (IsBornAt v.home) pid v.procs proc p.born e };
  };
  leaves = λ v pid found e p. record {
    once = p.once;
    leaving_once = less_once same_process (is_under is_pid pid) v.leaving p.leaving_once;
    apart = all_less (is_out v.procs) (is_under is_pid pid) v.leaving p.apart;
    born = p.born;
    leaving_born = each_less (λ (row : ℕ × Leaving). IsBornAt v.home row.0) (is_under is_pid pid) v.leaving p.leaving_born;
    fits = record {
      gone = found_leaving (λ key. is_in key v.procs ≡ false) pid v.leaving found (each_out v.procs v.leaving p.apart) e;
      stays = none_left pid v.leaving p.leaving_once;
      born = found_leaving (IsBornAt v.home) pid v.leaving found p.leaving_born e;
    };
  };
  stays = λ v pid row p. record {
    once = p.once;
    leaving_once = pushed_once same_process processes_same (pid, row) v.leaving p.fits.stays p.leaving_once;
    apart = all_append (is_out v.procs) v.leaving ((pid, row) ∷ []) p.apart (and_from (is_out v.procs (pid, row)) true (ap not p.fits.gone) refl);
    born = p.born;
    leaving_born = each_push _ v.leaving (pid, row) p.leaving_born p.fits.born;
    fits = tt;
  };
  lets_go = λ v pid p. record { once = p.once; leaving_once = p.leaving_once; apart = p.apart; born = p.born; leaving_born = p.leaving_born; fits = tt };
}

-- what it is of a kernel
fits_in : (hand : Held) (s : ClientProcs) → InHand hand s → Fits hand (spots_of s)
fits_in Nothing s h = tt
fits_in (Coming pid) s h = h
fits_in (Holding pid) s h = record { gone = h.0.gone; stays = h.0.stays; born = h.1 }

pub placed : (s : ClientProcs) (hand : Held) → InHand hand s → PlacesAreOnce s → Placed (spots_of s) hand
placed s hand h p = record { once = p.once; leaving_once = p.leaving_once; apart = p.apart; born = p.born; leaving_born = p.leaving_born; fits = fits_in hand s h }

pub places : (s : ClientProcs) (hand : Held) → Placed (spots_of s) hand → PlacesAreOnce s
places s hand p = record { once = p.once; leaving_once = p.leaving_once; apart = p.apart; born = p.born; leaving_born = p.leaving_born }

pub places_kept : (F : ClientProcs → Hand → Type 0) → Keeps F (λ s h. Placed (spots_of s) h.process)
places_kept F = by_spots F Placed placed_once

pub step_keeps_places : (s : ClientProcs) (input : Input) (next : TxNo) (step : ℕ) → InHand (brought input s) s → PlacesAreOnce s → PlacesAreOnce (client_step s input next step).0
step_keeps_places s input next step h p =
    places (client_step s input next step).0 Nothing (step_keeps (λ s h. Placed (spots_of s) h.process) (places_kept Always) nothing s input next step (placed s (brought input s) h p))
