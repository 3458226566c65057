-- All homes from the start on, whatever requests they serve and whatever else enters.
use Rattle.std.proofs.Common.{◌≡◌, ◌≢◌, ◌==◌, Bool, true, false, cond, List, [], ◌∷◌, ◌++◌, Option, Some, None, refl, sym, ap, subst, ◌∙◌, append_assoc, append-nil}
use Rattle.std.specs.Option.{is_some}
use Rattle.std.proofs.lemmas.Bool.{true≢false, eq-eqb, eqb-true}
use Rattle.sprite_ids.specs.Pid.{home_of}
use Rattle.home_table.specs.Home.{Table}
use Rattle.unix_calls.specs.declared.Description.{Description}
use Rattle.unix_calls.specs.declared.Entry.{Entry}
use Rattle.unix_calls.specs.State.{Unix}
use Rattle.unix_calls.specs.Boot.{boot_of}
use Rattle.unix_calls.specs.After.{after, state_from, state_of}
use Rattle.unix_calls.proofs.HistoryLaws.{state_from-append}
use Rattle.unix_frames.specs.Order.{AreInOrder}
use Rattle.unix_frames.proofs.OrderLaws.{states_are_in_order}
use Rattle.home_laws.specs.Deeds.{Goes}
use Rattle.home_laws.specs.Start.{first_table}
use Rattle.home_laws.specs.Runs.{Act, Answers, AreTold, Buries, Enters, Homes, HomesRunAsOne, HomesRunFromTheStart, IsTold, Kills, MayAct, MayActs, entries_of, entry_of, homes_behind, with_table}
use Rattle.home_laws.proofs.HomeLaws.{deaths_as_one, homes_answer_as_one, kills_as_one}
use Rattle.home_laws.proofs.StartLaws.{home_stays, starts_as_one, tables_go_on}

-- ---- one act

-- a table more tells the same, and the others still do
told_behind : (c : Description) (homes : Homes) (u : Unix) (e : Entry) (new : Table) (g : Goes c u e new) → AreTold c homes u → AreTold c (with_table homes new) g.later
told_behind c homes u e new g all home is = by (home == new.home) refl
  where
    before : IsTold homes u home
    before = all home is

    other : (home == new.home) ≡ false → (homes home).home ≢ new.home
    other off same = true≢false (sym (eq-eqb home new.home (sym before.own ∙ same)) ∙ off)

    by : (b : Bool) → (home == new.home) ≡ b → IsTold (with_table homes new) g.later home
    by true on =
        let is_new : with_table homes new home ≡ new = ap (λ b. cond b new (homes home)) on in
        record { own = ap (λ (t : Table). t.home) is_new ∙ sym (eqb-true home new.home on); same = subst (λ (t : Table). Rattle.home_laws.specs.Homes.TellsTheSame t g.later) (sym is_new) g.same }
    by false off =
        let is_old : with_table homes new home ≡ homes home = ap (λ b. cond b new (homes home)) off in
        record { own = ap (λ (t : Table). t.home) is_old ∙ before.own; same = subst (λ (t : Table). Rattle.home_laws.specs.Homes.TellsTheSame t g.later) (sym is_old) (g.others (homes home) (other off) before.same) }

record Acted (c : Description) (homes : Homes) (u : Unix) (act : Act) : Type 0 where
  next : Unix
  entered : after c u (entry_of homes act) ≡ Some next
  told : AreTold c (homes_behind homes act) next

acted : (c : Description) (homes : Homes) (u : Unix) (act : Act) → AreInOrder u.processes → AreTold c homes u → MayAct c homes u act → Acted c homes u act
acted c homes u (Answers pid number called reply) order all may =
    let t = all (home_of pid) may.0 in
    let g = homes_answer_as_one c u (homes (home_of pid)) pid number called reply order t.same (sym t.own) may.1.1 may.1.0 in
    record { next = g.later; entered = g.entered; told = told_behind c homes u _ _ g all }
acted c homes u (Kills pid number target) order all may =
    let t = all (home_of target) may.0 in
    let g = kills_as_one c u (homes (home_of target)) pid number target order t.same (sym t.own) may.1.0 may.1.1 in
    record { next = g.later; entered = g.entered; told = told_behind c homes u _ _ g all }
acted c homes u (Buries pid number) order all may =
    let t = all (home_of pid) may.0 in
    let g = deaths_as_one c u (homes (home_of pid)) pid number order t.same (sym t.own) may.1.1 may.1.0 in
    record { next = g.later; entered = g.entered; told = told_behind c homes u _ _ g all }
acted c homes u (Enters e) order all may = by (after c u e) refl may.0
  where
    by : (next : Option Unix) → after c u e ≡ next → is_some next ≡ true → Acted c homes u (Enters e)
    by None is some = absurd (true≢false (sym some))
    by (Some v) is some =
        record { next = v; entered = is; told = λ home kernel. let t = all home kernel in record { own = t.own; same = tables_go_on c u v e (homes home) order is may.1 t.same } }

-- ---- all of them

-- one entry more
grown : (c : Description) (journal : List Entry) (u v : Unix) (e : Entry) → state_of c journal ≡ Some u → after c u e ≡ Some v → state_of c (journal ++ e ∷ []) ≡ Some v
grown c journal u v e was is = state_from-append c (Some (boot_of c)) journal (e ∷ []) ∙ ap (λ o. state_from c o (e ∷ [])) was ∙ is

pub homes_run_as_one : HomesRunAsOne
homes_run_as_one c journal u homes [] few was all may =
    record { later = u; entered = ap (state_of c) (append-nil journal) ∙ was; told = all }
homes_run_as_one c journal u homes (act ∷ acts) few was all may =
    let a = acted c homes u act (states_are_in_order c journal u few was) all may.0 in
    let rest = homes_run_as_one c (journal ++ entry_of homes act ∷ []) a.next (homes_behind homes act) acts few (grown c journal u a.next (entry_of homes act) was a.entered) a.told
    (subst (λ o. MayActs c (homes_behind homes act) o acts) a.entered may.1) in
    record {
      later = rest.later;
      entered = ap (state_of c) (sym (append_assoc journal (entry_of homes act ∷ []) (entries_of (homes_behind homes act) acts))) ∙ rest.entered;
      told = rest.told;
    }

pub homes_run_from_the_start : HomesRunFromTheStart
homes_run_from_the_start c acts few may =
    homes_run_as_one c [] (boot_of c) (first_table c) acts few refl
    (λ home kernel. record { own = home_stays c.programs (record { home = home; births = []; ticks = 0 }) c.starts; same = (starts_as_one c home few kernel.0 kernel.1).same }) may
