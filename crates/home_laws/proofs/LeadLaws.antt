-- What putting a process into the state leaves of what the homes' tables tell.
use Rattle.std.proofs.Common.{◌≡◌, ◌≢◌, ◌<◌, ◌≤◌, ◌+◌, ◌-◌, ◌==◌, ℕ, true, List, [], ◌∷◌, ◌++◌, length, slice_get, slice_set, Option, Some, None, refl, sym, ap, subst, ◌∙◌, arith, length-append, inl, inr}
use Rattle.std.proofs.lemmas.Bool.{cases_Bool, true≢false, eq-eqb, eqb-true, ne_eqb}
use Rattle.std.proofs.lemmas.List.{length-set}
use Rattle.sprite_ids.specs.Pid.{home_of, birth_of}
use Rattle.sprite_ids.proofs.ListLaws.{get_within, get_set_same, get_set_other, set_same}
use Rattle.unix_calls.specs.declared.state.Process.{Process}
use Rattle.unix_calls.specs.State.{Unix, process_at, put_process, with_process}
use Rattle.unix_calls.proofs.ProcessLaws.{ascending_put, each_put, found_each}
use Rattle.home_table.specs.declared.Birth.{Birth}
use Rattle.home_table.specs.Home.{Table, pid_at, index_of, birth_at}
use Rattle.unix_frames.specs.Order.{AreInOrder, IsKin, IsOfHome}
use Rattle.home_laws.specs.Homes.{of_home, IsBorn, AreBorn, TellsTheSame}
use Rattle.home_laws.proofs.BornLaws.{pid_is, home_is, birth_is, index_is, elsewhere_put, here_put, looked_in, BothBorn, born_first, zero_on, stands_at, put_life, put_born}

-- ---- look-ups

-- at the process of a home's place: its birth and itself, or nothing
pub born_in : (table : Table) (u : Unix) (place : ℕ) → place < 200 → TellsTheSame table u → BothBorn table.home place (slice_get table.births place) (process_at u.processes (pid_at table.home place))
born_in table u place few h =
    subst (BothBorn table.home place (slice_get table.births place)) (looked_in table.home (pid_at table.home place) u.processes (eq-eqb _ _ (home_is table.home place few)))
    (born_first table.home place table.births (of_home table.home u.processes) h.births)

pub looked_born : (table : Table) (u : Unix) (pid : ℕ) → TellsTheSame table u → home_of pid ≡ table.home → 1 ≤ birth_of pid → BothBorn table.home (index_of pid) (birth_at table.births pid) (process_at u.processes pid)
looked_born table u pid h home from =
    let is : pid_at table.home (index_of pid) ≡ pid = ap (λ (n : ℕ). pid_at n (index_of pid)) (sym home) ∙ sym (pid_is pid from) in
    let mine : (home_of pid == table.home) ≡ true = eq-eqb (home_of pid) table.home home in
    subst (BothBorn table.home (index_of pid) (birth_at table.births pid)) (looked_in table.home pid u.processes mine)
    (subst (λ n. BothBorn table.home (index_of pid) (birth_at table.births pid) (process_at (of_home table.home u.processes) n)) is
    (born_first table.home (index_of pid) table.births (of_home table.home u.processes) h.births))

-- a process that is there has its birth
pub record Known (table : Table) (pid : ℕ) (p : Process) : Type 0 where
  pub birth : Birth
  pub got : slice_get table.births (index_of pid) ≡ Some birth
  pub born : IsBorn table.home (index_of pid) birth p
  pub from : 1 ≤ birth_of pid
  pub few : index_of pid < 200
  pub is : pid ≡ pid_at table.home (index_of pid)

known_by : (table : Table) (pid : ℕ) (p : Process) (o : Option Birth) → slice_get table.births (index_of pid) ≡ o → BothBorn table.home (index_of pid) o (Some p) → 1 ≤ birth_of pid → index_of pid < 200 → pid ≡ pid_at table.home (index_of pid) → Known table pid p
known_by table pid p None got both from few is = absurd both
known_by table pid p (Some b) got both from few is = record { birth = b; got = got; born = both; from = from; few = few; is = is }

pub known : (table : Table) (u : Unix) (pid : ℕ) (p : Process) → TellsTheSame table u → home_of pid ≡ table.home → process_at u.processes pid ≡ Some p → Known table pid p
known table u pid p h home there =
    let found : process_at (of_home table.home u.processes) pid ≡ Some p = looked_in table.home pid u.processes (eq-eqb (home_of pid) table.home home) ∙ there in
    let at = stands_at table.home 0 table.births (of_home table.home u.processes) pid p h.births found in
    let few : at.place < 200 = let some = at.within in let most = h.few in omega (arith, some, most) in
    let is : pid ≡ pid_at table.home at.place = at.is ∙ ap (pid_at table.home) (zero_on at.place) in
    let birth : birth_of pid ≡ at.place + 1 = ap birth_of is ∙ birth_is table.home at.place few in
    let index : index_of pid ≡ at.place = ap index_of is ∙ index_is table.home at.place few in
    let from : 1 ≤ birth_of pid = omega (arith, birth) in
    known_by table pid p (slice_get table.births (index_of pid)) refl
    (subst (BothBorn table.home (index_of pid) (slice_get table.births (index_of pid))) there (looked_born table u pid h home from))
    from (omega (arith, index, few)) (is ∙ ap (pid_at table.home) (sym index))

-- ---- a state that leads on

-- what leads from a state to another one and from a home's table to another one: they tell the same afterwards, and so do the tables
-- of the other homes as they are
pub record Leads (table after : Table) (u v : Unix) : Type 0 where
  pub home : after.home ≡ table.home
  pub order : AreInOrder v.processes
  pub same : TellsTheSame after v
  pub others : (other : Table) → other.home ≢ table.home → TellsTheSame other u → TellsTheSame other v

pub leads_on : (one two three : Table) (u v w : Unix) → Leads one two u v → Leads two three v w → Leads one three u w
leads_on one two three u v w a b =
    record {
      home = b.home ∙ a.home;
      order = b.order;
      same = b.same;
      others = λ other apart h. b.others other (λ is. apart (is ∙ a.home)) (a.others other apart h);
    }

-- the processes and the counts of ticks are all that a table tells
pub told_of : (table : Table) (u v : Unix) → v.processes ≡ u.processes → v.ticks ≡ u.ticks → TellsTheSame table u → TellsTheSame table v
told_of table u v ps ticks h =
    record {
      numbered = h.numbered;
      few = h.few;
      births = subst (λ (l : List Process). AreBorn table.home 0 table.births (of_home table.home l)) (sym ps) h.births;
      ticks = subst (λ (l : List ℕ). slice_get l (table.home - 1) ≡ Some table.ticks) (sym ticks) h.ticks;
    }

pub leads_beside : (table : Table) (u v : Unix) → v.processes ≡ u.processes → v.ticks ≡ u.ticks → AreInOrder u.processes → TellsTheSame table u → Leads table table u v
leads_beside table u v ps ticks order h =
    record {
      home = refl;
      order = subst AreInOrder (sym ps) order;
      same = told_of table u v ps ticks h;
      others = λ other apart k. told_of other u v ps ticks k;
    }

-- a process of another home is put
pub put_elsewhere : (table : Table) (u : Unix) (r : Process) → home_of r.pid ≢ table.home → TellsTheSame table u → TellsTheSame table (with_process r u)
put_elsewhere table u r apart h =
    record {
      numbered = h.numbered;
      few = h.few;
      births = subst (AreBorn table.home 0 table.births) (sym (elsewhere_put table.home r u.processes (ne_eqb (home_of r.pid) table.home apart))) h.births;
      ticks = h.ticks;
    }

pub order_put : (r : Process) (ps : List Process) → IsKin r → AreInOrder ps → AreInOrder (put_process r ps)
order_put r ps kin h = record { ascending = ascending_put r ps h.ascending; kin = each_put IsKin r ps kin h.kin }

-- the life of a process of the home changes, which stands at that place
pub leads_life : (table : Table) (u : Unix) (place : ℕ) (b new : Birth) (r : Process) → AreInOrder u.processes → TellsTheSame table u → place < 200 → slice_get table.births place ≡ Some b → IsBorn table.home place new r → IsKin r
    → Leads table (record table { births = slice_set table.births place new }) u (with_process r u)
leads_life table u place b new r order h few got born kin =
    let home : home_of r.pid ≡ table.home = ap home_of born.pid ∙ home_is table.home place few in
    record {
      home = refl;
      order = order_put r u.processes kin order;
      same = record {
        numbered = h.numbered;
        few = subst (λ n. n ≤ 200) (sym (length-set table.births place new)) h.few;
        births = subst (AreBorn table.home 0 (slice_set table.births place new)) (sym (here_put table.home r u.processes order.ascending (eq-eqb _ _ home)))
            (put_life table.home 0 place table.births (of_home table.home u.processes) b new r h.births got (subst (λ n. IsBorn table.home n new r) (sym (zero_on place)) born));
        ticks = h.ticks;
      };
      others = λ other apart k. put_elsewhere other u r (λ is. apart (sym is ∙ home)) k;
    }

-- one more is born
pub leads_born : (table : Table) (u : Unix) (new : Birth) (r : Process) → AreInOrder u.processes → TellsTheSame table u → length table.births < 200 → IsBorn table.home (length table.births) new r → IsKin r
    → Leads table (record table { births = table.births ++ new ∷ [] }) u (with_process r u)
leads_born table u new r order h few born kin =
    let home : home_of r.pid ≡ table.home = ap home_of born.pid ∙ home_is table.home (length table.births) few in
    let more = length-append table.births (new ∷ []) in
    record {
      home = refl;
      order = order_put r u.processes kin order;
      same = record {
        numbered = h.numbered;
        few = omega (arith, more, few);
        births = subst (AreBorn table.home 0 (table.births ++ new ∷ [])) (sym (here_put table.home r u.processes order.ascending (eq-eqb _ _ home)))
            (put_born table.home 0 table.births (of_home table.home u.processes) new r h.births (subst (λ n. IsBorn table.home n new r) (sym (zero_on (length table.births))) born));
        ticks = h.ticks;
      };
      others = λ other apart k. put_elsewhere other u r (λ is. apart (sym is ∙ home)) k;
    }

-- a process is as it was to its home
pub record Alike (p r : Process) : Type 0 where
  pub pid : r.pid ≡ p.pid
  pub parent : r.parent ≡ p.parent
  pub ending : r.ending ≡ p.ending
  pub waited : r.waited ≡ p.waited
  pub killed : r.killed ≡ p.killed

pub kin_alike : (p r : Process) → r.pid ≡ p.pid → r.parent ≡ p.parent → IsKin p → IsKin r
kin_alike p r pid parent kin = subst (λ n. IsOfHome n r.parent) (sym pid) (subst (IsOfHome p.pid) (sym parent) kin)

born_alike : (home at : ℕ) (b : Birth) (p r : Process) → Alike p r → IsBorn home at b p → IsBorn home at b r
born_alike home at b p r alike born =
    record {
      pid = alike.pid ∙ born.pid;
      parent = alike.parent ∙ born.parent;
      ending = alike.ending ∙ born.ending;
      waited = alike.waited ∙ born.waited;
      killed = λ lives. alike.killed ∙ born.killed lives;
    }

pub put_alike : (table : Table) (u : Unix) (p r : Process) → AreInOrder u.processes → process_at u.processes p.pid ≡ Some p → Alike p r → TellsTheSame table u → TellsTheSame table (with_process r u)
put_alike table u p r order there alike h =
    elim (cases_Bool (home_of p.pid == table.home)) [
      | inl here ↦
          let known_as = known table u p.pid p h (eqb-true (home_of p.pid) table.home here) there in
          let leads = leads_life table u (index_of p.pid) known_as.birth known_as.birth r order h known_as.few known_as.got (born_alike table.home (index_of p.pid) known_as.birth p r alike known_as.born)
          (kin_alike p r alike.pid alike.parent (found_each IsKin u.processes p.pid p order.kin there)) in
          subst (λ bs. TellsTheSame (record table { births = bs }) (with_process r u)) (set_same table.births (index_of p.pid) known_as.birth known_as.got) leads.same
      | inr apart ↦ put_elsewhere table u r (λ is. true≢false (sym (eq-eqb (home_of p.pid) table.home (ap home_of (sym alike.pid) ∙ is)) ∙ apart)) h
    ]

pub leads_alike : (table : Table) (u : Unix) (p r : Process) → AreInOrder u.processes → TellsTheSame table u → process_at u.processes p.pid ≡ Some p → Alike p r → Leads table table u (with_process r u)
leads_alike table u p r order h there alike =
    record {
      home = refl;
      order = order_put r u.processes (kin_alike p r alike.pid alike.parent (found_each IsKin u.processes p.pid p order.kin there)) order;
      same = put_alike table u p r order there alike h;
      others = λ other apart k. put_alike other u p r order there alike k;
    }

-- a count of ticks is raised
ticked_elsewhere : (table other : Table) (u : Unix) (count : ℕ) → 1 ≤ table.home → other.home ≢ table.home → TellsTheSame other u → TellsTheSame other (record u { ticks = slice_set u.ticks (table.home - 1) count })
ticked_elsewhere table other u count from apart k =
    let mine = k.numbered in
    record {
      numbered = k.numbered;
      few = k.few;
      births = k.births;
      ticks = get_set_other u.ticks (table.home - 1) (other.home - 1) count (λ (same : table.home - 1 ≡ other.home - 1). apart (omega (arith, same, from, mine))) ∙ k.ticks;
    }

pub leads_ticked : (table : Table) (u : Unix) → AreInOrder u.processes → TellsTheSame table u → Leads table (record table { ticks = table.ticks + 1 }) u (record u { ticks = slice_set u.ticks (table.home - 1) (table.ticks + 1) })
leads_ticked table u order h =
    record {
      home = refl;
      order = order;
      same = record {
        numbered = h.numbered;
        few = h.few;
        births = h.births;
        ticks = get_set_same u.ticks (table.home - 1) (table.ticks + 1) (get_within u.ticks (table.home - 1) table.ticks h.ticks);
      };
      others = λ other apart k. ticked_elsewhere table other u (table.ticks + 1) h.numbered apart k;
    }
