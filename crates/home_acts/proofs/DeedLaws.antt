-- Deeds one after another, and what they tell.
use Rattle.std.proofs.Common.{◌≡◌, refl, sym, ap, subst, ◌∙◌, ℕ, ◌==◌, Bool, true, false, cond, List, [], ◌∷◌, ◌++◌, Option, Some, option_map, append_assoc, append-nil}
use Rattle.std.proofs.lemmas.Bool.{eqb-true}
use Rattle.std.specs.List.{AllByRecursion, find}
use Rattle.sprite_ids.specs.Lists.{less}
use Rattle.sprite_ids.specs.Pid.{home_of}
use Rattle.kernel_steps.specs.Rows.{first_under, is_under}
use Rattle.process_machine.specs.declared.Call.{Call}
use Rattle.process_machine.specs.declared.Call.TheVariants as call
use Rattle.home_table.specs.Home.{Table, born, moved}
use Rattle.unix_calls.specs.declared.Description.{Description}
use Rattle.unix_calls.specs.declared.Event.{Event}
use Rattle.unix_calls.specs.declared.Event.TheVariants.{Enter}
use Rattle.home_laws.specs.Answers.{behind_call, is_full}
use Rattle.home_laws.specs.Runs.{Act, Answers, Buries, Enters, Kills}
use Rattle.client_homes.specs.declared.client.Parked.{Parked}
use Rattle.client_homes.specs.Procs.{is_pid}
use Rattle.home_acts.specs.Deeds.{AreRight, Deed, Did, Does, DoesSo, IsHome, IsOfHome, IsRight, Places, Seen, behind_act, behind_answer, behind_deed, entered, entries_behind, entries_by, entry_by, entry_in, table_behind}
use Rattle.home_acts.specs.Laws.{Begins}

-- ---- lists of deeds

pub behind_join : (table : Table) (ds es : List Deed) → table_behind table (ds ++ es) ≡ table_behind (table_behind table ds) es
behind_join table [] es = refl
behind_join table (d ∷ ds) es = behind_join (behind_deed table d) ds es

pub right_join : (c : Description) (table : Table) (ds es : List Deed) → AreRight c table ds → AreRight c (table_behind table ds) es → AreRight c table (ds ++ es)
right_join c table [] es h k = k
right_join c table (d ∷ ds) es h k = (h.0, right_join c (behind_deed table d) ds es h.1 k)

entries_join : (table : Table) (ds es : List Deed) → entries_behind table (ds ++ es) ≡ entries_behind table ds ++ entries_behind (table_behind table ds) es
entries_join table [] es = refl
entries_join table (d ∷ ds) es =
    ap (λ l. entries_by table d ++ l) (entries_join (behind_deed table d) ds es)
    ∙ sym (append_assoc (entries_by table d) (entries_behind (behind_deed table d) ds) (entries_behind (table_behind (behind_deed table d) ds) es))

entered_join : (xs ys : List Event) → entered (xs ++ ys) ≡ entered xs ++ entered ys
entered_join [] ys = refl
entered_join (x ∷ xs) ys = ap (λ l. entry_in x ++ l) (entered_join xs ys) ∙ sym (append_assoc (entry_in x) (entered xs) (entered ys))

-- ---- no deed, some deeds and then others, one

pub so_none : (c : Description) (v : Seen) → DoesSo c v v []
so_none c v = record { table = refl; right = tt; told = sym (append-nil (entered v.events)) }

pub so_join : (c : Description) (v w x : Seen) (ds es : List Deed) → DoesSo c v w ds → DoesSo c w x es → DoesSo c v x (ds ++ es)
so_join c v w x ds es h k = record {
  table = k.table ∙ ap (λ t. table_behind t es) h.table ∙ sym (behind_join v.home ds es);
  right = right_join c v.home ds es h.right (subst (λ t. AreRight c t es) h.table k.right);
  told =
      k.told
      ∙ ap (λ l. l ++ entries_behind w.home es) h.told
      ∙ append_assoc (entered v.events) (entries_behind v.home ds) (entries_behind w.home es)
      ∙ ap (λ t. entered v.events ++ (entries_behind v.home ds ++ entries_behind t es)) h.table
      ∙ ap (λ l. entered v.events ++ l) (sym (entries_join v.home ds es));
}

pub so_act : (c : Description) (v : Seen) (act : Act) → IsOfHome c v.home act
    → DoesSo c v (record v { home = behind_act v.home act; events = v.events ++ Enter (entry_by v.home act) ∷ [] }) (Does act ∷ [])
so_act c v act right = record { table = refl; right = (right, tt); told = entered_join v.events (Enter (entry_by v.home act) ∷ []) }

pub so_place : (c : Description) (v : Seen) (pid kernel : ℕ) → IsRight c v.home (Places pid kernel) → DoesSo c v (record v { home = moved v.home pid kernel }) (Places pid kernel ∷ [])
so_place c v pid kernel right = record { table = refl; right = (right, tt); told = sym (append-nil (entered v.events)) }

-- what is noted beside entries is no deed
pub so_note : (c : Description) (v : Seen) (event : Event) → entry_in event ≡ [] → DoesSo c v (record v { events = v.events ++ event ∷ [] }) []
so_note c v event none = record {
  table = refl;
  right = tt;
  told = entered_join v.events (event ∷ []) ∙ ap (λ l. entered v.events ++ (l ++ [])) none;
}

-- ---- the home stays

call_keeps : (table : Table) (pid : ℕ) (called : Call) → (behind_call table pid called).home ≡ table.home
call_keeps table pid (call.Exit code) = refl
call_keeps table pid call.BadStep = refl
call_keeps table pid call.Tick = refl
call_keeps table pid call.Fork = by (is_full table)
  where
    by : (b : Bool) → (cond b table (born table (Some pid))).home ≡ table.home
    by true = refl
    by false = refl
call_keeps table pid call.Wait = refl
call_keeps table pid _ = refl

answer_keeps : (table : Table) (pid : ℕ) (called : Call) → (behind_answer table pid called).home ≡ table.home
answer_keeps table pid (call.Exit code) = refl
answer_keeps table pid called = call_keeps table pid called

act_keeps : (table : Table) (act : Act) → (behind_act table act).home ≡ table.home
act_keeps table (Answers pid number called reply) = answer_keeps table pid called
act_keeps table (Kills pid number target) = refl
act_keeps table (Buries pid number) = refl
act_keeps table (Enters e) = refl

deed_keeps : (table : Table) (deed : Deed) → (behind_deed table deed).home ≡ table.home
deed_keeps table (Does act) = act_keeps table act
deed_keeps table (Places pid kernel) = refl

pub deeds_keep : (table : Table) (deeds : List Deed) → (table_behind table deeds).home ≡ table.home
deeds_keep table [] = refl
deeds_keep table (deed ∷ deeds) = deeds_keep (behind_deed table deed) deeds ∙ deed_keeps table deed

pub home_act : (c : Description) (w : Seen) (act : Act) (events : List Event) → IsHome c w → IsHome c (record w { home = behind_act w.home act; events = events })
home_act c w act events h = record { kernels = h.kernels; own = act_keeps w.home act ∙ h.own; numbered = h.numbered; waiters = h.waiters }

-- ---- what was done so far, and more

pub did_more : (c : Description) (v w x : Seen) (es : List Deed) → IsHome c x → DoesSo c w x es → Did c v w → Did c v x
did_more c v w x es home so d = record { home = home; deeds = d.deeds ++ es; so = so_join c v w x d.deeds es d.so so }

pub did_none : (c : Description) (v : Seen) → IsHome c v → Did c v v
did_none c v home = record { home = home; deeds = []; so = so_none c v }

pub did_act : (c : Description) (v w : Seen) (act : Act) → IsOfHome c w.home act → Did c v w → Did c v (record w { home = behind_act w.home act; events = w.events ++ Enter (entry_by w.home act) ∷ [] })
did_act c v w act right d =
    did_more c v w (record w { home = behind_act w.home act; events = w.events ++ Enter (entry_by w.home act) ∷ [] }) (Does act ∷ []) (home_act c w act (w.events ++ Enter (entry_by w.home act) ∷ []) d.home) (so_act c w act right) d

pub did_place : (c : Description) (v w : Seen) (pid kernel : ℕ) → IsRight c w.home (Places pid kernel) → Did c v w → Did c v (record w { home = moved w.home pid kernel })
did_place c v w pid kernel right d =
    did_more c v w (record w { home = moved w.home pid kernel }) (Places pid kernel ∷ [])
    (record { kernels = d.home.kernels; own = d.home.own; numbered = d.home.numbered; waiters = d.home.waiters }) (so_place c w pid kernel right) d

pub did_note : (c : Description) (v w : Seen) (event : Event) → entry_in event ≡ [] → Did c v w → Did c v (record w { events = w.events ++ event ∷ [] })
did_note c v w event none d =
    did_more c v w (record w { events = w.events ++ event ∷ [] }) []
    (record { kernels = d.home.kernels; own = d.home.own; numbered = d.home.numbered; waiters = d.home.waiters }) (so_note c w event none) d

-- who is parked
pub did_park : (c : Description) (v w : Seen) (rows : List (ℕ × Parked)) → AllByRecursion (λ (row : ℕ × Parked). home_of row.0 ≡ w.kernel) rows → Did c v w → Did c v (record w { waits = rows })
did_park c v w rows each d = record {
  home = record { kernels = d.home.kernels; own = d.home.own; numbered = d.home.numbered; waiters = each };
  deeds = d.deeds;
  so = record { table = d.so.table; right = d.so.right; told = d.so.told };
}

-- some deeds first
pub begins_with : (c : Description) (v w x : Seen) (first : List Deed) → DoesSo c v w first → Did c w x → Begins c v x first
begins_with c v w x first so d = record { home = d.home; rest = d.deeds; so = so_join c v w x first d.deeds so d.so }

pub begun_did : (c : Description) (v w x : Seen) (first : List Deed) → Did c v w → Begins c w x first → Did c v x
begun_did c v w x first d b = did_more c v w x (first ++ b.rest) b.home b.so d

-- ---- rows

less_by : (P : ℕ × Parked → Type 0) (row : ℕ × Parked) (rows rest : List (ℕ × Parked)) (b : Bool) → AllByRecursion P (row ∷ rows) → AllByRecursion P rest → AllByRecursion P (cond b rows (row ∷ rest))
less_by P row rows rest true h k = h.1
less_by P row rows rest false h k = (h.0, k)

pub each_less : (P : ℕ × Parked → Type 0) (test : ℕ × Parked → Bool) (rows : List (ℕ × Parked)) → AllByRecursion P rows → AllByRecursion P (less test rows)
each_less P test [] h = tt
each_less P test (row ∷ rows) h = less_by P row rows (less test rows) (test row) h (each_less P test rows h.1)

found_by : (P : ℕ → Type 0) (pid : ℕ) (row : ℕ × Parked) (o : Option (ℕ × Parked)) (b : Bool) (parked : Parked) → (row.0 == pid) ≡ b → P row.0 → (option_map (λ (r : ℕ × Parked). r.1) o ≡ Some parked → P pid)
    → option_map (λ (r : ℕ × Parked). r.1) (cond b (Some row) o) ≡ Some parked → P pid
found_by P pid row o true parked same here later e = subst P (eqb-true row.0 pid same) here
found_by P pid row o false parked same here later e = later e

-- what is so of all processes of rows is so of one that is found
pub found_key : (P : ℕ → Type 0) (pid : ℕ) (rows : List (ℕ × Parked)) (parked : Parked) → AllByRecursion (λ (row : ℕ × Parked). P row.0) rows → first_under is_pid pid rows ≡ Some parked → P pid
found_key P pid [] parked h e = absurd (cc)
found_key P pid (row ∷ rows) parked h e = found_by P pid row (find (is_under is_pid pid) rows) (row.0 == pid) parked refl h.0 (found_key P pid rows parked h.1) e
