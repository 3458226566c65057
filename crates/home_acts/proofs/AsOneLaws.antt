-- Deeds of a home, one after another, in the one-kernel Unix.
use Rattle.std.proofs.Common.{◌≡◌, refl, sym, ap, subst, ◌∙◌, ℕ, zero, suc, ◌+◌, ◌≤◌, true, List, [], ◌∷◌, ◌++◌, length, Option, Some, None, option_map, slice_get, slice_set, append_assoc, append-nil, length-set}
use Rattle.std.specs.Option.{is_some}
use Rattle.std.proofs.lemmas.Bool.{true≢false}
use Rattle.home_table.specs.declared.birth.Birth.{Birth}
use Rattle.home_table.specs.Home.{Table, index_of, moved, put}
use Rattle.sprite_ids.proofs.ListLaws.{some_is}
use Rattle.unix_calls.specs.declared.Description.{Description}
use Rattle.unix_calls.specs.declared.Entry.{Entry}
use Rattle.unix_calls.specs.declared.state.Process.{Process}
use Rattle.unix_calls.specs.State.{Unix}
use Rattle.unix_calls.specs.After.{after, state_from, state_of}
use Rattle.unix_calls.specs.Boot.{boot_of}
use Rattle.unix_calls.proofs.HistoryLaws.{state_from-append}
use Rattle.unix_frames.proofs.OrderLaws.{states_are_in_order}
use Rattle.home_laws.specs.Homes.{AreBorn, IsBorn, TellsTheSame, of_home}
use Rattle.home_laws.specs.Runs.{Answers, Buries, Enters, Kills}
use Rattle.home_laws.proofs.HomeLaws.{deaths_as_one, homes_answer_as_one, kills_as_one}
use Rattle.home_laws.proofs.StartLaws.{tables_go_on}
use Rattle.home_acts.specs.AsOne.{DeedsRunAsOne, MayDo, MayDoAll}
use Rattle.home_acts.specs.Deeds.{Deed, Does, IsRight, Places, behind_deed, entries_behind, entries_by}
use Rattle.home_acts.proofs.ActLaws.{answers_are_acts}

-- ---- a place

-- a birth at another place is the same process
placed_births : (home at i kernel : ℕ) (b : Birth) (bs : List Birth) (ps : List Process) → slice_get bs i ≡ Some b → AreBorn home at bs ps → AreBorn home at (slice_set bs i (record b { place = kernel })) ps
placed_births home at i kernel b [] ps got are = absurd (cc)
placed_births home at i kernel b (x ∷ bs) [] got are = absurd are
placed_births home at zero kernel b (x ∷ bs) (p ∷ ps) got are =
    let is : IsBorn home at b p = subst (λ (y : Birth). IsBorn home at y p) (some_is x b got) are.0 in
    (record { pid = is.pid; parent = is.parent; ending = is.ending; waited = is.waited; killed = is.killed }, are.1)
placed_births home at (suc i) kernel b (x ∷ bs) (p ∷ ps) got are = (are.0, placed_births home (at + 1) i kernel b bs ps got are.1)

moved_tells : (table : Table) (u : Unix) (pid kernel : ℕ) → TellsTheSame table u → TellsTheSame (moved table pid kernel) u
moved_tells table u pid kernel h = by (slice_get table.births (index_of pid)) refl
  where
    after_put : Option Birth → Table
    after_put o = record table { births = put table.births (index_of pid) (option_map {T = Birth} (λ birth. record birth { place = kernel }) o) }

    by : (o : Option Birth) → slice_get table.births (index_of pid) ≡ o → TellsTheSame (after_put (slice_get table.births (index_of pid))) u
    by None e = subst (λ (o : Option Birth). TellsTheSame (after_put o) u) (sym e) h
    by (Some b) e =
        subst (λ (o : Option Birth). TellsTheSame (after_put o) u) (sym e)
        (record {
          numbered = h.numbered;
          few = subst (λ (n : ℕ). n ≤ 200) (sym (length-set table.births (index_of pid) (record b { place = kernel }))) h.few;
          births = placed_births table.home 0 (index_of pid) kernel b table.births (of_home table.home u.processes) e h.births;
          ticks = h.ticks;
        })

-- ---- one deed

record Done (c : Description) (u : Unix) (table : Table) (deed : Deed) : Type 0 where
  next : Unix
  entered : state_from c (Some u) (entries_by table deed) ≡ Some next
  same : TellsTheSame (behind_deed table deed) next

done : (c : Description) (journal : List Entry) (u : Unix) (table : Table) (deed : Deed) → length c.starts ≤ 200 → state_of c journal ≡ Some u → TellsTheSame table u → IsRight c table deed → MayDo c u table deed → Done c u table deed
done c journal u table (Does (Answers pid number called reply)) few was same right may =
    let g = homes_answer_as_one c u table pid number called reply (states_are_in_order c journal u few was) same right.0 may.0 right.1 in
    record { next = g.later; entered = g.entered; same = subst (λ (t : Table). TellsTheSame t g.later) (sym (answers_are_acts table pid called may.1)) g.same }
done c journal u table (Does (Kills pid number target)) few was same right may =
    let g = kills_as_one c u table pid number target (states_are_in_order c journal u few was) same right may.1 may.0 in
    record { next = g.later; entered = g.entered; same = g.same }
done c journal u table (Does (Buries pid number)) few was same right may =
    let g = deaths_as_one c u table pid number (states_are_in_order c journal u few was) same right may.0 may.1 in
    record { next = g.later; entered = g.entered; same = g.same }
done c journal u table (Does (Enters e)) few was same right may = by (after c u e) refl may.0
  where
    by : (o : Option Unix) → after c u e ≡ o → is_some o ≡ true → Done c u table (Does (Enters e))
    by None is some = absurd (true≢false (sym some))
    by (Some v) is some = record { next = v; entered = is; same = tables_go_on c u v e table (states_are_in_order c journal u few was) is may.1 same }
done c journal u table (Places pid kernel) few was same right may = record { next = u; entered = refl; same = moved_tells table u pid kernel same }

-- ---- all of them

pub deeds_run_as_one : DeedsRunAsOne
deeds_run_as_one c journal u table [] few was same right may = record { later = u; entered = ap (state_of c) (append-nil journal) ∙ was; same = same }
deeds_run_as_one c journal u table (deed ∷ deeds) few was same right may =
    let one = done c journal u table deed few was same right.0 may.0 in
    let grown : state_of c (journal ++ entries_by table deed) ≡ Some one.next = state_from-append c (Some (boot_of c)) journal (entries_by table deed) ∙ ap (λ o. state_from c o (entries_by table deed)) was ∙ one.entered in
    let rest = deeds_run_as_one c (journal ++ entries_by table deed) one.next (behind_deed table deed) deeds few grown one.same right.1 (subst (λ o. MayDoAll c o (behind_deed table deed) deeds) one.entered may.1) in
    record {
      later = rest.later;
      entered = ap (state_of c) (sym (append_assoc journal (entries_by table deed) (entries_behind (behind_deed table deed) deeds))) ∙ rest.entered;
      same = rest.same;
    }
