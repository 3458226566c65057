-- What a client's kernel does as a home is what the one-kernel Unix does.
use Rattle.std.specs.Prelude.{◌≡◌, ◌≤◌, true, false, List, [], ◌∷◌, ◌++◌, length, Option, Some, None}
use Rattle.std.specs.Option.{is_some}
use Rattle.sprite_ids.specs.Pid.{birth_of}
use Rattle.process_machine.specs.declared.Call.TheVariants as call
use Rattle.home_table.specs.Home.{Table, is_pending_at}
use Rattle.unix_calls.specs.declared.Description.{Description}
use Rattle.unix_calls.specs.declared.Entry.{Entry}
use Rattle.unix_calls.specs.State.{Unix}
use Rattle.unix_calls.specs.After.{after, state_from, state_of}
use Rattle.home_laws.specs.Homes.{TellsTheSame}
use Rattle.home_laws.specs.Calls.{Calls, MayCall}
use Rattle.home_laws.specs.Runs.{Answers, Buries, Enters, Kills}
use Rattle.home_laws.specs.Start.{is_of_home}
use Rattle.home_acts.specs.Deeds.{AreRight, Deed, Does, Places, behind_deed, entries_behind, entries_by, table_behind}
use Rattle.home_acts.specs.Laws.{IsCodeWithin}

-- what a deed asks of the process: the call is its next one, and within its limits; the `kill` is; the table has a kill of it pending, and
-- it is in no ask; another entry is one that the one-kernel Unix makes, and not a home's
abbrev pub MayDo : Description → Unix → Table → Deed → Type 0
MayDo c u table (Does (Answers pid number called reply)) = Calls c u pid number called × IsCodeWithin called
MayDo c u table (Does (Kills pid number target)) = Calls c u pid number (call.Kill target) × (1 ≤ birth_of target)
MayDo c u table (Does (Buries pid number)) = MayCall u pid number × (is_pending_at table pid ≡ true)
MayDo c u table (Does (Enters e)) = (is_some (after c u e) ≡ true) × (is_of_home e.part e.call ≡ false)
MayDo c u table (Places pid kernel) = Unit {0}

-- one after another, each in the state and with the table behind the one before it
abbrev pub MayDoAll : Description → Option Unix → Table → List Deed → Type 0
MayDoAll c None table deeds = Unit {0}
MayDoAll c (Some u) table [] = Unit {0}
MayDoAll c (Some u) table (deed ∷ deeds) = MayDo c u table deed × MayDoAll c (state_from c (Some u) (entries_by table deed)) (behind_deed table deed) deeds

-- their entries are a history of the one-kernel Unix, and the table behind them tells the same as it
pub record AreAsOne (c : Description) (journal : List Entry) (table : Table) (deeds : List Deed) : Type 0 where
  pub later : Unix
  pub entered : state_of c (journal ++ entries_behind table deeds) ≡ Some later
  pub same : TellsTheSame (table_behind table deeds) later

abbrev pub DeedsRunAsOne : Type 0
DeedsRunAsOne = (c : Description) (journal : List Entry) (u : Unix) (table : Table) (deeds : List Deed)
    → length c.starts ≤ 200 → state_of c journal ≡ Some u → TellsTheSame table u → AreRight c table deeds → MayDoAll c (Some u) table deeds → AreAsOne c journal table deeds
