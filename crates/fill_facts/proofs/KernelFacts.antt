-- Each step of a client's kernel keeps that the first of those that fill does so.
use Rattle.std.proofs.Common.{arith, ◌≡◌, inl, inr, ℕ, ◌≤◌, ◌==◌, Bool, true, false, ◌&&◌, ◌||◌, not, cond, List, [], ◌∷◌, Option, Some, None, option_map, refl, sym, ap, ◌∙◌, subst}
use Rattle.std.proofs.lemmas.Bool.{and_from, and_parts}
use Rattle.std.specs.List.{find, list_all}
use Rattle.sprite_ids.specs.declared.TxNo.{TxNo}
use Rattle.kernel_steps.specs.declared.Input.{Input}
use Rattle.kernel_steps.specs.Rows.{is_under}
use Rattle.process_machine.specs.Machine.{Machine}
use Rattle.unix_calls.specs.declared.Description.{Description}
use Rattle.client_file_tables.specs.declared.client_files.ClientFiles.{ClientFiles}
use Rattle.client_file_tables.specs.declared.pending.Pending.{Pending}
use Rattle.client_file_tables.specs.declared.pending.Pending.TheVariants as operations
use Rattle.client_file_tables.specs.declared.states.DataState.{DataState}
use Rattle.client_file_tables.specs.declared.states.DataState.TheVariants as states
use Rattle.client_file_tables.specs.Closes as file_closes
use Rattle.client_file_tables.specs.Rows.{first_of, same_pid}
use Rattle.client_file_tables.specs.Steps as tables
use Rattle.client_homes.specs.declared.client.ClientProcs.{ClientProcs}
use Rattle.client_homes.specs.declared.process.Proc.{Proc}
use Rattle.client_homes.specs.Procs as procs_of
use Rattle.client_homes.specs.Procs.{proc_at}
use Rattle.client_procs.specs.Boot.{boots}
use Rattle.client_procs.specs.Readers.{with_image}
use Rattle.client_procs.specs.Steps as stepping
use Rattle.client_procs.specs.Steps.{client_step}
use Rattle.client_procs.specs.Turning as turning
use Rattle.client_facts.specs.FileFacts.{TurnsAreInOrder, are_in_order, does, fills_now, is_filler, is_filling_now, is_turn, is_waiting_for_turn, needs_blocks}
use Rattle.client_walks.specs.Hands.{brought}
use Rattle.client_walks.specs.PlacesOnce.{InHand, PlacesAreOnce}
use Rattle.client_walks.proofs.SideBearing.{BearsSide}
use Rattle.client_rounds.specs.OneThing.{OneThingEach}
use Rattle.client_rounds.proofs.OneLaws.{steps_are_enough}
use Rattle.file_walks.proofs.CallWalks as call_walks
use Rattle.file_walks.proofs.Muted as muted
use Rattle.file_facts.proofs.KernelFacts.{quiet_ready}
use Rattle.lock_facts.specs.TurnFacts.{needs_some, others_wait}
use Rattle.lock_facts.proofs.KernelWalk.{BearsSteps, step_comes}
use Rattle.lock_facts.proofs.RankKernel as turn_facts
use Rattle.fill_facts.specs.FillFacts.{AreShort, KeepsFillFacts, fills_if_short, first_fills, is_long}
use Rattle.fill_facts.proofs.Answers.{answered, call_runs, due_goes, given_up}
use Rattle.fill_facts.proofs.Caches.{eight_of, once_of, roomy_of}
use Rattle.fill_facts.proofs.Goes.{Goes, stuck}
use Rattle.fill_facts.proofs.Runs.{Holds, going_on_keeps, mute, start}

on_if : (b : Bool) (s t : ClientFiles) → Holds s → Holds t → Holds (cond b s t)
on_if true s t p q = p
on_if false s t p q = q

side : (came : Input) → BearsSide came Holds
side came = record {
  tells = λ s event e p. p;
  enters = λ s entry cause p. p;
  sends = λ s sending p. p;
  answers = λ s tx body e p. p;
  gives = λ s pid reply p. p;
  closes = λ s pid about p. start s pid (operations.Close (file_closes.ends_by about (file_closes.fds_of pid s))) refl p;
  moves = λ s pid work e p. start s pid (operations.Move work) refl p;
  has_cwd = λ s pid path p. on_if _ _ _ p p;
  drops_cwd = λ s pid p. p;
  forks = λ s parent child p. p;
  takes_report = λ s rest p. p;
  takes_reply = λ s rest p. p;
  issues = λ s about call device e p. call_walks.issues (λ (pid : ℕ). Holds) Holds call_runs about call device s p;
  called_back = λ s tx request p. muted.called_back Holds mute tx request s p;
  due_goes = λ s file block p. due_goes file block s p;
  arrives = λ s pid cwd list items p. muted.arrives Holds mute (λ t given q. q) pid cwd list items s p;
}

bears : BearsSteps Holds
bears = record { side = side; answered = answered; given_up = given_up; goes_on = going_on_keeps }

-- Between two steps

idle_in : (state : DataState) (long : Bool) → (fills_now state || long) ≡ true → (is_turn state && not long) ≡ false
idle_in states.Turn long e = ap not e
idle_in states.WaitLock long e = refl
idle_in (states.Room tx) long e = refl
idle_in (states.Fetching tx block) long e = refl
idle_in (states.AtServer tx) long e = refl

idle_of : (o : Option Pending) → does fills_if_short o ≡ true → does stuck o ≡ false
idle_of None e = refl
idle_of (Some (operations.Name call)) e = refl
idle_of (Some (operations.Data call)) e = idle_in call.state (is_long (operations.Data call)) e
idle_of (Some (operations.Sync call)) e = refl
idle_of (Some (operations.Close work)) e = refl
idle_of (Some (operations.Move work)) e = refl

fills_in : (state : DataState) (long : Bool) → needs_blocks state ≡ true → (is_turn state && not long) ≡ false → (fills_now state || long) ≡ true
fills_in states.WaitLock long needs idle = absurd (cc)
fills_in states.Turn true needs idle = refl
fills_in states.Turn false needs idle = absurd (cc)
fills_in (states.Room tx) long needs idle = refl
fills_in (states.Fetching tx block) long needs idle = refl
fills_in (states.AtServer tx) long needs idle = absurd (cc)

fills_of : (o : Option Pending) → does is_filler o ≡ true → does stuck o ≡ false → does fills_if_short o ≡ true
fills_of None needs idle = absurd (cc)
fills_of (Some (operations.Name call)) needs idle = absurd (cc)
fills_of (Some (operations.Data call)) needs idle = fills_in call.state (is_long (operations.Data call)) needs idle
fills_of (Some (operations.Sync call)) needs idle = absurd (cc)
fills_of (Some (operations.Close work)) needs idle = absurd (cc)
fills_of (Some (operations.Move work)) needs idle = absurd (cc)

goes_of : (fillers : List ℕ) (s : ClientFiles) → first_fills fillers s ≡ true → Goes s.pending fillers s.ready
goes_of [] s e = tt
goes_of (first ∷ rest) s e = inl (idle_of (first_of first s.pending) e)

first_of_goes : (fillers : List ℕ) (s : ClientFiles) → list_all (needs_some s) fillers ≡ true → Goes s.pending fillers [] → first_fills fillers s ≡ true
first_of_goes [] s needs h = refl
first_of_goes (first ∷ rest) s needs (inl idle) = fills_of (first_of first s.pending) (and_parts (needs_some s first) (list_all (needs_some s) rest) needs).0 idle
first_of_goes (first ∷ rest) s needs (inr woken) = absurd (cc)

-- A step

pub step_keeps_fill_facts : (s : ClientProcs) (input : Input) (next : TxNo) (step : ℕ) → InHand (brought input s) s → PlacesAreOnce s → OneThingEach s → KeepsFillFacts s.files → KeepsFillFacts (client_step s input next step).0.files
step_keeps_fill_facts s input next step hand places one facts =
    let gone : ClientProcs = turning.goes_on (stepping.takes input (stepping.begins_step next step s)) in
    let at_first : Holds (tables.begins next step s.files) = (roomy_of s.files.cache facts.cache, goes_of s.files.fillers s.files facts.first) in
    let so : Holds gone.files = step_comes Holds bears s input next step hand places one at_first in
    let turns = turn_facts.step_keeps_turn_facts s input next step hand places one facts.turns in
    record {
      turns = turns;
      cache = eight_of gone.files.cache so.0;
      first = first_of_goes gone.files.fillers (tables.said gone.files) turns.needs (subst (λ (ready : List ℕ). Goes gone.files.pending gone.files.fillers ready) (quiet_ready gone (steps_are_enough s input next step hand places one)) so.1);
    }

-- What follows

no_long : (pid : ℕ) (row : ℕ × Pending) (o : Option (ℕ × Pending)) (b : Bool) → not (is_long row.1) ≡ true → does is_long (option_map (λ (row : ℕ × Pending). row.1) o) ≡ false → does is_long (option_map (λ (row : ℕ × Pending). row.1) (cond b (Some row) o)) ≡ false
no_long pid row o true e later = by_test (is_long row.1) e
  where
    by_test : (b : Bool) → not b ≡ true → b ≡ false
    by_test true e = absurd (cc)
    by_test false e = refl
no_long pid row o false e later = later

short_found : (pid : ℕ) (rows : List (ℕ × Pending)) → list_all (λ (row : ℕ × Pending). not (is_long row.1)) rows ≡ true → does is_long (first_of pid rows) ≡ false
short_found pid [] e = refl
short_found pid (row ∷ rest) e =
    let parts = and_parts (not (is_long row.1)) (list_all (λ (row : ℕ × Pending). not (is_long row.1)) rest) e in
    no_long pid row (find (is_under same_pid pid) rest) (row.0 == pid) parts.0 (short_found pid rest parts.1)

fills_short : (a b : Bool) → (a || b) ≡ true → b ≡ false → a ≡ true
fills_short true b e f = refl
fills_short false b e f = absurd (let both = sym e ∙ f in cc)

fills_found : (o : Option Pending) → does fills_if_short o ≡ true → does is_long o ≡ false → does is_filling_now o ≡ true
fills_found None e f = absurd (cc)
fills_found (Some operation) e f = fills_short (is_filling_now operation) (is_long operation) e f

in_order : (fillers : List ℕ) (s : ClientFiles) → first_fills fillers s ≡ true → others_wait fillers s ≡ true → AreShort s → are_in_order fillers s ≡ true
in_order [] s first others short = refl
in_order (first ∷ rest) s fills others short = and_from (does is_filling_now (first_of first s.pending)) (list_all (is_waiting_for_turn s) rest) (fills_found (first_of first s.pending) fills (short_found first s.pending short)) others

pub fills_are_in_order : (s : ClientFiles) → KeepsFillFacts s → AreShort s → TurnsAreInOrder s
fills_are_in_order s facts short = in_order s.fillers s facts.first facts.turns.others short

-- Beginning, and images

none_yet : (size : ℕ) → 0 ≤ size
none_yet size = omega arith

pub begins_with_fill_facts : (c : Description) (kernel : ℕ) → 8 ≤ c.cache → KeepsFillFacts (boots c kernel).files
begins_with_fill_facts c kernel eight = record { turns = turn_facts.begins_with_turn_facts c kernel; cache = record { size = eight; fits = none_yet c.cache; once = once_of [] tt }; first = refl }

image_by : (o : Option Proc) (s : ClientProcs) (pid : ℕ) (image : Machine) → KeepsFillFacts s.files → KeepsFillFacts (procs_of.with_proc pid (option_map {T = Proc} (λ proc. record proc { image = image }) o) s).files
image_by None s pid image facts = facts
image_by (Some proc) s pid image facts = facts

pub image_keeps_fill_facts : (s : ClientProcs) (pid : ℕ) (image : Machine) → KeepsFillFacts s.files → KeepsFillFacts (with_image pid image s).files
image_keeps_fill_facts s pid image facts = image_by (proc_at pid s) s pid image facts
