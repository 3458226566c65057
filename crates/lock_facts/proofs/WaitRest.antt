-- The facts of queues between two steps, and steps of the files' side by itself, which keep them.
use Rattle.std.proofs.Common.{◌≡◌, ◌⊎◌, inl, inr, ℕ, Bool, true, false, ◌&&◌, ◌||◌, not, List, [], ◌∷◌, Option, Some, None, is_some, option_map, refl, sym, ap, ◌∙◌, subst, slice_get}
use Rattle.std.proofs.lemmas.Bool.{and_parts}
use Rattle.std.specs.List.{AllByRecursion, list_all}
use Rattle.sprite_ids.specs.declared.StreamNo.{StreamNo}
use Rattle.sprite_ids.specs.declared.TxNo.{TxNo}
use Rattle.process_machine.specs.Machine.{Machine}
use Rattle.packet_bodies.specs.declared.Request.{Request}
use Rattle.packet_bodies.specs.declared.Request.TheVariants as requests
use Rattle.kernel_steps.specs.declared.Input.{Input}
use Rattle.kernel_steps.specs.declared.Input.TheVariants as inputs
use Rattle.client_file_tables.specs.declared.client_files.ClientFiles.{ClientFiles}
use Rattle.client_file_tables.specs.declared.pending.Pending.{Pending}
use Rattle.client_file_tables.specs.declared.pending.Pending.TheVariants as operations
use Rattle.client_file_tables.specs.declared.states.CloseState.{CloseState}
use Rattle.client_file_tables.specs.declared.states.CloseState.TheVariants as closes
use Rattle.client_file_tables.specs.declared.states.DataState.{DataState}
use Rattle.client_file_tables.specs.declared.states.DataState.TheVariants as states
use Rattle.client_file_tables.specs.declared.states.MoveState.{MoveState}
use Rattle.client_file_tables.specs.declared.states.MoveState.TheVariants as moves
use Rattle.client_file_tables.specs.Says.{about_of}
use Rattle.client_file_tables.specs.Steps as tables
use Rattle.client_files.specs.FileSteps.{files_step, takes, takes_request}
use Rattle.client_files.specs.Turns as turning
use Rattle.client_homes.specs.declared.client.ClientProcs.{ClientProcs}
use Rattle.client_homes.specs.declared.process.Proc.{Proc}
use Rattle.client_homes.specs.Procs as procs_of
use Rattle.client_homes.specs.Procs.{proc_at}
use Rattle.client_procs.specs.Boot.{boots}
use Rattle.client_procs.specs.Readers.{with_image}
use Rattle.unix_calls.specs.declared.Description.{Description}
use Rattle.client_facts.specs.FileFacts.{OneOperationEach, close_wants, data_wants, is_queued, move_wants, stands_in, stream_of_fd, wanted_lock}
use Rattle.client_facts.specs.GoingOn.{GoesOn, MayCome, Rests}
use Rattle.client_facts.proofs.StepLaws.{goes_takes}
use Rattle.client_facts.proofs.SteadyLaws.{goes_steady, steady_same}
use Rattle.client_facts.proofs.TurnLaws.{turns_are_enough}
use Rattle.file_walks.proofs.CallWalks as call_walks
use Rattle.file_walks.proofs.Muted as muted
use Rattle.file_facts.proofs.Books.{is_woken}
use Rattle.lock_facts.specs.WaitFacts.{KeepsWaitFacts, LeadsThereIn, close_waits, data_waits, move_waits, waits_for_lock, wants_some}
use Rattle.lock_facts.proofs.Desks.{Holds, IsQueued, Settled, Sound, close_wants_in, named_by, wanted_in}
use Rattle.lock_facts.proofs.RestFacts.{comes_begun}
use Rattle.lock_facts.proofs.WaitAnswers.{answered, call_runs, due_goes, given_up}
use Rattle.lock_facts.proofs.WaitRuns.{going_on_keeps, mute}

-- The lock for which an operation waits

named_same : (o : Option ℕ) (s : ClientFiles) (pid : ℕ) → stream_of_fd pid o s ≡ named_by s.streams.owners pid o
named_same (Some fd) s pid = refl
named_same None s pid = refl

close_same : (state : CloseState) (fds : List ℕ) (s : ClientFiles) (pid : ℕ) → close_wants state pid fds s ≡ close_wants_in s.streams.owners pid state fds
close_same closes.WaitLock fds s pid = named_same (slice_get fds 0) s pid
close_same (closes.Closing tx stream) fds s pid = refl

pub wanted_same : (s : ClientFiles) (pid : ℕ) (operation : Pending) → wanted_lock pid operation s ≡ wanted_in s.streams.owners pid operation
wanted_same s pid (operations.Name call) = refl
wanted_same s pid (operations.Data call) = refl
wanted_same s pid (operations.Sync call) = refl
wanted_same s pid (operations.Close work) = close_same work.state work.fds s pid
wanted_same s pid (operations.Move work) = refl

data_none : (state : DataState) (stream : StreamNo) → data_waits state ≡ false → data_wants state stream ≡ None
data_none states.WaitLock stream e = absurd (cc)
data_none states.Turn stream e = refl
data_none (states.Room tx) stream e = refl
data_none (states.Fetching tx block) stream e = refl
data_none (states.AtServer tx) stream e = refl

close_none : (s : ClientFiles) (pid : ℕ) (fds : List ℕ) (state : CloseState) → close_waits state ≡ false → close_wants state pid fds s ≡ None
close_none s pid fds closes.WaitLock e = absurd (cc)
close_none s pid fds (closes.Closing tx stream) e = refl

move_none : (state : MoveState) (stream : StreamNo) → move_waits state ≡ false → move_wants state stream ≡ None
move_none moves.WaitLock stream e = absurd (cc)
move_none (moves.MovingOut tx kept place) stream e = refl

-- who waits for none wants none
wants_none : (s : ClientFiles) (pid : ℕ) (operation : Pending) → waits_for_lock operation ≡ false → wanted_lock pid operation s ≡ None
wants_none s pid (operations.Name call) e = refl
wants_none s pid (operations.Data call) e = data_none call.state call.stream e
wants_none s pid (operations.Sync call) e = refl
wants_none s pid (operations.Close work) e = close_none s pid work.fds work.state e
wants_none s pid (operations.Move work) e = move_none work.state work.stream e

-- Between two steps

queued_by : (s : ClientFiles) (row : ℕ × Pending) (o : Option StreamNo) → wanted_lock row.0 row.1 s ≡ o → is_some o ≡ true → stands_in row.0 o s ≡ true → IsQueued s.streams.owners s.lock_waits row
queued_by s row (Some stream) e some stands = record { stream = stream; wanted = sym (wanted_same s row.0 row.1) ∙ e; stands = stands }
queued_by s row None e some stands = absurd (cc)

wants_of : (b c : Bool) → (not b || c) ≡ true → b ≡ true → c ≡ true
wants_of true c e f = e
wants_of false c e f = absurd (cc)

all_settled : (s : ClientFiles) (rows : List (ℕ × Pending)) → AllByRecursion (LeadsThereIn s) rows → list_all (wants_some s) rows ≡ true → list_all (is_queued s) rows ≡ true → AllByRecursion (Settled s.streams.owners s.lock_waits s.ready) rows
all_settled s [] leads wants queued = tt
all_settled s (row ∷ rows) leads wants queued =
    let want = and_parts (wants_some s row) (list_all (wants_some s) rows) wants in
    let stand = and_parts (is_queued s row) (list_all (is_queued s) rows) queued in (
      record {
        leads = leads.0;
        waits_on = λ e. inr (queued_by s row (wanted_lock row.0 row.1 s) refl (wants_of (waits_for_lock row.1) (is_some (wanted_lock row.0 row.1 s)) want.0 e) stand.0);
      },
      all_settled s rows leads.1 want.1 stand.1,
    )

-- at first
pub begun : (next : TxNo) (step : ℕ) (s : ClientFiles) → KeepsWaitFacts s → Holds (tables.begins next step s)
begun next step s facts = record { rows = all_settled s s.pending facts.at_streams facts.wants facts.queued; lawful = facts.table }

record Ended (s : ClientFiles) (row : ℕ × Pending) : Type 0 where
  wants : wants_some s row ≡ true
  queued : is_queued s row ≡ true

-- and at last, where nobody is woken
ended_by : (s : ClientFiles) (row : ℕ × Pending) (b : Bool) → waits_for_lock row.1 ≡ b → Settled s.streams.owners s.lock_waits [] row → Ended s row
ended_by s row false e settled = record {
  wants = ap (λ (b : Bool). not b || is_some (wanted_lock row.0 row.1 s)) e;
  queued = ap (λ (o : Option StreamNo). stands_in row.0 o s) (wants_none s row.0 row.1 e);
}
ended_by s row true e settled = by_case (settled.waits_on e)
  where
    by_case : (is_woken row.0 [] ≡ true) ⊎ IsQueued s.streams.owners s.lock_waits row → Ended s row
    by_case (inl woken) = absurd (cc)
    by_case (inr q) =
        let wanted : wanted_lock row.0 row.1 s ≡ Some q.stream = wanted_same s row.0 row.1 ∙ q.wanted in
        record {
          wants = ap (λ (b : Bool). not b || is_some (wanted_lock row.0 row.1 s)) e ∙ ap is_some wanted;
          queued = ap (λ (o : Option StreamNo). stands_in row.0 o s) wanted ∙ q.stands;
        }

record AllEnded (s : ClientFiles) (rows : List (ℕ × Pending)) : Type 0 where
  leads : AllByRecursion (LeadsThereIn s) rows
  wants : list_all (wants_some s) rows ≡ true
  queued : list_all (is_queued s) rows ≡ true

all_ended : (s : ClientFiles) (rows : List (ℕ × Pending)) → AllByRecursion (Settled s.streams.owners s.lock_waits []) rows → AllEnded s rows
all_ended s [] all = record { leads = tt; wants = refl; queued = refl }
all_ended s (row ∷ rows) all =
    let first = ended_by s row (waits_for_lock row.1) refl all.0 in
    let rest = all_ended s rows all.1 in
    record {
      leads = (all.0.leads, rest.leads);
      wants = ap (λ (b : Bool). b && list_all (wants_some s) rows) first.wants ∙ rest.wants;
      queued = ap (λ (b : Bool). b && list_all (is_queued s) rows) first.queued ∙ rest.queued;
    }

pub ended : (s : ClientFiles) → s.ready ≡ [] → Holds s → KeepsWaitFacts (tables.said s)
ended s quiet p =
    let rows = all_ended (tables.said s) s.pending (subst (λ (ready : List ℕ). AllByRecursion (Settled s.streams.owners s.lock_waits ready) s.pending) quiet p.rows) in
    record { table = p.lawful; at_streams = rows.leads; wants = rows.wants; queued = rows.queued; rests = quiet }

-- Steps of the files' side

requested : (body : Request) (tx : TxNo) (s : ClientFiles) → Holds s → Holds (takes_request tx body s)
requested (requests.Callback request) tx s p = muted.called_back Holds (mute Sound) tx request s p
requested body tx s p = p

taken : (input : Input) (s : ClientFiles) → OneOperationEach s → Holds s → Holds (takes input s)
taken (inputs.Issued pid number call) s once p = call_walks.issues (λ (other : ℕ). Holds) Holds call_runs (about_of pid number) call None s p
taken (inputs.Request tx source body) s once p = requested body tx s p
taken (inputs.Replied tx source body) s once p = answered s tx source body once p
taken (inputs.GaveUp tx) s once p = given_up s tx once p
taken (inputs.Due file block) s once p = due_goes file block s p
taken (inputs.PageNeeded pid page) s once p = p

pub file_step_keeps_wait_facts : (s : ClientFiles) (input : Input) (next : TxNo) (step : ℕ) → MayCome input s → Rests s → KeepsWaitFacts s → KeepsWaitFacts (files_step s input next step).0
file_step_keeps_wait_facts s input next step may rests facts =
    let first : ClientFiles = tables.begins next step s in
    let come : ClientFiles = takes input first in
    let goes : GoesOn come = goes_takes input first (comes_begun input s next step may) (goes_steady s first (steady_same s first refl refl refl) rests.goes) in
    let so : Holds come = taken input first rests.goes.may.one_each (begun next step s facts) in
    ended (turning.goes_on come) (turns_are_enough come goes.may) (going_on_keeps come goes.may.one_each so)

-- Beginning, and images

pub begins_with_wait_facts : (c : Description) (kernel : ℕ) → KeepsWaitFacts (boots c kernel).files
begins_with_wait_facts c kernel = record { table = record { owners_once = tt; entries_once = tt; are_open = λ number. refl; are_placed = tt }; at_streams = tt; wants = refl; queued = refl; rests = refl }

image_by : (o : Option Proc) (s : ClientProcs) (pid : ℕ) (image : Machine) → KeepsWaitFacts s.files → KeepsWaitFacts (procs_of.with_proc pid (option_map {T = Proc} (λ proc. record proc { image = image }) o) s).files
image_by None s pid image facts = facts
image_by (Some proc) s pid image facts = facts

pub image_keeps_wait_facts : (s : ClientProcs) (pid : ℕ) (image : Machine) → KeepsWaitFacts s.files → KeepsWaitFacts (with_image pid image s).files
image_keeps_wait_facts s pid image facts = image_by (proc_at pid s) s pid image facts
